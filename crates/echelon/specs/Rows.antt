-- Rows with figures, and what they tell of tables, over every field and every count n of members.
--   Figured             a row with the figure given for it
--   row_with r f        the row r with the figure f
--   given_row ws f      the row of these weights with the figure f
--   rows_of given       the rows alone, without their figures
--   RowsCodes M n rows  each row's weights are elements
--   CodedRow M n g      weights and figure of a row are elements
--   FiguresCodes M given   each row's figure is an element
--   Agree M n rows t u  two tables have the same sum over each of the rows
--   Fits M n given t    a table has each figure as its sum
--   Pins M n rows i     any two tables that agree on the rows are equal at member i
--   Fixes M n rows r    any two tables that agree on the rows have one sum over r
-- Assumes nothing.
use Rattle.std.specs.Prelude.{◌≡◌, List, [], ◌∷◌, map, ℕ, ◌<◌}
use Rattle.field.specs.Model.{FieldModel}
use Rattle.field.specs.Sums.{weights_of}
use Rattle.field.specs.declared.Element.{Element}
pub use Rattle.field.specs.Sums.{Vector, Codes, minus}
unfoldable pub use Rattle.field.specs.Sums.{sum}

pub record Figured : Type 0 where
  pub row : Vector
  pub figure : ℕ

abbrev pub row_with : Vector → ℕ → Figured
row_with r f = record { row = r; figure = f }

abbrev pub given_row : List Element → ℕ → Figured
given_row ws f = row_with (weights_of ws) f

abbrev pub rows_of : List Figured → List Vector
rows_of given = map (λ g. g.row) given

abbrev pub RowsCodes : FieldModel → ℕ → List Vector → Type 0
RowsCodes M n [] = Unit {0}
RowsCodes M n (r ∷ rows) = Codes M n r × RowsCodes M n rows

abbrev pub CodedRow : FieldModel → ℕ → Figured → Type 0
CodedRow M n g = Codes M n g.row × (g.figure < M.size)

abbrev pub FiguresCodes : FieldModel → List Figured → Type 0
FiguresCodes M [] = Unit {0}
FiguresCodes M (g ∷ given) = (g.figure < M.size) × FiguresCodes M given

abbrev pub Agree : FieldModel → ℕ → List Vector → Vector → Vector → Type 0
Agree M n [] t u = Unit {0}
Agree M n (r ∷ rows) t u = (sum M n r t ≡ sum M n r u) × Agree M n rows t u

abbrev pub Fits : FieldModel → ℕ → List Figured → Vector → Type 0
Fits M n [] t = Unit {0}
Fits M n (g ∷ given) t = (sum M n g.row t ≡ g.figure) × Fits M n given t

abbrev pub Pins : FieldModel → ℕ → List Vector → ℕ → Type 0
Pins M n rows i = (t u : Vector) → Codes M n t → Codes M n u → Agree M n rows t u → t i ≡ u i

abbrev pub Fixes : FieldModel → ℕ → List Vector → Vector → Type 0
Fixes M n rows r = (t u : Vector) → Codes M n t → Codes M n u → Agree M n rows t u → sum M n r t ≡ sum M n r u
