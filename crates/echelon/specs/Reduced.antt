-- The reduced echelon form of rows with figures.
--   Pivoted                  a record row: its pivot, its weights, its figure
--   at rec a                 record row a
--   figured, all_figured     a record row, and all of them, as rows with figures
--   record_rows rec          the rows of a record alone, without their figures
--   Reduced M n rec          the record rows are in reduced echelon form, over elements
--   Alone n row i            the row names member i, and no other
--   NoneAlone n rec          no record row names its pivot alone
--   PinnedWith M n rec r i   member i is pinned by the record's rows with r
--   FixedFigure M n rec r f  every table that fits the record has the sum f over r
--   FitsGiven M n given t    t has each figure given, but for rows that the ones before fix: those add no figure
--   ReducedForm M n given rec   rec is reduced, and the same tables fit it as fit what was given
--   Same n rec rec'          two records are equal, row by row, at the n members
-- Lists of given rows have the newest first; a record has its rows by rising pivot.
-- Assumes nothing.
use Rattle.std.specs.Prelude.{◌≡◌, ◌≢◌, List, [], ◌∷◌, map, ℕ, ◌<◌, length, get_or}
use Rattle.field.specs.Model.{FieldModel}
use Rattle.echelon.specs.Rows.{Vector, Codes, sum, Figured, rows_of, Fits, Pins, Fixes}

pub record Pivoted : Type 0 where
  pub pivot : ℕ
  pub weights : Vector
  pub figure : ℕ

abbrev pub figured : Pivoted → Figured
figured e = record { row = e.weights; figure = e.figure }

abbrev pub all_figured : List Pivoted → List Figured
all_figured rec = map figured rec

abbrev pub record_rows : List Pivoted → List Vector
record_rows rec = rows_of (all_figured rec)

abbrev pub no_row : Pivoted
no_row = record { pivot = 0; weights = λ m. 0; figure = 0 }

-- record row a
abbrev pub at : List Pivoted → ℕ → Pivoted
at rec a = get_or rec a no_row

pub record Reduced (M : FieldModel) (n : ℕ) (rec : List Pivoted) : Type 0 where
  pub weights_codes : (a : ℕ) → a < length rec → Codes M n (at rec a).weights
  pub figure_code : (a : ℕ) → a < length rec → (at rec a).figure < M.size
  pub pivot_below : (a : ℕ) → a < length rec → (at rec a).pivot < n
  pub pivots_rise : (a b : ℕ) → a < b → b < length rec → (at rec a).pivot < (at rec b).pivot
  pub own_pivot : (a : ℕ) → a < length rec → (at rec a).weights (at rec a).pivot ≡ 1
  pub lowest_named : (a m : ℕ) → a < length rec → m < (at rec a).pivot → (at rec a).weights m ≡ 0
  pub other_pivots : (a b : ℕ) → a < length rec → b < length rec → a ≢ b → (at rec a).weights (at rec b).pivot ≡ 0

abbrev pub Alone : ℕ → Vector → ℕ → Type 0
Alone n row i = (row i ≢ 0) × ((m : ℕ) → m < n → m ≢ i → row m ≡ 0)

abbrev pub NoneAlone : ℕ → List Pivoted → Type 0
NoneAlone n rec = (a : ℕ) → a < length rec → Alone n (at rec a).weights (at rec a).pivot → ⊥

-- member i is pinned by the record's rows with r
abbrev pub PinnedWith : FieldModel → ℕ → List Pivoted → Vector → ℕ → Type 0
PinnedWith M n rec r i = (i < n) × Pins M n (r ∷ record_rows rec) i

abbrev pub FixedFigure : FieldModel → ℕ → List Pivoted → Vector → ℕ → Type 0
FixedFigure M n rec r f = (t : Vector) → Codes M n t → Fits M n (all_figured rec) t → sum M n r t ≡ f

abbrev pub FitsGiven : FieldModel → ℕ → List Figured → Vector → Type 0
FitsGiven M n [] t = Unit {0}
FitsGiven M n (g ∷ given) t =
    ((Fixes M n (rows_of given) g.row → ⊥) → sum M n g.row t ≡ g.figure) × FitsGiven M n given t

pub record ReducedForm (M : FieldModel) (n : ℕ) (given : List Figured) (rec : List Pivoted) : Type 0 where
  pub reduced : Reduced M n rec
  pub fits : (t : Vector) → Codes M n t → FitsGiven M n given t → Fits M n (all_figured rec) t
  pub given_fits : (t : Vector) → Codes M n t → Fits M n (all_figured rec) t → FitsGiven M n given t

pub record Same (n : ℕ) (rec rec' : List Pivoted) : Type 0 where
  pub lengths : length rec ≡ length rec'
  pub pivots : (a : ℕ) → a < length rec → (at rec a).pivot ≡ (at rec' a).pivot
  pub figures : (a : ℕ) → a < length rec → (at rec a).figure ≡ (at rec' a).figure
  pub weights : (a m : ℕ) → a < length rec → m < n → (at rec a).weights m ≡ (at rec' a).weights m
