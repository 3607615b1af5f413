-- Rows, tables and sums, over every field and every count n of members.
--   Vector              a row or a table: a code for each member
--   Codes M n t         the codes at the n members are elements: a table, or a row that passed its checks
--   minus M a b         the difference of two elements
--   weights_of es       a list of elements, as a row
--   sum M n row t       the field sum of weight times value, over the members in rising number
-- Assumes nothing.
use Rattle.std.specs.Prelude.{ℕ, zero, suc, ◌<◌, List, slice_index_or}
use Rattle.field.specs.Model.{FieldModel}
use Rattle.field.specs.declared.Element.{Element}

abbrev pub Vector : Type 0
Vector = ℕ → ℕ

abbrev pub Codes : FieldModel → ℕ → Vector → Type 0
Codes M n t = (m : ℕ) → m < n → t m < M.size

abbrev pub minus : FieldModel → ℕ → ℕ → ℕ
minus M a b = M.plus a (M.opposite b)

unfoldable pub sum : FieldModel → ℕ → Vector → Vector → ℕ
sum M zero row t = 0
sum M (suc n) row t = M.plus (sum M n row t) (M.times (row n) (t n))

-- the codes of some elements, 0 past the last
abbrev pub weights_of : List Element → Vector
weights_of es m = (slice_index_or es m (record { 0 = 0 })).0
