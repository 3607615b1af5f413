-- Gaussian elimination, one row at a time: the steps, as the laws of Theorems.antt speak of them.
--   cleared M e g         g less that multiple of e which takes its weight at e's pivot to 0
--   leftover M rec g      g cleared by every record row
--   scaled M c g          c times g
--   with_pivot p g        a row as a record row with the pivot p
--   pivot_cleared M e d   a record row cleared by e; its pivot stays
--   joined M e k rec      e put in before row k of the record, once its pivot is cleared from every row
--   AloneWith M n rec e i member i stands alone in a record row cleared by e, or in e
-- Assumes nothing.
use Rattle.std.specs.Prelude.{◌≡◌, ◌<◌, ◌⊎◌, List, [], ◌∷◌, ◌++◌, map, ℕ, length, take, drop}
use Rattle.field.specs.Model.{FieldModel}
use Rattle.echelon.specs.Rows.{minus, Figured}
use Rattle.echelon.specs.Reduced.{Pivoted, figured, at, Alone}

abbrev pub cleared : FieldModel → Pivoted → Figured → Figured
cleared M e g = record {
  row = λ m. minus M (g.row m) (M.times (g.row e.pivot) (e.weights m));
  figure = minus M g.figure (M.times (g.row e.pivot) e.figure);
}

abbrev pub leftover : FieldModel → List Pivoted → Figured → Figured
leftover M [] g = g
leftover M (e ∷ rec) g = leftover M rec (cleared M e g)

abbrev pub scaled : FieldModel → ℕ → Figured → Figured
scaled M c g = record { row = λ m. M.times c (g.row m); figure = M.times c g.figure }

-- a row as a record row with that pivot
abbrev pub with_pivot : ℕ → Figured → Pivoted
with_pivot p g = record { pivot = p; weights = g.row; figure = g.figure }

abbrev pub pivot_cleared : FieldModel → Pivoted → Pivoted → Pivoted
pivot_cleared M e d = with_pivot d.pivot (cleared M e (figured d))

abbrev pub joined : FieldModel → Pivoted → ℕ → List Pivoted → List Pivoted
joined M e k rec = let rest = map (pivot_cleared M e) rec in take k rest ++ e ∷ drop k rest

-- member i stands alone in a record row cleared by e, or in e itself
abbrev pub AloneWith : FieldModel → ℕ → List Pivoted → Pivoted → ℕ → Type 0
AloneWith M n rec e i =
    ((a : ℕ) × (a < length rec) × ((at rec a).pivot ≡ i) × Alone n (pivot_cleared M e (at rec a)).weights i)
    ⊎ ((e.pivot ≡ i) × Alone n e.weights i)
