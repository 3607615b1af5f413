-- The witness table of a record, for a member and an element.
--   Free rec m              m is no row's pivot
--   base rec                the table B: each record row's figure at its pivot, 0 at every free member
--   direction M rec j       the table N(j): 1 at j, 0 at other free members, at each pivot the opposite of that row's weight at j
--   Leads M n rec i a j t   the free member j and the factor t that member i and element a call for
--   Witness M n rec i a w   w is B plus t times N(j)
-- Assumes nothing.
use Rattle.std.specs.Prelude.{◌≡◌, ◌≢◌, true, false, List, [], ◌∷◌, ℕ, ◌<◌, eqb, length}
use Rattle.field.specs.Model.{FieldModel}
use Rattle.echelon.specs.Rows.{Vector, minus}
use Rattle.echelon.specs.Reduced.{Pivoted, at}

abbrev pub Free : List Pivoted → ℕ → Type 0
Free rec m = (a : ℕ) → a < length rec → (at rec a).pivot ≢ m

abbrev pub base : List Pivoted → Vector
base [] m = 0
base (e ∷ rec) m = elim (eqb e.pivot m) [ true ↦ e.figure | false ↦ base rec m ]

abbrev pub direction : FieldModel → List Pivoted → ℕ → Vector
direction M [] j m = elim (eqb m j) [ true ↦ 1 | false ↦ 0 ]
direction M (e ∷ rec) j m = elim (eqb e.pivot m) [ true ↦ M.opposite (e.weights j) | false ↦ direction M rec j m ]

-- j is the lowest free member that the row names
pub record LowestFree (n : ℕ) (rec : List Pivoted) (row : Vector) (j : ℕ) : Type 0 where
  pub below : j < n
  pub is_free : Free rec j
  pub named : row j ≢ 0
  pub lowest : (k : ℕ) → k < j → Free rec k → row k ≡ 0

pub data Leads (M : FieldModel) (n : ℕ) (rec : List Pivoted) (i a : ℕ) : ℕ → ℕ → Type 0 where
  from_free : Free rec i → Leads M n rec i a i a
  from_pivot :
      (r j : ℕ) → r < length rec → (at rec r).pivot ≡ i → LowestFree n rec (at rec r).weights j
      → Leads M n rec i a j (M.times (minus M (base rec i) a) (M.inverse ((at rec r).weights j)))

pub record Witness (M : FieldModel) (n : ℕ) (rec : List Pivoted) (i a : ℕ) (w : Vector) : Type 0 where
  pub member : ℕ
  pub factor : ℕ
  pub leads : Leads M n rec i a member factor
  pub table : (m : ℕ) → m < n → w m ≡ M.plus (base rec m) (M.times factor (direction M rec member m))
