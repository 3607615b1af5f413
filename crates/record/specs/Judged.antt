-- What the record is asked, and what it answers, in terms of tables.
--   Judged M n rec r j       j is the judgement of the row r: fixed, pins a member, or free to join
--   Adds M n rec g rec'      rec' is the reduced form of whatever rec is the reduced form of, with g added
--   FitsBoth M n rec g rec'  a table fits rec' exactly when it fits rec and has the figure of g
--   Admitted M n rec r f rec' a   a is what admitting the row r with the figure f answers, and rec' the record after it
-- Assumes nothing.
use Rattle.std.specs.Prelude.{◌≡◌, ℕ, ◌<◌, ◌≤◌, List, ◌∷◌, Ok, Err, Result}
use Rattle.refusal.specs.declared.Refusal.{Refusal}
use Rattle.refusal.specs.declared.Refusal.TheVariants.{NotAnElement, Discloses}
use Rattle.refusal.specs.declared.Site.TheVariants.{Nothing, OfMember}
use Rattle.field.specs.Model.{FieldModel}
use Rattle.field.specs.Sums.{Vector, Codes}
use Rattle.server.specs.Checks.{Lowest}
use Rattle.echelon.specs.Rows.{Figured, rows_of, RowsCodes, Fits, Fixes, row_with}
use Rattle.echelon.specs.Reduced.{Pivoted, all_figured, record_rows, PinnedWith, FixedFigure, ReducedForm}
use Rattle.record.specs.declared.judge.Judgement.{Judgement}
use Rattle.record.specs.declared.judge.Judgement.TheVariants.{Fixed, Pinning, Free}
use Rattle.record.specs.declared.judge.Admission.{Admission}
use Rattle.record.specs.declared.judge.Admission.TheVariants.{Joined, Kept}

pub data Judged (M : FieldModel) (n : ℕ) (rec : List Pivoted) (r : Vector) : Judgement → Type 0 where
  fixed :
      Fixes M n (record_rows rec) r → (f : ℕ) → FixedFigure M n rec r f → Judged M n rec r (Fixed (record { 0 = f }))
  pins :
      (Fixes M n (record_rows rec) r → ⊥) → (i : ℕ) → Lowest (PinnedWith M n rec r) i → Judged M n rec r (Pinning (record { 0 = i }))
  free : (Fixes M n (record_rows rec) r → ⊥) → ((i : ℕ) → PinnedWith M n rec r i → ⊥) → Judged M n rec r Free

abbrev pub Adds : FieldModel → ℕ → List Pivoted → Figured → List Pivoted → Type 0
Adds M n rec g rec' =
    (given : List Figured) → RowsCodes M n (rows_of given) → ReducedForm M n given rec → ReducedForm M n (g ∷ given) rec'

abbrev pub FitsBoth : FieldModel → ℕ → List Pivoted → Figured → List Pivoted → Type 0
FitsBoth M n rec g rec' =
    (t : Vector) → Codes M n t
    → (Fits M n (all_figured rec') t → Fits M n (g ∷ all_figured rec) t)
    × (Fits M n (g ∷ all_figured rec) t → Fits M n (all_figured rec') t)

pub data Admitted (M : FieldModel) (n : ℕ) (rec : List Pivoted) (r : Vector) (f : ℕ) (rec' : List Pivoted) :
    Result Admission Refusal → Type 0 where
  no_figure : M.size ≤ f → rec' ≡ rec → Admitted M n rec r f rec' (Err (NotAnElement Nothing))
  kept :
      f < M.size → Fixes M n (record_rows rec) r → rec' ≡ rec → Adds M n rec (row_with r f) rec'
      → Admitted M n rec r f rec' (Ok Kept)
  discloses :
      f < M.size → (i : ℕ) → Judged M n rec r (Pinning (record { 0 = i })) → rec' ≡ rec
      → Admitted M n rec r f rec' (Err (Discloses (OfMember (record { 0 = i }))))
  joined :
      f < M.size → Judged M n rec r Free → FitsBoth M n rec (row_with r f) rec' → Adds M n rec (row_with r f) rec'
      → Admitted M n rec r f rec' (Ok Joined)
