-- An audit in memory: a record, and the row that is open, if any.
--   audited a              its record
--   opened a               the open row, with its permit
--   PinnedBeside M a r i   member i is pinned by the record's rows with r
--   Answered M n rec o f rec' s   s is what the answer f to the open row o comes to, and rec' the record after it
--   AnsweredIn a f a' s    the same of two audits in memory
-- Assumes nothing.
use Rattle.std.specs.Prelude.{◌≡◌, ℕ, ◌<◌, ◌≤◌, List, Some, None, Option, Ok, Err, Result, option_map}
use Rattle.refusal.specs.declared.Refusal.{Refusal}
use Rattle.refusal.specs.declared.Refusal.TheVariants.{NotAnElement, NotTheOpenPermit}
use Rattle.refusal.specs.declared.Site.TheVariants.{Nothing}
use Rattle.field.specs.declared.Field.{Ghosts}
use Rattle.field.specs.Model.{FieldModel}
use Rattle.field.specs.Sums.{Vector}
use Rattle.checks.specs.declared.row.CheckedRow.{CheckedRow}
use Rattle.checks.specs.CheckedRows.{row_of}
use Rattle.echelon.specs.Rows.{Fixes, row_with}
use Rattle.echelon.specs.Reduced.{Pivoted, record_rows, PinnedWith}
use Rattle.record.specs.Judged.{Adds, FitsBoth}
use Rattle.record.specs.Records.{record_members, rec_of}
use Rattle.record.specs.declared.judge.Admission.{Admission}
use Rattle.record.specs.declared.judge.Admission.TheVariants.{Joined, Kept}
use Rattle.record.specs.declared.record.Record.{Record}
use Rattle.record.specs.declared.audit.Audit.{Audit}

abbrev pub audited : {F : Type 0} {G : Ghosts F} → Audit F G → Record F G
audited a = a.«record»

abbrev pub opened : {F : Type 0} {G : Ghosts F} → Audit F G → Option (ℕ × CheckedRow F G)
opened a = option_map (λ p. (p.permit, p.row)) a.pending

abbrev pub PinnedBeside : {F : Type 0} {G : Ghosts F} → FieldModel → Audit F G → Vector → ℕ → Type 0
PinnedBeside M a r i = PinnedWith M a.«record».count (rec_of a.«record») r i

pub data Answered {F : Type 0} {G : Ghosts F} (M : FieldModel) (n : ℕ) (rec : List Pivoted) (o : Option (ℕ × CheckedRow F G)) (f : ℕ)
    (rec' : List Pivoted) : Result Admission Refusal → Type 0 where
  none_open : o ≡ None → rec' ≡ rec → Answered M n rec o f rec' (Err NotTheOpenPermit)
  no_figure :
      (p : ℕ × CheckedRow F G) → o ≡ Some p → M.size ≤ f → rec' ≡ rec → Answered M n rec o f rec' (Err (NotAnElement Nothing))
  kept :
      (p : ℕ × CheckedRow F G) → o ≡ Some p → f < M.size → Fixes M n (record_rows rec) (row_of p.1) → rec' ≡ rec
      → Adds M n rec (row_with (row_of p.1) f) rec' → Answered M n rec o f rec' (Ok Kept)
  joined :
      (p : ℕ × CheckedRow F G) → o ≡ Some p → f < M.size → (Fixes M n (record_rows rec) (row_of p.1) → ⊥)
      → FitsBoth M n rec (row_with (row_of p.1) f) rec' → Adds M n rec (row_with (row_of p.1) f) rec'
      → Answered M n rec o f rec' (Ok Joined)

abbrev pub AnsweredIn : {F : Type 0} {G : Ghosts F} → Audit F G → ℕ → Audit F G → Result Admission Refusal → Type 0
AnsweredIn {G = G} a f a' s =
    Answered G.model (record_members (audited a)) (rec_of (audited a)) (opened a) f (rec_of (audited a')) s
