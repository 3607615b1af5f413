-- A log that is read by the iterator of its rows. Assumes nothing.
use Rattle.std.proofs.Common.{◌≡◌, ℕ, ◌<◌, List, length, drop, Some, None, Option, Ok, Err, Result, sym, ◌∙◌, subst, MatchResult}
use Rattle.refusal.specs.declared.Refusal.{Refusal}
use Rattle.field.specs.Model.{FieldModel}
use Rattle.field.specs.declared.Field.{Ghosts}
use Rattle.checks.specs.CheckedRows.{row_of}
use Rattle.answer_log.specs.declared.reading.LogEntry.{LogEntry}
use Rattle.answer_log.specs.declared.rows.LogRows.{LogRows}
use Rattle.answer_log.specs.Entries.{EntryCheck, RowAt}
use Rattle.answer_log.specs.Logs.{RowsCheck}
use Rattle.answer_log.specs.Steps.{number, Step}
use Rattle.answer_log.proofs.Logs.{row_passed, row-refused, row_fine, rows_left, excluded}

module _ {V F : Type 0} {G : Ghosts F} (M : FieldModel) (s t : LogRows V) (x : Result (LogEntry F G) Refusal) (step : Step M s x t) where
  module _ (bytes : List ℕ) (n : ℕ) (whole : s.bytes.now ≡ bytes) (count : s.n ≡ n) where
    pub whole_still : t.bytes.now ≡ bytes
    whole_still = step.bytes ∙ whole

    pub count-still : t.n ≡ n
    count-still = step.count ∙ count

    pub left_within : s.at < length bytes
    left_within = subst (λ (bs : List ℕ). s.at < length bs) whole step.left

    Told : ℕ → List ℕ → Result (LogEntry F G) Refusal → Type 0
    Told m bs y =
        MatchResult y (λ e. RowAt M m (number s) bs s.at (row_of e.row) e.figure.0 e.next × (e.row.count ≡ m) × (t.at ≡ e.next))
        (λ e. EntryCheck M m (number s) (drop s.at bs) (Some e) × (t.at ≡ length bs))

    told : Told n bytes x
    unfolding Told
    told = subst (λ (m : ℕ). Told m bytes x) count (subst (λ (bs : List ℕ). Told s.n bs x) whole step.read)

    -- the row that was read
    module _ (e : LogEntry F G) (is : x ≡ Ok e) where
      read : RowAt M n (number s) bytes s.at (row_of e.row) e.figure.0 e.next × (e.row.count ≡ n) × (t.at ≡ e.next)
      unfolding Told
      read = subst (λ (y : Result (LogEntry F G) Refusal). Told n bytes y) is told

      pub row_read : RowAt M n (number s) bytes s.at (row_of e.row) e.figure.0 e.next
      row_read = read.0

      pub row_counts : e.row.count ≡ n
      row_counts = read.1

      pub next-place : t.at ≡ e.next
      next-place = read.2

      pub step_passed : (r : Option Refusal) → RowsCheck M n t.row (drop t.at bytes) r → RowsCheck M n s.row (drop s.at bytes) r
      step_passed r rest =
          row_passed M n s.row bytes s.at (row_of e.row) e.figure.0 e.next left_within row_read r
          (subst (λ (k : ℕ). RowsCheck M n k (drop e.next bytes) r) step.row
          (subst (λ (i : ℕ). RowsCheck M n t.row (drop i bytes) r) next-place rest))

      -- the same, of the place by another name
      module _ (at : ℕ) (here : s.at ≡ at) where
        pub row-here : RowAt M n (number s) bytes at (row_of e.row) e.figure.0 e.next
        row-here = subst (λ (i : ℕ). RowAt M n (number s) bytes i (row_of e.row) e.figure.0 e.next) here row_read

        pub step_left : RowsCheck M n s.row (drop at bytes) None → RowsCheck M n t.row (drop e.next bytes) None
        step_left all =
            subst (λ (k : ℕ). RowsCheck M n k (drop e.next bytes) None) (sym step.row)
            (rows_left M n s.row bytes at (row_of e.row) e.figure.0 e.next (rw (← here) left_within) row-here all)

    -- the row that was refused
    module _ (e : Refusal) (is : x ≡ Err e) where
      bad : EntryCheck M n (number s) (drop s.at bytes) (Some e) × (t.at ≡ length bytes)
      unfolding Told
      bad = subst (λ (y : Result (LogEntry F G) Refusal). Told n bytes y) is told

      pub row_bad : EntryCheck M n (number s) (drop s.at bytes) (Some e)
      row_bad = bad.0

      pub step-refused : RowsCheck M n s.row (drop s.at bytes) (Some e)
      step-refused = row-refused M n s.row bytes s.at left_within e row_bad

      pub step_fine : (at : ℕ) → s.at ≡ at → RowsCheck M n s.row (drop at bytes) None → ⊥
      step_fine at here all =
          excluded M n _ _ e
          (row_fine M n s.row bytes s.at left_within (subst (λ (i : ℕ). RowsCheck M n s.row (drop i bytes) None) (sym here) all)) row_bad
