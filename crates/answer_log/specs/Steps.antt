-- One row of a log after another.
--   Step M s x t     at its place s the row is read as x, an entry or a refusal, and t goes on behind the row, or ends
--   Next M s r t     the same where a row is left, and no answer where none is
-- Assumes nothing.
use Rattle.std.specs.Prelude.{◌≡◌, ◌+◌, ◌<◌, ◌≤◌, length, drop, Some, Option, Result, MatchOption, MatchResult}
use Rattle.refusal.specs.declared.Refusal.{Refusal}
use Rattle.refusal.specs.declared.LogRow.{LogRow}
use Rattle.field.specs.Model.{FieldModel}
use Rattle.field.specs.declared.Field.{Ghosts}
use Rattle.checks.specs.CheckedRows.{row_of}
use Rattle.answer_log.specs.declared.reading.LogEntry.{LogEntry}
use Rattle.answer_log.specs.declared.rows.LogRows.{LogRows}
use Rattle.answer_log.specs.Entries.{EntryCheck, RowAt}

abbrev pub number : {V : Type 0} → LogRows V → LogRow
number s = record { 0 = s.row }

pub record Step {V F : Type 0} {G : Ghosts F} (M : FieldModel) (s : LogRows V) (x : Result (LogEntry F G) Refusal) (t : LogRows V) : Type 0 where
  pub left : s.at < length s.bytes.now
  pub bytes : t.bytes.now ≡ s.bytes.now
  pub count : t.n ≡ s.n
  pub row : t.row ≡ s.row + 1
  pub read :
      MatchResult x
      (λ e. RowAt M s.n (number s) s.bytes.now s.at (row_of e.row) e.figure.0 e.next × (e.row.count ≡ s.n) × (t.at ≡ e.next))
      (λ e. EntryCheck M s.n (number s) (drop s.at s.bytes.now) (Some e) × (t.at ≡ length s.bytes.now))

abbrev pub Next : {V F : Type 0} {G : Ghosts F} → FieldModel → LogRows V → Option (Result (LogEntry F G) Refusal) → LogRows V → Type 0
Next M s r t = MatchOption r (length s.bytes.now ≤ s.at) (λ x. Step M s x t)
