-- A whole log.
--   RowsCheck M n k bs r        r is the answer for the rows bs from number k on, as long as bytes are left
--   LogCheck M n bs r           r is the answer for a log, where n is the server's count
--   RewriteCheck M n bs room r  the same for writing the log again, where `room` bytes are left
-- Assumes nothing.
use Rattle.std.specs.Prelude.{◌≡◌, ℕ, ◌+◌, ◌<◌, ◌≤◌, List, length, drop, Some, None, Option}
use Rattle.refusal.specs.declared.Refusal.{Refusal}
use Rattle.refusal.specs.declared.Refusal.TheVariants.{LogFull}
use Rattle.field.specs.Model.{FieldModel}
use Rattle.answer_log.specs.Entries.{row_length_lem, EntryCheck, HeaderCheck}

pub data RowsCheck (M : FieldModel) (n : ℕ) : ℕ → List ℕ → Option Refusal → Type 0 where
  no_more : (k : ℕ) (bs : List ℕ) → length bs ≡ 0 → RowsCheck M n k bs None
  bad_row :
      (k : ℕ) (bs : List ℕ) (e : Refusal) → 1 ≤ length bs → EntryCheck M n (record { 0 = k }) bs (Some e)
      → RowsCheck M n k bs (Some e)
  next_row :
      (k : ℕ) (bs : List ℕ) (r : Option Refusal) → 1 ≤ length bs → EntryCheck M n (record { 0 = k }) bs None
      → RowsCheck M n (k + 1) (drop (row_length_lem M n bs) bs) r → RowsCheck M n k bs r

pub data LogCheck (M : FieldModel) (n : ℕ) (bs : List ℕ) : Option Refusal → Type 0 where
  bad_header : (e : Refusal) → HeaderCheck M n bs (Some e) → LogCheck M n bs (Some e)
  rows : (r : Option Refusal) → HeaderCheck M n bs None → RowsCheck M n 0 (drop 2 bs) r → LogCheck M n bs r

pub data RewriteCheck (M : FieldModel) (n : ℕ) (bs : List ℕ) (room : ℕ) : Option Refusal → Type 0 where
  bad_log : (e : Refusal) → LogCheck M n bs (Some e) → RewriteCheck M n bs room (Some e)
  log_full : LogCheck M n bs None → room < length bs → RewriteCheck M n bs room (Some LogFull)
  accepted : LogCheck M n bs None → length bs ≤ room → RewriteCheck M n bs room None
