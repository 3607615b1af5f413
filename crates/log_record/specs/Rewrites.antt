-- What the rewriting of a log answers, in the order of the checks.
--   Rewrites M n bs room r   r is the answer for the log bs, where n is the server's count and `room` bytes are left
-- Assumes nothing.
use Rattle.std.specs.Prelude.{ℕ, ◌<◌, ◌≤◌, List, length, Some, None, Option}
use Rattle.refusal.specs.declared.Refusal.{Refusal}
use Rattle.refusal.specs.declared.Refusal.TheVariants.{LogFull}
use Rattle.field.specs.Model.{FieldModel}
use Rattle.echelon.specs.Rows.{Figured}
use Rattle.log_record.specs.Joins.{LogRecord}

pub data Rewrites (M : FieldModel) (n : ℕ) (bs : List ℕ) (room : ℕ) : Option Refusal → Type 0 where
  log_refused : (e : Refusal) (given : List Figured) → LogRecord M n bs (Some e) given → Rewrites M n bs room (Some e)
  no_room : (given : List Figured) → LogRecord M n bs None given → room < length bs → Rewrites M n bs room (Some LogFull)
  rewritten : (given : List Figured) → LogRecord M n bs None given → length bs ≤ room → Rewrites M n bs room None
