-- What the writers of a log answer, in the order of the checks.
--   HeaderWrite n room r        r is the answer for the header of n members, where `room` bytes are left
--   RowWrite M n w f room r     the same for the checked row w of n members with the figure f
--   onto, Put, Front            bytes at the front of a buffer, as the crate buffer has them
-- Assumes nothing.
use Rattle.std.specs.Prelude.{ℕ, ◌<◌, ◌≤◌, length, Some, None, Option}
pub use Rattle.buffer.specs.Buffers.{onto, Put, Front}
use Rattle.refusal.specs.declared.Refusal.{Refusal}
use Rattle.refusal.specs.declared.Refusal.TheVariants.{WrongCount, NotAnElement, LogFull}
use Rattle.refusal.specs.declared.Site.TheVariants.{Nothing}
use Rattle.field.specs.Model.{FieldModel}
use Rattle.field.specs.Sums.{Vector}
use Rattle.server.specs.Checks.{Count}
use Rattle.answer_log.specs.Rows.{row_bytes}

pub data HeaderWrite (n room : ℕ) : Option Refusal → Type 0 where
  wrong_count : (Count n → ⊥) → HeaderWrite n room (Some WrongCount)
  log_full : Count n → room < 2 → HeaderWrite n room (Some LogFull)
  accepted : Count n → 2 ≤ room → HeaderWrite n room None

pub data RowWrite (M : FieldModel) (n : ℕ) (w : Vector) (f room : ℕ) : Option Refusal → Type 0 where
  no_figure : M.size ≤ f → RowWrite M n w f room (Some (NotAnElement Nothing))
  log_full : f < M.size → room < length (row_bytes M n w f) → RowWrite M n w f room (Some LogFull)
  accepted : f < M.size → length (row_bytes M n w f) ≤ room → RowWrite M n w f room None
