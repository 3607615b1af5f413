-- A row that passed its checks, and is written. Assumes nothing.
use Rattle.std.proofs.Common.{◌≡◌, ℕ, ◌<◌, ◌≤◌, ap₂, List, length, drop, Some, None, Option, OnOk, IfOk, OnErr, IfErr, sym, ap, ◌∙◌, subst}
use Rattle.std.specs.Option.{ok_or}
use Rattle.refusal.specs.declared.LogRow.{LogRow}
use Rattle.refusal.specs.declared.Refusal.TheVariants.{LogFull}
use Rattle.field.specs.Model.{FieldModel}
use Rattle.field.specs.Sums.{Vector, Codes, weights_of}
use Rattle.field.specs.declared.Element.{Element}
use Rattle.server.specs.Checks.{Count}
use Rattle.answer_log.specs.Rows.{header_bytes, row_bytes}
use Rattle.answer_log.specs.Entries.{Reads}
use Rattle.answer_log.specs.Writes.{HeaderWrite, log_full, accepted}
use Rattle.buffer.specs.Buffers.{Put, Writes, onto}
use Rattle.answer_log.proofs.Back.{reads_back}

-- ws are the weights of the row w, one for each of its n members
module _ (M : FieldModel) (n : ℕ) (w : Vector) (ws : List Element) (long : length ws ≡ n) (same : weights_of ws ≡ w) where
  -- the row's bytes, as they are written
  pub checked_row : (f : ℕ) → row_bytes M (length ws) (weights_of ws) f ≡ row_bytes M n w f
  checked_row f = ap₂ (λ i v. row_bytes M i v f) long same

  -- a row that is written to the front of a buffer is read back from it
  pub row_written :
      Count n → Codes M n w → ((m : ℕ) → n ≤ m → w m ≡ 0) → (((m : ℕ) → m < n → w m ≡ 0) → ⊥) → (f : ℕ) → f < M.size
      → (before after : List ℕ) (k : ℕ) → k ≡ length (row_bytes M (length ws) (weights_of ws) f)
      → after ≡ onto (row_bytes M (length ws) (weights_of ws) f) before
      → Put (row_bytes M n w f) before after k × ((number : LogRow) → Reads M n number after w f k)
  row_written count codes past some f below before after k size is =
      let bytes = row_bytes M n w f in
      let whole : k ≡ length bytes = size ∙ ap length (checked_row f) in
      let buffer : after ≡ onto bytes before = is ∙ ap (λ bs. onto bs before) (checked_row f) in (
        record { count = whole; buffer = buffer },
        λ number.
            subst (λ (bs : List ℕ). Reads M n number bs w f k) (sym buffer)
            (subst (λ (i : ℕ). Reads M n number (onto bytes before) w f i) (sym whole)
            (reads_back M n w f (drop (length bytes) before) count codes past some below number)),
      )

-- a header that is written, or has too little room
pub header_written :
    (M : FieldModel) (n : ℕ) → Count n → (before after : List ℕ) (r : Option ℕ) → Writes (header_bytes M n) before after r
    → OnOk (ok_or r LogFull) (HeaderWrite n (length before) None) × IfOk (ok_or r LogFull) (Put (header_bytes M n) before after)
    × IfErr (ok_or r LogFull) (λ e. HeaderWrite n (length before) (Some e)) × OnErr (ok_or r LogFull) (after ≡ before)
header_written M n count before after None w = (tt, tt, log_full count w.0, w.1)
header_written M n count before after (Some k) w = (accepted count w.0, w.1, tt, tt)
