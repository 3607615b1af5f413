-- What the writers of a log answer is one answer. Assumes nothing.
use Rattle.std.proofs.Common.{◌≡◌, ℕ, ◌<◌, ◌≤◌, Some, None, Ok, Err, Option, Result, IsOk, IfErr, refl, arith}
use Rattle.refusal.specs.declared.Refusal.{Refusal}
use Rattle.refusal.specs.declared.Refusal.TheVariants.{LogFull}
use Rattle.field.specs.Model.{FieldModel}
use Rattle.field.specs.Sums.{Vector}
use Rattle.server.specs.Checks.{Count}
use Rattle.answer_log.specs.Writes as writes
use Rattle.answer_log.specs.Writes.{RowWrite, HeaderWrite}

-- a row that can be written is not refused
pub row_written :
    (M : FieldModel) (n : ℕ) (w : Vector) (f room : ℕ) (r : Result ℕ Refusal) → IfErr r (λ e. RowWrite M n w f room (Some e)) → RowWrite M n w f room None
    → IsOk r
row_written M n w f room (Ok k) bad good = refl
row_written M n w f room (Err e) bad good = absurd (apart (Some e) bad good refl)
  where
    apart : (o : Option Refusal) → RowWrite M n w f room o → RowWrite M n w f room None → o ≡ Some e → ⊥
    apart o (writes.no_figure big) (writes.accepted code fits) is = omega arith
    apart o (writes.log_full code small) (writes.accepted c fits) is = omega arith
    apart o (writes.accepted c d) good is = let z : ◌≡◌ {A = ℕ} 0 1 = cc in omega arith

module _ (n room : ℕ) (count : Count n) where
  refused_with : (o : Option Refusal) (e : Refusal) → HeaderWrite n room o → o ≡ Some e → (e ≡ LogFull) × (room < 2)
  refused_with o e (writes.wrong_count bad) is = absurd (bad count)
  refused_with o e (writes.log_full c small) is = (cc, small)
  refused_with o e (writes.accepted c wide) is = absurd (let z : ◌≡◌ {A = ℕ} 0 1 = cc in omega arith)

  -- with a count in order only room can be wanting
  pub header_refused : (e : Refusal) → HeaderWrite n room (Some e) → (e ≡ LogFull) × (room < 2)
  header_refused e bad = refused_with (Some e) e bad refl

  pub header_room : HeaderWrite n room None → 2 ≤ room
  header_room (writes.accepted c wide) = wide
