-- A row of 64 places, made of weights that passed their checks. Assumes nothing.
use Rattle.std.proofs.Common.{◌≡◌, ℕ, ◌<◌, ◌≤◌, List, length, None, Some, Ok, Err, IsOk, Result, MatchResult, sym, refl, ap, ◌∙◌, arith, length-take}
use native.Mathlib.Decide.{dec_lt}
use Rattle.field.specs.Model.{FieldModel, FieldLaws}
use Rattle.field.specs.Sums.{Codes, weights_of}
use Rattle.std.proofs.lemmas.List.{get_or-take}
use Rattle.field.specs.declared.Field.{Ghosts}
use Rattle.field.specs.declared.Element.{Element}
use Rattle.field.proofs.Zero.{zero-code}
use Rattle.refusal.specs.declared.Refusal.{Refusal}
use Rattle.server.specs.Checks.{Count}
use Rattle.checks.specs.Checks.{RowCheck, accepted, RowMade, wrong_count, checked}
use Rattle.checks.specs.CheckedRows.{row_of, listed_row}
use Rattle.checks.specs.declared.row.CheckedRow.{CheckedRow}
use Rattle.checks.proofs.Weights.{zero_element, past_end}
use Rattle.checks.proofs.Checked.{row-check-apart}
use Rattle.checks.proofs.Passed.{row_length_lem, row-codes}

module _
    (M : FieldModel) (n : ℕ) (count : Count n) (ws : List Element) (passed : RowCheck M n ws None) (row : List Element)
    (each : (m : ℕ) → m < 64 → weights_of row m ≡ weights_of ws m) (rest : (m : ℕ) → length ws ≤ m → weights_of row m ≡ 0) where
  pub made-past : (m : ℕ) → n ≤ m → weights_of row m ≡ 0
  made-past m h = rest m (omega (arith, row_length_lem M n ws passed))

  pub made-same : (m : ℕ) → weights_of row m ≡ weights_of ws m
  made-same m =
      elim (dec_lt m 64) [
        | yes h ↦ each m h
        | no h ↦ made-past m (omega (arith, count)) ∙ sym (past_end ws m (omega (arith, row_length_lem M n ws passed, count)))
      ]

  pub made-elements : FieldLaws M → Codes M 64 (weights_of row)
  made-elements L m h =
      elim (dec_lt m n) [
        | yes b ↦ rw (made-same m) (row-codes M n ws passed m b)
        | no b ↦ rw (made-past m (omega arith)) (zero-code M L)
      ]

  pub made-named : ((m : ℕ) → m < n → weights_of row m ≡ 0) → ⊥
  made-named none = go passed
    where
      go : RowCheck M n ws None → ⊥
      go (accepted long codes some) = some (λ m h. sym (made-same m) ∙ none m (omega arith))

-- a row that passes its checks is made
pub made_ok :
    {A : Type 0} (M : FieldModel) (n : ℕ) (ws : List Element) (r : Result A Refusal) → Count n → RowCheck M n ws None
    → MatchResult r (λ _. RowMade M n ws None) (λ e. RowMade M n ws (Some e)) → IsOk r
made_ok M n ws (Ok x) count passed made = refl
made_ok M n ws (Err e) count passed (wrong_count none) = absurd (none count)
made_ok M n ws (Err e) count passed (checked some r bad) = absurd (row-check-apart M n ws e passed bad)

-- the weights of a checked row, as a list
pub listed-row : {F : Type 0} {G : Ghosts F} (r : CheckedRow F G) → weights_of (listed_row r) ≡ row_of r
listed-row r = λ i m. same m i
  where
    same : (m : ℕ) → weights_of (listed_row r) m ≡ row_of r m
    same m =
        elim (dec_lt m r.count) [
          | yes h ↦ ap (λ e. e.0) (get_or-take r.count r.weights m zero_element h)
          | no h ↦ past_end (listed_row r) m (omega (arith, length-take r.count r.weights)) ∙ sym (r.none_past m (omega arith))
        ]
