-- What a row that passed its checks has. Assumes nothing.
use Rattle.std.proofs.Common.{◌≡◌, ℕ, List, length, None, arith}
use Rattle.field.specs.Model.{FieldModel}
use Rattle.field.specs.Sums.{Codes, weights_of}
use Rattle.field.specs.declared.Element.{Element}
use Rattle.checks.specs.Checks.{RowCheck, accepted}
use Rattle.checks.specs.Rows.{IsRow}
use Rattle.checks.proofs.Weights.{past_end}

pub row_length_lem : (M : FieldModel) (n : ℕ) (ws : List Element) → RowCheck M n ws None → length ws ≡ n
row_length_lem M n ws (accepted len codes named) = len

pub row-codes : (M : FieldModel) (n : ℕ) (ws : List Element) → RowCheck M n ws None → Codes M n (weights_of ws)
row-codes M n ws (accepted len codes named) = codes

pub passed_is_row : (M : FieldModel) (n : ℕ) (ws : List Element) → RowCheck M n ws None → IsRow M n (weights_of ws)
passed_is_row M n ws (accepted len codes named) = record {
  weights = codes;
  none_past = λ m past. past_end ws m (omega arith);
  some_named = λ none. named (λ m below. none m (omega arith));
}
