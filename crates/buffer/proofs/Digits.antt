-- How many digits a number has in decimal. Assumes nothing.
use Rattle.std.proofs.Common.{◌≡◌, ℕ, zero, suc, ◌+◌, ◌*◌, ◌/◌, ◌%◌, ◌^◌, ◌<◌, ◌≤◌, max, length, decimal, sym, ap, ◌∙◌, arith}
use Rattle.std.proofs.Math.Nat.{pow-suc}
use Rattle.std.proofs.lemmas.List.{length_push}
use Rattle.std.proofs.lemmas.Fmt.{decimal_digit, decimal_step, length-decimal-le}

one_digit : (v : ℕ) → v < 10 → length (decimal v) ≡ 1
one_digit v h = ap length (decimal_digit v h)

digit_more : (v : ℕ) → 10 ≤ v → v < 2 ^ 64 → length (decimal v) ≡ length (decimal (v / 10)) + 1
digit_more v h fits = ap length (decimal_step v h fits) ∙ length_push (decimal (v / 10)) (48 + v % 10)

-- a number from 10 ^ k up to the next power has k + 1 digits
digits_at_power : (k v : ℕ) → 10 ^ k ≤ v → v < 10 * 10 ^ k → v < 2 ^ 64 → k + 1 ≡ length (decimal v)
digits_at_power zero v low high fits = sym (one_digit v (omega arith))
digits_at_power (suc k) v low high fits =
    let next = pow-suc 10 k in
    let more : length (decimal v) ≡ length (decimal (v / 10)) + 1 = digit_more v (omega arith) fits in
    let before : k + 1 ≡ length (decimal (v / 10)) = digits_at_power k (v / 10) (omega arith) (omega arith) (omega arith) in
    omega arith

-- the same, where 0 counts as 1
pub digits_counted : (v k : ℕ) → v < 2 ^ 64 → 10 ^ k ≤ max v 1 → max v 1 < 10 * 10 ^ k → k + 1 ≡ length (decimal v)
digits_counted zero k fits low high =
    digits_at_power k 1 low high (omega arith) ∙ one_digit 1 (omega arith) ∙ sym (one_digit 0 (omega arith))
digits_counted (suc v) k fits low high = digits_at_power k (suc v) (omega arith) (omega arith) fits

pub few-digits : (v : ℕ) → v < 2 ^ 64 → length (decimal v) ≤ 20
few-digits v fits = length-decimal-le 20 v (omega arith) (omega arith) fits

pub five_digits : (v : ℕ) → v < 100000 → length (decimal v) ≤ 5
five_digits v small = length-decimal-le 5 v (omega arith) small (omega arith)
