-- Amounts: the field of the numbers below 65521, a prime, with sum and product modulo 65521.
--   amounts            its model; a code past the size counts as its remainder
-- Assumes nothing.
use Rattle.std.specs.Prelude.{ℕ, zero, suc, ◌+◌, ◌-◌, ◌*◌, ◌%◌, true, false, ◌==◌}
use Rattle.field.specs.Model.{FieldModel}

-- the first of the k codes from b on whose product with a is 1, and 0 where there is none
unfoldable pub first_inverse : ℕ → ℕ → ℕ → ℕ
first_inverse a zero b = 0
first_inverse a (suc k) b = elim ((a * b) % 65521 == 1) [ true ↦ b | false ↦ first_inverse a k (suc b) ]

abbrev pub amounts : FieldModel
amounts = record {
  size = 65521;
  kind = 1;
  plus = λ a b. (a + b) % 65521;
  times = λ a b. (a * b) % 65521;
  opposite = λ a. (65521 - a % 65521) % 65521;
  inverse = λ a. first_inverse a 65521 0;
}
