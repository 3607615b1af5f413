-- A byte as a polynomial: bit k is the coefficient of x to the k, 0 or 1, and a polynomial is taken modulo 0x11B.
--   double a       x times a: one place up, less the modulus where that passes a byte
--   by_bits n a b  a times the polynomial in the n low bits of b
--   product a b    a times b
--   raised a n     a to the n: a multiplied n times
--   ticks_field    the field: a code past a byte counts as its low byte, and the inverse of a is a to the 254,
--                  since a to the 255 is 1 unless a is 0
-- Assumes nothing.
use Rattle.std.specs.Prelude.{true, false, ℕ, zero, suc, ◌*◌, ◌/◌, ◌%◌, ltb}
use Rattle.std.specs.Int.Bits.{bit_xor}
use Rattle.field.specs.Model.{FieldModel}

unfoldable pub double : ℕ → ℕ
double a = elim (ltb (2 * a) 256) [ true ↦ 2 * a | false ↦ bit_xor (2 * a) 0x11B ]

unfoldable pub by_bits : ℕ → ℕ → ℕ → ℕ
by_bits zero a b = 0
by_bits (suc n) a b = bit_xor (b % 2 * a) (by_bits n (double a) (b / 2))

unfoldable pub product : ℕ → ℕ → ℕ
product a b = by_bits 8 a b

unfoldable pub raised : ℕ → ℕ → ℕ
raised a zero = 1
raised a (suc n) = product a (raised a n)

abbrev pub ticks_field : FieldModel
ticks_field =
    record {
      size = 256;
      kind = 2;
      plus = λ a b. bit_xor (a % 256) (b % 256);
      times = λ a b. product (a % 256) (b % 256);
      opposite = λ a. a % 256;
      inverse = λ a. raised (a % 256) 254;
    }
