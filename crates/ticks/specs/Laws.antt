-- Ticks are a field: from the laws of the exclusive or, of the product and of the powers. Assumes nothing.
use Rattle.std.specs.Prelude.{◌≡◌, ℕ, ◌%◌, ◌<◌}
use Rattle.std.proofs.Common.{sym, ◌∙◌, mod-lt, mod-eq_of_lt, lit<, lit≤}
use Rattle.std.specs.Int.Bits.{bit_xor, xor_assoc, xor_self}
use Rattle.std.proofs.lemmas.Nat.{xor_lt, xor_comm}
use Rattle.field.specs.Model.{FieldLaws}
use Rattle.ticks.specs.Polynomials.{product, raised, ticks_field}
use Rattle.ticks.specs.Products.{product-below, one_product, product_comm, product_assoc, product_xor}
use Rattle.ticks.specs.Raising.{zero-raised, raised_below}
use Rattle.ticks.specs.Generator.{inverse_is}

byte : (a : ℕ) → a % 256 < 256
byte a = mod-lt a (lit< tt)

kept : (a : ℕ) → a < 256 → a % 256 ≡ a
kept a h = mod-eq_of_lt h

sum_kept : (a b : ℕ) → bit_xor (a % 256) (b % 256) % 256 ≡ bit_xor (a % 256) (b % 256)
sum_kept a b = kept (bit_xor (a % 256) (b % 256)) (xor_lt 8 (a % 256) (b % 256) (byte a) (byte b))

product-kept : (a b : ℕ) → product (a % 256) (b % 256) % 256 ≡ product (a % 256) (b % 256)
product-kept a b = kept (product (a % 256) (b % 256)) (product-below (a % 256) (b % 256) (byte a))

inverse-kept : (a : ℕ) → raised (a % 256) 254 % 256 ≡ raised (a % 256) 254
inverse-kept a = kept (raised (a % 256) 254) (raised_below (a % 256) 254 (byte a))

pub laws : FieldLaws ticks_field
laws =
    record {
      two_elements = lit≤ tt;
      size_bound = lit≤ tt;
      plus_below = λ a b ha hb. xor_lt 8 (a % 256) (b % 256) (byte a) (byte b);
      plus_comm = λ a b ha hb. xor_comm (a % 256) (b % 256);
      plus_assoc = λ a b c ha hb hc. rw (sum_kept a b, sum_kept b c) (xor_assoc (a % 256) (b % 256) (c % 256));
      plus_zero = λ a ha. kept a ha;
      times_below = λ a b ha hb. product-below (a % 256) (b % 256) (byte a);
      times_comm = λ a b ha hb. product_comm (a % 256) (b % 256) (byte a) (byte b);
      times_assoc = λ a b c ha hb hc.
          rw (product-kept a b, product-kept b c) (product_assoc (a % 256) (b % 256) (c % 256) (byte a) (byte b));
      times_one = λ a ha. rw (kept a ha) (one_product a ha);
      distributes = λ a b c ha hb hc.
          rw (sum_kept b c, product-kept a b, product-kept a c)
          (product_xor (a % 256) (b % 256) (c % 256) (byte a) (byte b) (byte c));
      opposite_below = λ a ha. byte a;
      plus_opposite = λ a ha. rw (kept (a % 256) (byte a)) (xor_self (a % 256));
      inverse_below = λ a ha. raised_below (a % 256) 254 (byte a);
      times_inverse = λ a ha n.
          rw (inverse-kept a) (inverse_is (a % 256) (byte a) (λ e. n (sym (kept a ha) ∙ e)));
      inverse_zero = zero-raised 253;
    }
