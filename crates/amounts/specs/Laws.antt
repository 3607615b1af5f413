-- Amounts are a field. Assumes nothing.
use Rattle.std.specs.Prelude.{◌≡◌, ℕ, zero, suc, ◌+◌, ◌-◌, ◌*◌, ◌/◌, ◌%◌, ◌<◌, ◌≤◌, ◌≢◌, refl}
use Rattle.std.proofs.Common.{sym, ap, subst, ◌∙◌, add_comm, add_assoc, mul_comm, mul_assoc, mul-add, one-mul, mul-one, mod-eq_of_lt, mod-lt, lt_trans, arith}
use Rattle.std.proofs.Math.Nat.{mod-add-mod, add-mod-mod, add-mod}
use Rattle.std.proofs.Math.Decide.{ℕ_discrete}
use Rattle.field.specs.Model.{FieldLaws}
use Rattle.amounts.specs.Prime.{amounts, first_inverse}
use Rattle.amounts.specs.Modular.{times-mod-left, times-mod_right}
use Rattle.amounts.specs.Inverse.{prime, turn, found, none_at_zero}

below : (a : ℕ) → a % 65521 < 65521
below a = mod-lt a (omega arith)

-- a code r with a times r equal to 1, by as many turns as there are numbers below the rest
inverse_from :
    (a : ℕ) (k f r : ℕ) → r ≤ k → 0 < r → r < 65521 → f < 65521 → (a * f) % 65521 ≡ r
    → (c : ℕ) × (c < 65521) × ((a * c) % 65521 ≡ 1)
inverse_from a zero f r fuel pos less fl held = absurd (omega arith)
inverse_from a (suc k) f r fuel pos less fl held =
    elim (ℕ_discrete r 1) [
      | yes one ↦ (f, fl, held ∙ one)
      | no more ↦
          let low : 1 < r = omega arith in
          let falls : 65521 % r < r = mod-lt 65521 pos in
          inverse_from a k ((f * (65521 - 65521 / r)) % 65521) (65521 % r) (omega arith) (prime r low less) (lt_trans falls less)
          (below (f * (65521 - 65521 / r))) (turn 65521 a f r pos less held)
    ]

-- the inverse of a code other than 0 is a code, and its product with it is 1
inverted : (a : ℕ) → a < 65521 → a ≢ 0 → (first_inverse a 65521 0 < 65521) × ((a * first_inverse a 65521 0) % 65521 ≡ 1)
inverted a less ne =
    let start : (a * 1) % 65521 ≡ a = ap (λ x. x % 65521) (mul-one a) ∙ mod-eq_of_lt less in
    let c = inverse_from a a 1 a (omega arith) (omega arith) less (omega arith) start in
    let is : first_inverse a 65521 0 ≡ c.0 = found a c.0 c.1 c.2 in
    (subst (λ (x : ℕ). x < 65521) (sym is) c.1, ap (λ x. (a * x) % 65521) is ∙ c.2)

pub laws : FieldLaws amounts
laws = record {
  two_elements = omega arith;
  size_bound = omega arith;
  plus_below = λ a b ha hb. below (a + b);
  plus_comm = λ a b ha hb. ap (λ x. x % 65521) (add_comm a b);
  plus_assoc = λ a b c ha hb hc.
      mod-add-mod (a + b) 65521 c ∙ ap (λ x. x % 65521) (add_assoc a b c) ∙ sym (add-mod-mod a (b + c) 65521);
  plus_zero = λ a ha. omega arith;
  times_below = λ a b ha hb. below (a * b);
  times_comm = λ a b ha hb. ap (λ x. x % 65521) (mul_comm a b);
  times_assoc = λ a b c ha hb hc.
      times-mod-left 65521 (a * b) c ∙ ap (λ x. x % 65521) (mul_assoc a b c) ∙ sym (times-mod_right 65521 a (b * c));
  times_one = λ a ha. ap (λ x. x % 65521) (one-mul a) ∙ mod-eq_of_lt ha;
  distributes = λ a b c ha hb hc.
      times-mod_right 65521 a (b + c) ∙ ap (λ x. x % 65521) (mul-add a b c) ∙ add-mod (a * b) (a * c) 65521;
  opposite_below = λ a ha. below (65521 - a % 65521);
  plus_opposite = λ a ha. omega arith;
  inverse_below = λ a ha.
      elim (ℕ_discrete a 0) [
        | yes z ↦ subst (λ (x : ℕ). x < 65521) (sym (none_at_zero a (ap (λ x. x % 65521) z))) (omega arith)
        | no ne ↦ (inverted a ha ne).0
      ];
  times_inverse = λ a ha ne. (inverted a ha ne).1;
  inverse_zero = none_at_zero 0 refl;
}
