-- The inverse modulo 65521: no number divides it, one turn of the computation, and the code that it finds.
-- Assumes nothing.
use Rattle.std.specs.Prelude.{◌≡◌, ℕ, zero, suc, ◌+◌, ◌-◌, ◌*◌, ◌/◌, ◌%◌, ◌<◌, ◌≤◌, Bool, true, false, ◌&&◌, T, ◌≢◌, ◌==◌, nat_lt, refl}
use Rattle.std.proofs.Common.{sym, ap, subst, ◌∙◌, mul_comm, mul_assoc, one-mul, mod-eq_of_lt, mod-lt, not-suc-le-zero, add-mul, zero-mul, lt_trans, arith, eqb-true, ltb→lt}
use Rattle.std.proofs.Math.Nat.{mul-sub, div-add-mod, mul-add-mod_self_right}
use Rattle.std.proofs.Math.Decide.{ℕ_discrete}
use Rattle.std.proofs.lemmas.Bool.{eqb-false}
use Rattle.amounts.specs.Prime.{first_inverse}
use Rattle.amounts.specs.Modular.{times-mod-left, times-mod_right}

-- a test at each of the numbers below k
every : (ℕ → Bool) → ℕ → Bool
every f zero = true
every f (suc k) = f k && every f k

both : (a b : Bool) → T (a && b) → T a × T b
both true b t = (tt, t)
both false b t = absurd t

every-at : (f : ℕ → Bool) (k : ℕ) → T (every f k) → (i : ℕ) → i < k → T (f i)
unfolding every
every-at f zero t i h = absurd (not-suc-le-zero h)
every-at f (suc k) t i h =
    elim (ℕ_discrete i k) [
      | yes e ↦ subst (λ (x : ℕ). T (f x)) (sym e) (both (f k) (every f k) t).0
      | no ne ↦ every-at f k (both (f k) (every f k) t).1 i (omega arith)
    ]

leaves : ℕ → Bool
leaves k = nat_lt 0 (65521 % (k + 2))

-- 65521 is a prime: each number from 2 on below it leaves a remainder
pub prime : (d : ℕ) → 1 < d → d < 65521 → 0 < 65521 % d
unfolding every leaves
prime d low high =
    let e : (d - 2) + 2 ≡ d = omega arith in
    subst (λ (x : ℕ). 0 < 65521 % x) e (ltb→lt _ _ (every-at leaves 65519 tt (d - 2) (omega arith)))

-- one turn: if a times f is r, modulo p, then a times f (p - p / r) is p % r
pub turn : (p a f r : ℕ) → 0 < r → r < p → (a * f) % p ≡ r → (a * ((f * (p - p / r)) % p)) % p ≡ p % r
turn p a f r pos less held =
    let parts : r * (p / r) + p % r ≡ p = div-add-mod p r in
    let product : r * (p - p / r) ≡ r * p - r * (p / r) = mul-sub r p (p / r) in
    let one_less : r ≡ (r - 1) + 1 = omega arith in
    let split : r * p ≡ (r - 1) * p + 1 * p = ap (λ x. x * p) one_less ∙ add-mul (r - 1) 1 p in
    let single : 1 * p ≡ p = one-mul p in
    let whole : r * (p - p / r) ≡ (r - 1) * p + p % r = omega arith in
    let rest : p % r < p = lt_trans (mod-lt p pos) less in
    times-mod_right p a (f * (p - p / r))
    ∙ ap (λ x. x % p) (sym (mul_assoc a f (p - p / r)))
    ∙ sym (times-mod-left p (a * f) (p - p / r))
    ∙ ap (λ x. (x * (p - p / r)) % p) held
    ∙ ap (λ x. x % p) whole
    ∙ mul-add-mod_self_right (r - 1) p (p % r)
    ∙ mod-eq_of_lt rest

-- two codes whose product with a is 1 are equal
inverse_unique : (p a b c : ℕ) → b < p → c < p → (a * b) % p ≡ 1 → (a * c) % p ≡ 1 → b ≡ c
inverse_unique p a b c bp cp pb pc =
    let swap : a * c * b ≡ a * b * c = mul_assoc a c b ∙ ap (λ x. a * x) (mul_comm c b) ∙ sym (mul_assoc a b c) in
    let of-b : (a * c * b) % p ≡ b =
    sym (times-mod-left p (a * c) b) ∙ ap (λ x. (x * b) % p) pc ∙ ap (λ x. x % p) (one-mul b) ∙ mod-eq_of_lt bp in
    let of_c : (a * b * c) % p ≡ c =
    sym (times-mod-left p (a * b) c) ∙ ap (λ x. (x * c) % p) pb ∙ ap (λ x. x % p) (one-mul c) ∙ mod-eq_of_lt cp in
    sym of-b ∙ ap (λ x. x % p) swap ∙ of_c

-- what the search from b on finds, where r is the code sought
found_from :
    (a r : ℕ) → r < 65521 → (a * r) % 65521 ≡ 1
    → (k b : ℕ) → b ≤ r → r < b + k → b + k ≤ 65521 → first_inverse a k b ≡ r
unfolding first_inverse
found_from a r rp held zero b low high end = absurd (omega arith)
found_from a r rp held (suc k) b low high end = go ((a * b) % 65521 == 1) refl (found_from a r rp held k (suc b))
  where
    go :
        (t : Bool) → ((a * b) % 65521 == 1) ≡ t
        → (suc b ≤ r → r < suc b + k → suc b + k ≤ 65521 → first_inverse a k (suc b) ≡ r)
        → elim t [ true ↦ b | false ↦ first_inverse a k (suc b) ] ≡ r
    go true e later = inverse_unique 65521 a b r (omega arith) rp (eqb-true _ _ e) held
    go false e later =
        let ne : b ≢ r = λ same. eqb-false _ _ e (ap (λ x. (a * x) % 65521) same ∙ held) in
        later (omega arith) (omega arith) (omega arith)

pub found : (a r : ℕ) → r < 65521 → (a * r) % 65521 ≡ 1 → first_inverse a 65521 0 ≡ r
found a r rp held = found_from a r rp held 65521 0 (omega arith) (omega arith) (omega arith)

-- where no code has the product 1, the search finds 0
pub not_found : (a : ℕ) → ((b : ℕ) → (a * b) % 65521 ≢ 1) → (k b : ℕ) → first_inverse a k b ≡ 0
unfolding first_inverse
not_found a none zero b = refl
not_found a none (suc k) b = go ((a * b) % 65521 == 1) refl (not_found a none k (suc b))
  where
    go :
        (t : Bool) → ((a * b) % 65521 == 1) ≡ t → first_inverse a k (suc b) ≡ 0
        → ◌≡◌ {A = ℕ} (elim t [ true ↦ b | false ↦ first_inverse a k (suc b) ]) 0
    go true e later = absurd (none b (eqb-true _ _ e))
    go false e later = later

-- a code that counts as 0 has no inverse
pub none_at_zero : (a : ℕ) → a % 65521 ≡ 0 → first_inverse a 65521 0 ≡ 0
none_at_zero a e =
    not_found a (λ b one.
    let z : (a * b) % 65521 ≡ 0 = sym (times-mod-left 65521 a b) ∙ ap (λ x. (x * b) % 65521) e ∙ ap (λ x. x % 65521) (zero-mul b) in
    omega arith) 65521 0
