-- A fact of every number below a bound, or of every pair of them, by one test that antt computes at each.
-- Assumes nothing.
use Rattle.std.specs.Prelude.{Bool, true, false, ◌≡◌, ℕ, zero, suc, ◌<◌, T, eqb}
use Rattle.std.proofs.Math.Path.{subst⁻¹}
use Rattle.std.proofs.Common.{inl, inr, eq-or-lt_of_le, le_of_suc-le-suc, not-suc-le-zero, eqb→eq}

abbrev both : Bool → Bool → Bool
both true b = b
both false b = false

both_left : (a b : Bool) → T (both a b) → T a
both_left true b t = tt
both_left false b t = t

both_right : (a b : Bool) → T (both a b) → T b
both_right true b t = t
both_right false b t = absurd t

-- the test passes at each number below n
abbrev pub each : ℕ → (ℕ → Bool) → Bool
each zero f = true
each (suc n) f = both (f n) (each n f)

pub at : (n : ℕ) (f : ℕ → Bool) → T (each n f) → (k : ℕ) → k < n → T (f k)
at zero f t k h = absurd (not-suc-le-zero h)
at (suc n) f t k h =
    elim (eq-or-lt_of_le (le_of_suc-le-suc h)) [
      | inl e ↦ subst⁻¹ (λ (m : ℕ). T (f m)) e (both_left (f n) (each n f) t)
      | inr l ↦ at n f (both_right (f n) (each n f) t) k l
    ]

-- two functions of numbers below n agree
abbrev pub agree : ℕ → (ℕ → ℕ) → (ℕ → ℕ) → Bool
agree n f g = each n (λ a. eqb (f a) (g a))

pub agree_at : (n : ℕ) (f g : ℕ → ℕ) → T (agree n f g) → (k : ℕ) → k < n → f k ≡ g k
agree_at n f g t k h = eqb→eq (f k) (g k) (at n (λ a. eqb (f a) (g a)) t k h)

-- two functions of pairs of numbers below n agree
abbrev pub agree_pairs : ℕ → (ℕ → ℕ → ℕ) → (ℕ → ℕ → ℕ) → Bool
agree_pairs n f g = each n (λ a. agree n (f a) (g a))

pub agree_pairs_at :
    (n : ℕ) (f g : ℕ → ℕ → ℕ) → T (agree_pairs n f g) → (a b : ℕ) → a < n → b < n → f a b ≡ g a b
agree_pairs_at n f g t a b ha hb = agree_at n (f a) (g a) (at n (λ a. agree n (f a) (g a)) t a ha) b hb
