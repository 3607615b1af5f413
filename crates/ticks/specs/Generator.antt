-- The powers of 3: they repeat after 255, every byte but 0 is one of them, and so it has an inverse.
-- Assumes nothing.
use Rattle.std.specs.Prelude.{Bool, true, false, List, [], ◌∷◌, ◌≢◌, ◌≡◌, refl, ℕ, zero, suc, ◌+◌, ◌-◌, ◌*◌, ◌/◌, ◌%◌, ◌<◌, T, eqb, ltb, get_or}
use Rattle.std.proofs.Common.{sym, ◌∙◌, ap, add-zero, zero-add, suc-add, add-suc, le_of_suc-le-suc, not-suc-le-zero, arith, ltb→lt, lit<}
use Rattle.std.proofs.Math.Nat.{div-add-mod}
use Rattle.ticks.specs.Polynomials.{double, by_bits, product, raised}
use Rattle.ticks.specs.Tested.{each, at, agree, agree_at}
use Rattle.ticks.specs.Products.{one_product}
use Rattle.ticks.specs.Raising.{raised-suc, raised_below, raised-add, raised-mul, raised_swap, one-raised, one-inverse}

-- ---- the powers repeat

power_255 : raised 3 255 ≡ 1
unfolding raised product by_bits double
power_255 = refl

round : (q : ℕ) → raised 3 (255 * q) ≡ 1
round q = sym (raised-mul 3 255 q (lit< tt)) ∙ ap (λ a. raised a q) power_255 ∙ one-raised q

pub power_mod : (k : ℕ) → raised 3 (k % 255) ≡ raised 3 k
power_mod k =
    sym (one_product (raised 3 (k % 255)) (raised_below 3 (k % 255) (lit< tt)))
    ∙ ap (λ a. product a (raised 3 (k % 255))) (sym (round (k / 255)))
    ∙ sym (raised-add 3 (255 * (k / 255)) (k % 255) (lit< tt)) ∙ ap (raised 3) (div-add-mod k 255)

-- ---- the list of the powers, and the place of each byte in it

-- n numbers from a on, each 3 times the one before
unfoldable pub chain : ℕ → ℕ → List ℕ
chain zero a = []
chain (suc n) a = a ∷ chain n (product 3 a)

chain_from : (n i k : ℕ) → k < n → get_or (chain n (raised 3 i)) k 0 ≡ raised 3 (i + k)
unfolding chain raised
chain_from zero i k h = absurd (not-suc-le-zero h)
chain_from (suc n) i zero h = ap (raised 3) (sym (add-zero i))
chain_from (suc n) i (suc k) h =
    chain_from n (suc i) k (le_of_suc-le-suc h) ∙ ap (raised 3) (suc-add i k ∙ sym (add-suc i k))

pub chain-at : (k : ℕ) → k < 255 → get_or (chain 255 1) k 0 ≡ raised 3 k
unfolding raised
chain-at k h = chain_from 255 0 k h ∙ ap (raised 3) (zero-add k)

place : List ℕ → ℕ → ℕ
place [] a = 0
place (x ∷ xs) a = elim (eqb x a) [ true ↦ 0 | false ↦ suc (place xs a) ]

placed_below : List ℕ → Bool
placed_below p = each 255 (λ a. ltb (place p (suc a)) 255)

placed : List ℕ → Bool
placed p = agree 255 (λ a. get_or p (place p (suc a)) 0) (λ a. suc a)

-- every byte but 0 is a power of 3
pub generated : (a : ℕ) → a < 256 → a ≢ 0 → (k : ℕ) × (k < 255) × (raised 3 k ≡ a)
unfolding chain product by_bits double place placed_below placed
generated zero h n = absurd (n refl)
generated (suc a) h n = (k, within, sym (chain-at k within) ∙ found)
  where
    k : ℕ
    k = place (chain 255 1) (suc a)

    below : T (placed_below (chain 255 1))
    below = tt

    within : k < 255
    within = ltb→lt k 255 (at 255 (λ a. ltb (place (chain 255 1) (suc a)) 255) below a (omega arith))

    there : T (placed (chain 255 1))
    there = tt

    found : get_or (chain 255 1) k 0 ≡ suc a
    found = agree_at 255 (λ a. get_or (chain 255 1) (place (chain 255 1) (suc a)) 0) (λ a. suc a) there a (omega arith)

-- ---- inverses

power_inverse : (k : ℕ) → product (raised 3 k) (raised (raised 3 k) 254) ≡ 1
power_inverse k =
    sym (raised-suc (raised 3 k) 254) ∙ raised_swap 3 k 255 (lit< tt) ∙ ap (λ x. raised x k) power_255 ∙ one-raised k

pub inverse_is : (a : ℕ) → a < 256 → a ≢ 0 → product a (raised a 254) ≡ 1
inverse_is a h n =
    let g = generated a h n in
    ap (λ x. product x (raised x 254)) (sym g.2) ∙ power_inverse g.0

-- the inverse of a power is the power that makes 255 with it
pub inverse_power : (k : ℕ) → k < 256 → raised 3 (255 - k) ≡ raised (raised 3 k) 254
inverse_power k h =
    one-inverse (raised 3 k) (raised 3 (255 - k)) (raised (raised 3 k) 254) (raised_below 3 k (lit< tt))
    (raised_below 3 (255 - k) (lit< tt)) (raised_below (raised 3 k) 254 (raised_below 3 k (lit< tt))) made
    (power_inverse k)
  where
    made : product (raised 3 k) (raised 3 (255 - k)) ≡ 1
    made = sym (raised-add 3 k (255 - k) (lit< tt)) ∙ ap (raised 3) (omega arith) ∙ power_255
