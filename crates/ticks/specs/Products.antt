-- The product of bytes as polynomials: it stays within a byte, is linear, commutative and associative, and has 1.
-- Assumes nothing.
use Rattle.std.specs.Prelude.{◌≡◌, refl, ◌⊎◌, ℕ, zero, suc, ◌*◌, ◌/◌, ◌%◌, ◌<◌, ltb}
use Rattle.std.proofs.Common.{sym, ◌∙◌, ap, ap₂, subst, inl, inr, zero-mul, one-mul, mul-zero, arith, lit<, ltb→lt}
use Rattle.std.specs.Int.Bits.{bit_xor, xor_assoc}
use Rattle.std.proofs.lemmas.Nat.{xor_lt, xor_comm}
use Rattle.ticks.specs.Polynomials.{double, by_bits, product}
use Rattle.ticks.specs.Tested.{at, agree_at, agree_pairs_at}

-- ---- a bit as a factor

bit_is : (b : ℕ) → (b % 2 ≡ 0) ⊎ (b % 2 ≡ 1)
bit_is b = grind arith

-- what holds with the factor 0 and with the factor 1 holds with any bit
by_bit : (P : ℕ → Type 0) (b : ℕ) → P 0 → P 1 → P (b % 2)
by_bit P b p q = elim (bit_is b) [ inl e ↦ subst P (sym e) p | inr e ↦ subst P (sym e) q ]

bit_below : (b a : ℕ) → a < 256 → b % 2 * a < 256
bit_below b a h = by_bit (λ t. t * a < 256) b (rw zero-mul (lit< tt)) (rw one-mul h)

bit_xor_lem : (b a c : ℕ) → b % 2 * bit_xor a c ≡ bit_xor (b % 2 * a) (b % 2 * c)
bit_xor_lem b a c = by_bit (λ t. t * bit_xor a c ≡ bit_xor (t * a) (t * c)) b (simp zero-mul) (simp one-mul)

-- ---- double, tested at each byte and at each pair of bytes

double-zero : double 0 ≡ 0
unfolding double
double-zero = refl

double-below : (a : ℕ) → a < 256 → double a < 256
unfolding double
double-below a h = ltb→lt (double a) 256 (at 256 (λ n. ltb (double n) 256) tt a h)

double_xor : (a b : ℕ) → a < 256 → b < 256 → double (bit_xor a b) ≡ bit_xor (double a) (double b)
unfolding double
double_xor = agree_pairs_at 256 (λ a b. double (bit_xor a b)) (λ a b. bit_xor (double a) (double b)) tt

double_bit : (b a : ℕ) → b % 2 * double a ≡ double (b % 2 * a)
double_bit b a = by_bit (λ t. t * double a ≡ double (t * a)) b (simp (zero-mul, double-zero)) (simp one-mul)

-- ---- a factor's low bits, one after the other

regrouped : (a b c d : ℕ) → bit_xor (bit_xor a b) (bit_xor c d) ≡ bit_xor (bit_xor a c) (bit_xor b d)
regrouped a b c d =
    xor_assoc a b (bit_xor c d)
    ∙ ap (bit_xor a) (sym (xor_assoc b c d) ∙ ap (λ x. bit_xor x d) (xor_comm b c) ∙ xor_assoc c b d)
    ∙ sym (xor_assoc a c (bit_xor b d))

bits-zero : (n b : ℕ) → by_bits n 0 b ≡ 0
unfolding by_bits
bits-zero zero b = refl
bits-zero (suc n) b = rw (mul-zero, double-zero) (bits-zero n (b / 2))

bits_below : (n a b : ℕ) → a < 256 → by_bits n a b < 256
unfolding by_bits
bits_below zero a b h = lit< tt
bits_below (suc n) a b h =
    xor_lt 8 (b % 2 * a) (by_bits n (double a) (b / 2)) (bit_below b a h)
    (bits_below n (double a) (b / 2) (double-below a h))

bits_xor :
    (n a c b : ℕ) → a < 256 → c < 256 → by_bits n (bit_xor a c) b ≡ bit_xor (by_bits n a b) (by_bits n c b)
unfolding by_bits
bits_xor zero a c b ha hc = refl
bits_xor (suc n) a c b ha hc =
    ap₂ bit_xor (bit_xor_lem b a c)
    (ap (λ d. by_bits n d (b / 2)) (double_xor a c ha hc)
    ∙ bits_xor n (double a) (double c) (b / 2) (double-below a ha) (double-below c hc))
    ∙ regrouped (b % 2 * a) (b % 2 * c) (by_bits n (double a) (b / 2)) (by_bits n (double c) (b / 2))

bits-double : (n a b : ℕ) → a < 256 → by_bits n (double a) b ≡ double (by_bits n a b)
unfolding by_bits
bits-double zero a b h = sym double-zero
bits-double (suc n) a b h =
    ap₂ bit_xor (double_bit b a) (bits-double n (double a) (b / 2) (double-below a h))
    ∙ sym
    (double_xor (b % 2 * a) (by_bits n (double a) (b / 2)) (bit_below b a h)
    (bits_below n (double a) (b / 2) (double-below a h)))

bits_bit : (n b a c : ℕ) → by_bits n (b % 2 * a) c ≡ b % 2 * by_bits n a c
bits_bit n b a c =
    by_bit (λ t. by_bits n (t * a) c ≡ t * by_bits n a c) b (simp zero-mul (bits-zero n c)) (simp one-mul)

-- two factors can be taken in either order
bits_swap : (n m a b c : ℕ) → a < 256 → by_bits m (by_bits n a b) c ≡ by_bits n (by_bits m a c) b
unfolding by_bits
bits_swap zero m a b c h = bits-zero m c
bits_swap (suc n) m a b c h =
    bits_xor m (b % 2 * a) (by_bits n (double a) (b / 2)) c (bit_below b a h)
    (bits_below n (double a) (b / 2) (double-below a h))
    ∙ ap₂ bit_xor (bits_bit m b a c)
    (bits_swap n m (double a) (b / 2) c (double-below a h)
    ∙ ap (λ d. by_bits n d (b / 2)) (bits-double m a c h))

-- ---- the product

pub zero-product : (b : ℕ) → product 0 b ≡ 0
unfolding product
zero-product b = bits-zero 8 b

pub product-below : (a b : ℕ) → a < 256 → product a b < 256
unfolding product
product-below a b h = bits_below 8 a b h

pub one_product : (b : ℕ) → b < 256 → product 1 b ≡ b
unfolding product by_bits double
one_product = agree_at 256 (λ b. product 1 b) (λ b. b) tt

swapped : (a b c : ℕ) → a < 256 → product (product a b) c ≡ product (product a c) b
unfolding product
swapped a b c h = bits_swap 8 8 a b c h

pub product_comm : (a b : ℕ) → a < 256 → b < 256 → product a b ≡ product b a
product_comm a b ha hb =
    ap (λ x. product x b) (sym (one_product a ha)) ∙ swapped 1 a b (lit< tt) ∙ ap (λ x. product x a) (one_product b hb)

pub product-zero : (a : ℕ) → a < 256 → product a 0 ≡ 0
product-zero a h = product_comm a 0 h (lit< tt) ∙ zero-product a

pub product-one : (a : ℕ) → a < 256 → product a 1 ≡ a
product-one a h = product_comm a 1 h (lit< tt) ∙ one_product a h

pub product_assoc :
    (a b c : ℕ) → a < 256 → b < 256 → product (product a b) c ≡ product a (product b c)
product_assoc a b c ha hb =
    ap (λ x. product x c) (product_comm a b ha hb) ∙ swapped b a c hb
    ∙ product_comm (product b c) a (product-below b c hb) ha

xor_product : (a b c : ℕ) → a < 256 → b < 256 → product (bit_xor a b) c ≡ bit_xor (product a c) (product b c)
unfolding product
xor_product a b c ha hb = bits_xor 8 a b c ha hb

pub product_xor :
    (a b c : ℕ) → a < 256 → b < 256 → c < 256 → product a (bit_xor b c) ≡ bit_xor (product a b) (product a c)
product_xor a b c ha hb hc =
    product_comm a (bit_xor b c) ha (xor_lt 8 b c hb hc) ∙ xor_product b c a hb hc
    ∙ ap₂ bit_xor (product_comm b a hb ha) (product_comm c a hc ha)
