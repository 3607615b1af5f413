-- The powers of a byte: sums and products of exponents, and the one inverse.
-- Assumes nothing.
use Rattle.std.specs.Prelude.{◌≡◌, refl, ℕ, zero, suc, ◌+◌, ◌*◌, ◌<◌}
use Rattle.std.proofs.Common.{sym, ◌∙◌, ap, zero-add, suc-add, mul-zero, mul-suc, mul_comm, add_comm, lit<}
use Rattle.ticks.specs.Polynomials.{product, raised}
use Rattle.ticks.specs.Products.{zero-product, product-below, one_product, product-one, product_comm, product_assoc}

pub raised-zero : (a : ℕ) → raised a zero ≡ 1
unfolding raised
raised-zero a = refl

pub raised-suc : (a n : ℕ) → raised a (suc n) ≡ product a (raised a n)
unfolding raised
raised-suc a n = refl

pub raised_below : (a n : ℕ) → a < 256 → raised a n < 256
unfolding raised
raised_below a zero h = lit< tt
raised_below a (suc n) h = product-below a (raised a n) h

pub raised-add : (a i j : ℕ) → a < 256 → raised a (i + j) ≡ product (raised a i) (raised a j)
unfolding raised
raised-add a zero j h = rw zero-add (sym (one_product (raised a j) (raised_below a j h)))
raised-add a (suc i) j h =
    ap (raised a) (suc-add i j) ∙ ap (product a) (raised-add a i j h)
    ∙ sym (product_assoc a (raised a i) (raised a j) h (raised_below a i h))

pub raised-mul : (a k n : ℕ) → a < 256 → raised (raised a k) n ≡ raised a (k * n)
raised-mul a k zero h = raised-zero (raised a k) ∙ sym (rw mul-zero (raised-zero a))
raised-mul a k (suc n) h =
    raised-suc (raised a k) n ∙ ap (product (raised a k)) (raised-mul a k n h) ∙ sym (raised-add a k (k * n) h)
    ∙ ap (raised a) (add_comm k (k * n) ∙ sym (mul-suc k n))

pub raised_swap : (a k n : ℕ) → a < 256 → raised (raised a k) n ≡ raised (raised a n) k
raised_swap a k n h = raised-mul a k n h ∙ ap (raised a) (mul_comm k n) ∙ sym (raised-mul a n k h)

pub one-raised : (n : ℕ) → raised 1 n ≡ 1
one-raised zero = raised-zero 1
one-raised (suc n) = raised-suc 1 n ∙ ap (product 1) (one-raised n) ∙ one_product 1 (lit< tt)

pub zero-raised : (n : ℕ) → raised 0 (suc n) ≡ 0
zero-raised n = raised-suc 0 n ∙ zero-product (raised 0 n)

-- a byte has one inverse at most
pub one-inverse :
    (a x y : ℕ) → a < 256 → x < 256 → y < 256 → product a x ≡ 1 → product a y ≡ 1 → x ≡ y
one-inverse a x y ha hx hy p q =
    sym (product-one x hx) ∙ ap (product x) (sym q) ∙ sym (product_assoc x a y hx ha)
    ∙ ap (λ z. product z y) (product_comm x a hx ha ∙ p) ∙ one_product y hy
