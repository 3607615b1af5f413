-- What the two tables hold.
--   Powers p        the powers of 3 from power 0 up: each is 3 times the one before, and the first 3 times the last
--   Logarithms l    at each of those powers its exponent, and 0 at 0
-- Assumes nothing.
use Rattle.std.specs.Prelude.{List, ◌≢◌, ◌≡◌, ℕ, suc, ◌%◌, ◌<◌, length, get_or}
use Rattle.ticks.specs.Polynomials.{product, raised}

pub record Powers (p : List ℕ) : Type 0 where
  pub many : length p ≡ 255
  pub first : get_or p 0 0 ≡ 1
  pub next : (k : ℕ) → k < 254 → get_or p (suc k) 0 ≡ product 3 (get_or p k 0)
  pub around : product 3 (get_or p 254 0) ≡ get_or p 0 0
  -- so every power stands in it
  pub entry : (k : ℕ) → get_or p (k % 255) 0 ≡ raised 3 k

pub record Logarithms (l : List ℕ) : Type 0 where
  pub many : length l ≡ 256
  pub of_zero : get_or l 0 0 ≡ 0
  pub below : (a : ℕ) → a < 256 → get_or l a 0 < 255
  pub undone : (a : ℕ) → a < 256 → a ≢ 0 → raised 3 (get_or l a 0) ≡ a
  pub undoes : (a k : ℕ) → k < 255 → raised 3 k ≡ a → get_or l a 0 ≡ k
