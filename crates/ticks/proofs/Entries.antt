-- The rules of the two tables, each from one test over a whole table.
-- Assumes nothing.
use mathlib.Core.Bool.{Bool}
use mathlib.Core.List.{List}
use mathlib.Core.Logic.{◌≢◌}
use mathlib.Core.Path.{◌≡◌, sym, ◌∙◌, ap}
use Prim.Native.Nat.{ℕ, zero, suc, ◌%◌, ◌<◌}
use native.Mathlib.Nat.{mod-lt}
use native.Mathlib.Omega.{arith}
use lib.Dec.{T, lit<}
use lib.ListN.{length, get_or}
use Rattle.ticks.specs.Polynomials.{product, raised}
use Rattle.ticks.specs.Tables.{Powers, Logarithms}
use Rattle.ticks.specs.Tested.{agree, agree_at}
use Rattle.ticks.specs.Raising.{raised-zero, raised-suc}
use Rattle.ticks.specs.Generator.{power_mod, chain, chain-at, generated}

-- each entry is 3 times the one before
abbrev pub tripled : List ℕ → Bool
tripled p = agree 254 (λ k. get_or p (suc k) 0) (λ k. product 3 (get_or p k 0))

module _ (p : List ℕ) (first : get_or p 0 0 ≡ 1) (test : T (tripled p)) where
  next : (k : ℕ) → k < 254 → get_or p (suc k) 0 ≡ product 3 (get_or p k 0)
  next = agree_at 254 (λ k. get_or p (suc k) 0) (λ k. product 3 (get_or p k 0)) test

  entry : (k : ℕ) → k < 255 → get_or p k 0 ≡ raised 3 k
  entry zero h = first ∙ sym (raised-zero 3)
  entry (suc k) h = next k (omega arith) ∙ ap (product 3) (entry k (omega arith)) ∙ sym (raised-suc 3 k)

  pub powers_rule : length p ≡ 255 → product 3 (get_or p 254 0) ≡ get_or p 0 0 → Powers p
  powers_rule many around =
      record {
        many = many;
        first = first;
        next = next;
        around = around;
        entry = λ k. entry (k % 255) (mod-lt k (lit< tt)) ∙ power_mod k;
      }

-- at each power stands its exponent
abbrev pub undoing : List ℕ → List ℕ → Bool
undoing p l = agree 255 (λ k. get_or l (get_or p k 0) 0) (λ k. k)

module _ (l : List ℕ) (of_zero : get_or l 0 0 ≡ 0) (test : T (undoing (chain 255 1) l)) where
  undoes : (a k : ℕ) → k < 255 → raised 3 k ≡ a → get_or l a 0 ≡ k
  undoes a k h e =
      ap (λ x. get_or l x 0) (sym e ∙ sym (chain-at k h))
      ∙ agree_at 255 (λ k. get_or l (get_or (chain 255 1) k 0) 0) (λ k. k) test k h

  undone : (a : ℕ) → a < 256 → a ≢ 0 → raised 3 (get_or l a 0) ≡ a
  undone a h n =
      let g = generated a h n in
      ap (raised 3) (undoes a g.0 g.1 g.2) ∙ g.2

  below : (a : ℕ) → a < 256 → get_or l a 0 < 255
  below zero h = rw of_zero (lit< tt)
  below (suc a) h =
      let g = generated (suc a) h (omega arith) in
      rw (undoes (suc a) g.0 g.1 g.2) g.1

  pub logarithms_rule : length l ≡ 256 → Logarithms l
  logarithms_rule many =
      record { many = many; of_zero = of_zero; below = below; undone = undone; undoes = undoes }
