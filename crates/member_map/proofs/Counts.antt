-- Counts of named members: one member more, and how many at most. Assumes nothing.
use Rattle.std.proofs.Common.{◌≡◌, count_by, sum_by, sym, zero-add, ℕ, zero, suc, ◌+◌, ◌*◌, ◌≤◌, Bool, true, false, cond, List, refl, ap, ◌∙◌, mul-le-mul, add-one, arith}
use Rattle.std.specs.List.{range_with_len}
use mathlib.Core.List.{map as maps}
use Rattle.std.proofs.lemmas.List.{map-id}
use Rattle.std.proofs.lemmas.List.FromFn.{sum_by-map-range_with_len_more}
use Rattle.member_map.specs.Maps.{named, named_below}

module _ (map : List ℕ) where
  pub none_below : named_below map 0 ≡ 0
  unfolding named_below
  none_below = refl

  below_more : (m : ℕ) → named_below map (m + 1) ≡ named_below map m + cond (named map m) 1 0
  unfolding named_below
  below_more m = ap (named_below map) (add-one m)

  abbrev pub one : ℕ → ℕ
  one m = cond (named map m) 1 0

  own : (k : ℕ) → sum_by one (range_with_len 0 k) ≡ sum_by one (maps (λ m. m) (range_with_len 0 k))
  own k = ap (sum_by one) (sym (map-id (range_with_len 0 k)))

  pub counted : (k : ℕ) → count_by (named map) (range_with_len 0 k) ≡ named_below map k
  counted zero = sym none_below
  counted (suc k) =
      ap (λ j. sum_by one (range_with_len 0 j)) (sym (add-one k))
      ∙ own (k + 1)
      ∙ sum_by-map-range_with_len_more one (λ m. m) 0 k k (zero-add k)
      ∙ ap (λ j. j + one k) (sym (own k) ∙ counted k)
      ∙ sym (below_more k)
      ∙ ap (named_below map) (add-one k)

  pub below-named : (m : ℕ) → named map m ≡ true → named_below map (m + 1) ≡ named_below map m + 1
  below-named m e = below_more m ∙ ap (λ b. named_below map m + cond b 1 0) e

  pub below_unnamed : (m : ℕ) → named map m ≡ false → named_below map (m + 1) ≡ named_below map m
  below_unnamed m e = let step = below_more m ∙ ap (λ b. named_below map m + cond b 1 0) e in omega arith

  bit : (b : Bool) → cond b 1 0 ≤ 1
  bit true = omega arith
  bit false = omega arith

  pub below_rises : (m : ℕ) → (named_below map m ≤ named_below map (m + 1)) × (named_below map (m + 1) ≤ named_below map m + 1)
  below_rises m = (omega (arith, below_more m), omega (arith, below_more m, bit (named map m)))

  -- no more members are named than there are
  pub few-named : (m : ℕ) → named_below map m ≤ m
  few-named zero = omega (arith, none_below)
  few-named (suc m) =
      let next : suc m ≡ m + 1 = omega arith in
      let same = ap (named_below map) next in
      omega (arith, few-named m, (below_rises m).1)

  -- how many bytes the elements of the members named below m take
  pub few_bytes : (m w k : ℕ) → w ≤ 2 → k ≡ named_below map m → w * k ≤ 2 * m
  few_bytes m w k narrow is = let few = few-named m in mul-le-mul narrow (omega (arith, is, few))
