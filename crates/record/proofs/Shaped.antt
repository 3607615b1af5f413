-- What the type of a record asks, from reduced echelon form. Assumes nothing.
use Rattle.std.proofs.Common.{◌≡◌, ℕ, zero, suc, ◌<◌, ◌≤◌, List, length, sym, ap, ◌∙◌, arith}
use Rattle.field.specs.Model.{FieldModel}
use Rattle.echelon.specs.Reduced.{Pivoted, at, Reduced, Same, NoneAlone}

-- pivots that rise below n are at most n
pub few-rows : (M : FieldModel) (n : ℕ) (rec : List Pivoted) → Reduced M n rec → length rec ≤ n
few-rows M n rec R = go (length rec) (omega arith)
  where
    above : (a : ℕ) → a < length rec → a ≤ (at rec a).pivot
    above zero h = omega arith
    above (suc a) h = let before = above a (omega arith) in let up = R.pivots_rise a (suc a) (omega arith) h in omega arith

    go : (k : ℕ) → k ≤ length rec → k ≤ n
    go zero h = omega arith
    go (suc k) h = let low = above k (omega arith) in let below = R.pivot_below k (omega arith) in omega arith

pub same_none_alone : (M : FieldModel) (n : ℕ) (rec rec' : List Pivoted) → Reduced M n rec → Same n rec rec' → NoneAlone n rec → NoneAlone n rec'
same_none_alone M n rec rec' R same none a h alone =
    let h₁ : a < length rec = omega (arith, same.lengths) in
    let pivot : (at rec a).pivot ≡ (at rec' a).pivot = same.pivots a h₁ in
    let below = R.pivot_below a h₁ in
    none a h₁ (
      λ z. alone.0 (sym (same.weights a (at rec' a).pivot h₁ (omega arith)) ∙ ap (at rec a).weights (sym pivot) ∙ z),
      λ m b ne. same.weights a m h₁ b ∙ alone.1 m b (λ z. ne (z ∙ sym pivot)),
    )
