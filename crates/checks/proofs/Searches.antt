-- What two searches through a row's weights tell: the first that is no element, and whether one names a member.
-- Assumes nothing.
use Rattle.std.proofs.Common.{◌≡◌, ℕ, ◌<◌, ◌≤◌, ◌≢◌, Bool, true, false, None, Some, Option, List, length, MatchOption, MatchBool, refl, subst, arith}
use native.Mathlib.Decide.{dec_lt}
use Rattle.std.specs.List.{AllWithin, HoldsAt}
use Rattle.field.specs.Model.{FieldModel}
use Rattle.field.specs.Sums.{Codes, weights_of}
use Rattle.field.specs.declared.Element.{Element}
use Rattle.server.specs.Checks.{Lowest}
use Rattle.checks.specs.Checks.{StrayWeight, NoneNamed}
use Rattle.checks.proofs.Weights.{zero_element}

-- weights of which none is stray are elements
pub none_stray :
    (M : FieldModel) (n : ℕ) (ws : List Element) → length ws ≡ n → ((k : ℕ) → k < length ws → StrayWeight M ws k → ⊥)
    → Codes M n (weights_of ws)
none_stray M n ws e none m h =
    elim (dec_lt (weights_of ws m) M.size) [ yes k ↦ k | no k ↦ absurd (none m (omega arith) (omega arith, omega arith)) ]

module _ (M : FieldModel) (ws : List Element) where
  abbrev pub FirstStray : Option ℕ → Type 0
  FirstStray o =
      MatchOption o (AllWithin (λ (x : Element). x.0 < M.size) ws 0 (length ws))
      (λ i. (i < length ws) × HoldsAt (λ (x : Element). M.size ≤ x.0) ws i × AllWithin (λ (x : Element). x.0 < M.size) ws 0 i)

  pub first_stray : (o : Option ℕ) (m : ℕ) → o ≡ Some m → FirstStray o → Lowest (StrayWeight M ws) m
  first_stray o m e first =
      let found = subst FirstStray e first in
      record { holds = (found.0, found.1 zero_element); none_below = λ k h stray. let small = found.2 k zero_element (omega arith) h in omega (arith, stray.1, small) }

  pub all_elements : (o : Option ℕ) → ((m : ℕ) → o ≡ Some m → ⊥) → FirstStray o → (n : ℕ) → length ws ≡ n → Codes M n (weights_of ws)
  all_elements None not all n e = λ m h. all m zero_element (omega arith) (omega (arith, e))
  all_elements (Some i) not all n e = absurd (not i refl)

  abbrev pub AnyNamed : Bool → Type 0
  AnyNamed b =
      MatchBool b (AllWithin (λ (x : Element). x.0 ≡ 0) ws 0 (length ws)) ((k : ℕ) × (k < length ws) × HoldsAt (λ (x : Element). x.0 ≢ 0) ws k)

  pub all_zero : (b : Bool) → b ≡ true → AnyNamed b → NoneNamed ws
  all_zero b e zero m h = subst AnyNamed e zero m zero_element (omega arith) h

  pub one_named : (b : Bool) → b ≡ false → AnyNamed b → NoneNamed ws → ⊥
  one_named b e some zero = let found = subst AnyNamed e some in found.2 zero_element (zero found.0 found.1)
