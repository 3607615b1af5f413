-- The front of 64 elements, and what stands behind it. Assumes nothing.
use Rattle.std.proofs.Common.{◌≡◌, ℕ, ◌≤◌, List, ◌++◌, length, take, drop, replicate, sym, ap, ◌∙◌, arith, length-take}
use Rattle.std.proofs.lemmas.List.{take_at}
use Rattle.field.specs.Sums.{weights_of}
use Rattle.field.specs.declared.Element.{Element}
use Rattle.checks.proofs.Fronts.{zero_past}
use Rattle.checks.proofs.Weights.{zero_element}

pub part : (e : Element) (own : ℕ) → own ≤ 64 → length (take own (replicate 64 e)) ≡ own
part e own few = length-take own (replicate 64 e) ∙ omega arith

-- ws was written to the front of 64 places that were 0
module _ (out ws : List Element) (k n : ℕ) (written : ws ++ drop k (replicate 64 zero_element) ≡ out) (long : length ws ≡ n) where
  pub front_is : take n out ≡ ws
  front_is = ap (take n) (sym written) ∙ take_at ws (drop k (replicate 64 zero_element)) n long

  pub zero_behind : (m : ℕ) → n ≤ m → weights_of out m ≡ 0
  zero_behind m past = ap (λ l. weights_of l m) (sym written) ∙ zero_past ws n k long m past
