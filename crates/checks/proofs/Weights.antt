-- Weights that are read and written one by one. Assumes nothing.
use Rattle.std.proofs.Common.{◌≡◌, ℕ, ◌<◌, ◌≤◌, ◌≢◌, List, length, set, replicate, ap, arith}
use native.Mathlib.Decide.{dec_lt}
use Rattle.std.proofs.lemmas.List.{get_or-set_same, get_or-set_other, get_or-replicate, get_or_past, length-replicate}
use Rattle.field.specs.Sums.{weights_of}
use Rattle.field.specs.declared.Element.{Element}

pub written : (ws : List Element) (i : ℕ) (x : Element) → i < length ws → weights_of (set ws i x) i ≡ x.0
written ws i x h = ap (λ e. e.0) (get_or-set_same ws i x (record { 0 = 0 }) h)

pub unwritten : (ws : List Element) (i k : ℕ) (x : Element) → k ≢ i → weights_of (set ws i x) k ≡ weights_of ws k
unwritten ws i k x ne = ap (λ e. e.0) (get_or-set_other ws i k x (record { 0 = 0 }) ne)

pub past_end : (ws : List Element) (k : ℕ) → length ws ≤ k → weights_of ws k ≡ 0
past_end ws k h = ap (λ e. e.0) (get_or_past ws k (record { 0 = 0 }) h)

abbrev pub zero_element : Element
zero_element = record { 0 = 0 }

pub zeros : (n k : ℕ) → weights_of (replicate n zero_element) k ≡ 0
zeros n k =
    elim (dec_lt k n) [
      | yes h ↦ ap (λ (e : Element). e.0) (get_or-replicate n k zero_element zero_element h)
      | no h ↦ past_end (replicate n zero_element) k (simp length-replicate (omega arith))
    ]
