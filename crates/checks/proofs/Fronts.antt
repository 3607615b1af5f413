-- Some elements written to the front of 64 that were 0. Assumes nothing.
use Rattle.std.proofs.Common.{◌≡◌, ℕ, ◌+◌, ◌-◌, ◌<◌, ◌≤◌, min, List, ◌++◌, length, get_or, take, drop, replicate, sym, ap, ◌∙◌, arith, length-take, take_all}
use native.Mathlib.Decide.{dec_lt}
use Rattle.std.proofs.lemmas.List.{get_or-drop, get_or-append_right, get_or_append_left, get_or-take, take_at}
use Rattle.field.specs.Sums.{weights_of}
use Rattle.field.specs.declared.Element.{Element}
use Rattle.checks.proofs.Weights.{past_end, zero_element, zeros}

-- the places past them are as they began
pub zero_past :
    (ws : List Element) (n k : ℕ) → length ws ≡ n → (m : ℕ) → n ≤ m → weights_of (ws ++ drop k (replicate 64 zero_element)) m ≡ 0
zero_past ws n k long m past =
    ap (λ e. e.0)
    (get_or-append_right ws (drop k (replicate 64 zero_element)) n m zero_element long past ∙ get_or-drop k (replicate 64 zero_element) (m - n) zero_element)
    ∙ zeros 64 (k + (m - n))

-- the first 64 of vs, at the front of 64 places
module _ (vs : List Element) (few : ℕ) (is : few ≡ min (length vs) 64) (front : List Element) (copied : front ≡ take few vs) where
  front-length : length front ≡ few
  front-length = ap length copied ∙ length-take few vs ∙ omega (arith, is)

  pub padded_front : length vs ≤ 64 → (behind : List Element) → take (length vs) (front ++ behind) ≡ vs
  padded_front short behind =
      let whole : few ≡ length vs = omega (arith, is, short) in
      take_at front behind (length vs) (front-length ∙ whole) ∙ copied ∙ take_all few vs (omega (arith, whole))

  -- the 64 places have the filler z, which is 0
  module _ (z : ℕ) (none : z ≡ 0) (k : ℕ) where
    pub padded_rest : (m : ℕ) → length vs ≤ m → weights_of (front ++ drop k (replicate 64 (record { 0 = z }))) m ≡ 0
    padded_rest m past =
        ap (λ x. weights_of (front ++ drop k (replicate 64 (record { 0 = x }))) m) none
        ∙ zero_past front few k front-length m (omega (arith, is))

    pub padded_each : (m : ℕ) → m < 64 → weights_of (front ++ drop k (replicate 64 (record { 0 = z }))) m ≡ weights_of vs m
    padded_each m h =
        elim (dec_lt m few) [
          | yes b ↦
              ap (λ e. e.0)
              (get_or_append_left front _ zero_element m (omega (arith, front-length)) ∙ ap (λ l. get_or l m zero_element) copied ∙ get_or-take few vs m zero_element b)
          | no b ↦ padded_rest m (omega (arith, is)) ∙ sym (past_end vs m (omega (arith, is)))
        ]
