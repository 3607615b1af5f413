-- A part of a row that is lent to a loop: its places from p up to n. Assumes nothing.
use Rattle.std.proofs.Common.{◌≡◌, ℕ, ◌+◌, ◌-◌, ◌<◌, ◌≤◌, List, ◌++◌, length, get_or, take, drop, sym, ap, ◌∙◌, subst, arith}
use native.Mathlib.Decide.{dec_lt}
use borrow.Rule.Slice.PartMut.{mid_of, post_of, put_mid}
use Rattle.std.proofs.lemmas.List.{get_or_append_left, get_or-append-add, get_or-take, get_or-drop, length-drop, length-take-le}
use Rattle.field.specs.Sums.{weights_of}
use Rattle.field.specs.declared.Element.{Element}
use Rattle.checks.proofs.Weights.{zero_element}

-- xs is the row before the loop, and ys the part after it
module _
    (p n : ℕ) (xs ys : List Element) (start : p ≤ n) (end : n ≤ length xs)
    (same_length : length ys ≡ length (mid_of p (n - p) xs)) where
  whole : length ys ≡ n - p
  whole = same_length ∙ length-take-le (n - p) (drop p xs) (omega (arith, length-drop p xs))

  pub part_was : (i : ℕ) → i < length ys → weights_of (mid_of p (n - p) xs) i ≡ weights_of xs (p + i)
  part_was i h =
      ap (λ e. e.0) (get_or-take (n - p) (drop p xs) i zero_element (omega (arith, whole)) ∙ get_or-drop p xs i zero_element)

  part_below : (m : ℕ) → m < p → weights_of (put_mid p (n - p) xs ys) m ≡ weights_of xs m
  part_below m b =
      let size = length-take-le p xs (omega arith) in
      ap (λ e. e.0) (get_or_append_left (take p xs) _ zero_element m (omega arith) ∙ get_or-take p xs m zero_element b)

  part_at : (i : ℕ) → i < length ys → weights_of (put_mid p (n - p) xs ys) (p + i) ≡ weights_of ys i
  part_at i b =
      ap (λ e. e.0)
      (ap (λ l. get_or (take p xs ++ (ys ++ post_of p (n - p) xs)) (l + i) zero_element) (sym (length-take-le p xs (omega arith)))
      ∙ get_or-append-add (take p xs) _ i zero_element ∙ get_or_append_left ys _ zero_element i b)

  -- what holds of the weights below the part, and of those that the loop left, holds of the n first after it
  pub after_part :
      (P : ℕ → ℕ → Type 0) → ((m : ℕ) → m < p → P m (weights_of xs m)) → ((i : ℕ) → i < length ys → P (p + i) (weights_of ys i))
      → (m : ℕ) → m < n → P m (weights_of (put_mid p (n - p) xs ys) m)
  after_part P low high m h =
      elim (dec_lt m p) [
        | yes b ↦ subst (P m) (sym (part_below m b)) (low m b)
        | no b ↦
            let i = m - p in
            let e : p + i ≡ m = omega arith in
            let inside : i < length ys = omega (arith, whole) in
            subst (λ k. P k (weights_of (put_mid p (n - p) xs ys) k)) e (subst (P (p + i)) (sym (part_at i inside)) (high i inside))
      ]
