-- The first named number of those that a map has room for past its members is the lowest stray bit. Assumes nothing.
use Rattle.std.proofs.Common.{◌≡◌, ℕ, ◌+◌, ◌-◌, ◌*◌, ◌<◌, ◌≤◌, true, false, List, length, get_or, Option, Some, None, MatchOption, sym, refl, ap, ◌∙◌, true≢false, arith}
use mathlib.Core.List.{map as maps}
use Rattle.std.specs.List.{range_with_len, AllWithin, HoldsAt}
use Rattle.std.proofs.lemmas.List.FromFn.{length-map-range_with_len, get_or-map-range_with_len}
use Rattle.refusal.specs.declared.Member.{Member}
use Rattle.member_map.specs.Maps.{map_length_lem, named, Stray}

module _ (map : List ℕ) (n from many : ℕ) (start : from ≡ n) (room : many ≡ 8 * map_length_lem n - from) where
  abbrev numbers : List ℕ
  numbers = maps (λ m. m) (range_with_len from many)

  at : (i : ℕ) → i < many → get_or numbers i 0 ≡ from + i
  at i h = get_or-map-range_with_len (λ m. m) from many i (from + i) 0 h refl

  none_stray :
      (i : ℕ) → i ≤ many → AllWithin (λ m. named map m ≡ false) numbers 0 i → (m : ℕ) → m < from + i → Stray map n m → ⊥
  none_stray i le none m h s =
      let past = s.0 in
      let j = m - from in
      let same : get_or numbers j 0 ≡ m = at j (omega arith) ∙ omega arith in
      true≢false (sym s.2 ∙ sym (ap (named map) same) ∙ none j 0 (omega arith) (omega arith))

  pub lowest :
      (r : Option Member)
      → MatchOption r (AllWithin (λ m. named map m ≡ false) numbers 0 (length numbers))
      (λ b. (named map b.0 ≡ true) × (i : ℕ) × (i < length numbers) × HoldsAt (λ m. m ≡ b.0) numbers i × AllWithin (λ m. named map m ≡ false) numbers 0 i)
      → MatchOption r ((m : ℕ) → Stray map n m → ⊥) (λ b. Stray map n b.0 × ((m : ℕ) → m < b.0 → Stray map n m → ⊥))
  lowest None none =
      let all : length numbers ≡ many = length-map-range_with_len (λ m. m) from many in
      λ m s. let below = s.1 in none_stray many (omega arith) (rw all at none) m (omega arith) s
  lowest (Some b) found =
      let i = found.1 in
      let inside : i < many = rw (length-map-range_with_len (λ m. m) from many) at found.2 in
      let place : from + i ≡ b.0 = sym (at i inside) ∙ found.3 0 in
      ((omega arith, omega arith, found.0), λ m h s. none_stray i (omega arith) found.4 m (omega arith) s)
