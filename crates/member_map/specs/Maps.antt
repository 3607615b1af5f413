-- Member maps: a bit for each member, member m at bit m mod 8, the lowest first, of byte m / 8.
--   map_length_lem n        how many bytes the map of n members has
--   named map m         the bit of member m stands; bits past the bytes do not
--   named_below map m   how many members below m are named
--   Stray map n m       bit m stands in the map of n members, and there is no member m
-- Assumes nothing.
use Rattle.std.specs.Prelude.{◌≡◌, ℕ, zero, suc, ◌+◌, ◌*◌, ◌/◌, ◌%◌, ◌^◌, ◌<◌, ◌≤◌, Bool, true, cond, List, ◌==◌, slice_index}

abbrev pub map_length_lem : ℕ → ℕ
map_length_lem n = (n + 7) / 8

abbrev pub named : List ℕ → ℕ → Bool
named map m = slice_index map (m / 8) / 2 ^ (m % 8) % 2 == 1

unfoldable pub named_below : List ℕ → ℕ → ℕ
named_below map zero = 0
named_below map (suc m) = named_below map m + cond (named map m) 1 0

abbrev pub Stray : List ℕ → ℕ → ℕ → Type 0
Stray map n m = (n ≤ m) × (m < 8 * map_length_lem n) × (named map m ≡ true)
