-- The bytes of a log, as they are written: two of a header, then the rows.
--   header_bytes M n      the header: kind and count
--   names w m             the row with the weights w names member m
--   map_byte_lem, map_bytes   a byte of the member map; the whole map of n members
--   map_onto w n out      a buffer with the map at its front
--   plain w n             every weight of the n members is 0 or 1
--   weight_bytes M w n    the weights of the named members below n, in rising order
--   stored_bytes M w n    those weights where they are stored, none for a plain row
--   mark w n              the mark byte: 0 for a plain row, else 1
--   row_bytes M n w f     a row: mark, map, weights unless the row is plain, figure
-- The weights of a row are 0 from the count on. Assumes nothing.
use Rattle.std.specs.Prelude.{ℕ, zero, suc, ◌+◌, ◌*◌, ◌^◌, Bool, true, cond, not, ◌&&◌, List, [], ◌∷◌, ◌++◌, map, drop, ◌==◌, nat_le}
use Rattle.std.specs.List.{range_with_len}
use Rattle.field.specs.Model.{FieldModel}
use Rattle.field.specs.Bytes.{written}
use Rattle.field.specs.Sums.{Vector}
use Rattle.member_map.specs.Maps.{map_length_lem}

abbrev pub header_bytes : FieldModel → ℕ → List ℕ
header_bytes M n = M.kind ∷ n ∷ []

abbrev pub names : Vector → ℕ → Bool
names w m = not (w m == 0)

-- the number that has these bits, the lowest k of them
unfoldable pub bits : (ℕ → Bool) → ℕ → ℕ
bits stands zero = 0
bits stands (suc b) = bits stands b + cond (stands b) (2 ^ b) 0

abbrev pub map_byte_lem : Vector → ℕ → ℕ
map_byte_lem w k = bits (λ b. names w (8 * k + b)) 8

unfoldable pub map_bytes : Vector → ℕ → List ℕ
map_bytes w n = map (map_byte_lem w) (range_with_len 0 (map_length_lem n))

abbrev pub map_onto : Vector → ℕ → List ℕ → List ℕ
map_onto w n out = map_bytes w n ++ drop (map_length_lem n) out

unfoldable pub plain : Vector → ℕ → Bool
plain w zero = true
plain w (suc m) = nat_le (w m) 1 && plain w m

unfoldable pub weight_bytes : FieldModel → Vector → ℕ → List ℕ
weight_bytes M w zero = []
weight_bytes M w (suc m) = weight_bytes M w m ++ cond (names w m) (written M (w m)) []

-- bit 0 stands exactly when some weight is neither 0 nor 1
abbrev pub mark : Vector → ℕ → ℕ
mark w n = cond (plain w n) 0 1

abbrev pub stored_bytes : FieldModel → Vector → ℕ → List ℕ
stored_bytes M w n = cond (plain w n) [] (weight_bytes M w n)

unfoldable pub row_bytes : FieldModel → ℕ → Vector → ℕ → List ℕ
row_bytes M n w f = mark w n ∷ (map_bytes w n ++ (stored_bytes M w n ++ written M f))
