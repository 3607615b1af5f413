-- The member map that is written, bit by bit, and the map that is read, byte by byte. Assumes nothing.
use Rattle.std.proofs.Common.{◌≡◌, ℕ, zero, suc, ◌+◌, ◌-◌, ◌*◌, ◌/◌, ◌%◌, ◌^◌, ◌<◌, ◌≤◌, Bool, true, false, cond, eqb, List, ◌++◌, length, get_or, take, sym, refl, ap, ◌∙◌, ap₂, add-zero, mod-eq_of_lt, mul_assoc, mul_comm, add_comm, zero-add, add-one, arith}
use native.Mathlib.Nat.{mod-one, mul-add-mod_self_right}
use Rattle.std.proofs.lemmas.Nat.{pow-add, field_of, mod-pow-add, shr_high, mod_below, div_below}
use Rattle.std.proofs.lemmas.List.FromFn.{length-map-range_with_len, get_or-map-range_with_len}
use Rattle.std.proofs.lemmas.List.{ext_get_or, get_or_append_left, get_or-take, length-take-le}
use Rattle.std.proofs.lemmas.Bool.Decides.{nat_tests}
use Rattle.field.specs.Sums.{Vector}
use Rattle.member_map.specs.Maps.{map_length_lem, named}
use Rattle.answer_log.specs.Rows.{names, bits, map_byte_lem, map_bytes}

-- a bit as a number
weight_of : (t : Bool) (b : ℕ) → cond t (2 ^ b) 0 ≡ cond t 1 0 * 2 ^ b
weight_of true b = omega arith
weight_of false b = omega arith

test_of : (t : Bool) → eqb (cond t 1 0) 1 ≡ t
test_of true = refl
test_of false = refl

bit_is : (x : ℕ) → x < 2 → cond (eqb x 1) 1 0 ≡ x
bit_is x h = grind (arith, nat_tests)

pub pow_next : (k : ℕ) → 2 ^ (k + 1) ≡ 2 * 2 ^ k
pow_next k = let split = pow-add 2 k 1 in omega arith

module _ (stands : ℕ → Bool) where
  pub bits-stands : (b : ℕ) → stands b ≡ true → bits stands (b + 1) ≡ bits stands b + 2 ^ b
  unfolding bits
  bits-stands b e = ap (bits stands) (add-one b) ∙ ap (λ t. bits stands b + cond t (2 ^ b) 0) e

  pub bits_clear : (b : ℕ) → stands b ≡ false → bits stands (b + 1) ≡ bits stands b
  unfolding bits
  bits_clear b e = ap (bits stands) (add-one b) ∙ ap (λ t. bits stands b + cond t (2 ^ b) 0) e ∙ add-zero (bits stands b)

  bits_more : (b : ℕ) → bits stands (b + 1) ≡ cond (stands b) 1 0 * 2 ^ b + bits stands b
  unfolding bits
  bits_more b =
      let step = ap (bits stands) (add-one b) in
      let top = weight_of (stands b) b in
      omega arith

  -- one bit more is as far as a power of two goes
  pub bits_below : (k : ℕ) → bits stands k < 2 ^ k
  unfolding bits
  bits_below zero = omega arith
  bits_below (suc k) =
      let next = ap (λ i. 2 ^ i) (sym (add-one k)) ∙ pow_next k in
      let all = ap (bits stands) (sym (add-one k)) ∙ bits_more k in
      let below = at_most (stands k) (bits_below k) in
      omega arith
    where
      at_most : (t : Bool) → bits stands k < 2 ^ k → cond t 1 0 * 2 ^ k + bits stands k < 2 * 2 ^ k
      at_most true h = omega arith
      at_most false h = omega arith

  bits_low : (b j : ℕ) → bits stands (b + j) % 2 ^ b ≡ bits stands b
  bits_low b zero = ap (λ i. bits stands i % 2 ^ b) (add-zero b) ∙ mod-eq_of_lt (bits_below b)
  bits_low b (suc j) =
      let same : b + suc j ≡ b + j + 1 = omega arith in
      let bit = cond (stands (b + j)) 1 0 in
      let top : bit * 2 ^ (b + j) ≡ bit * 2 ^ j * 2 ^ b = ap (λ p. bit * p) (pow-add 2 b j ∙ mul_comm (2 ^ b) (2 ^ j)) ∙ sym (mul_assoc bit (2 ^ j) (2 ^ b)) in
      ap (λ i. bits stands i % 2 ^ b) same
      ∙ ap (λ i. i % 2 ^ b) (bits_more (b + j) ∙ ap (λ i. i + bits stands (b + j)) top)
      ∙ mul-add-mod_self_right (bit * 2 ^ j) (2 ^ b) (bits stands (b + j))
      ∙ bits_low b j

  -- each of the bits, read back
  pub bit_back : (k b : ℕ) → b < k → eqb (bits stands k / 2 ^ b % 2) 1 ≡ stands b
  bit_back k b h =
      let rest : b + 1 + (k - (b + 1)) ≡ k = omega arith in
      let low : bits stands k % 2 ^ (1 + b) ≡ cond (stands b) 1 0 * 2 ^ b + bits stands b =
      ap (λ i. bits stands k % 2 ^ i) (add_comm 1 b) ∙ sym (ap (λ i. bits stands i % 2 ^ (b + 1)) rest) ∙ bits_low (b + 1) (k - (b + 1)) ∙ bits_more b in
      ap (λ i. eqb i 1)
      (sym (field_of (bits stands k) 1 b) ∙ ap (λ i. i / 2 ^ b) low ∙ shr_high (cond (stands b) 1 0) b (bits stands b) (bits_below b))
      ∙ test_of (stands b)

  -- a number, made from its bits
  pub bits_of : (x k : ℕ) → ((b : ℕ) → b < k → stands b ≡ eqb (x / 2 ^ b % 2) 1) → bits stands k ≡ x % 2 ^ k
  unfolding bits
  bits_of x zero same = sym (mod-one x)
  bits_of x (suc k) same =
      let bit = x / 2 ^ k % 2 in
      let below : bit < 2 = mod_below (x / 2 ^ k) 2 (omega arith) in
      let next : suc k ≡ k + 1 = omega arith in
      let swap : suc k ≡ 1 + k = omega arith in
      ap (bits stands) next ∙ bits_more k
      ∙ ap (λ t. cond t 1 0 * 2 ^ k + bits stands k) (same k (omega arith))
      ∙ ap (λ i. i * 2 ^ k + bits stands k) (bit_is bit below)
      ∙ ap (λ i. bit * 2 ^ k + i) (bits_of x k (λ b h. same b (omega arith)))
      ∙ sym (mod-pow-add x 1 k)
      ∙ sym (ap (λ i. x % 2 ^ i) swap)

module _ (w : Vector) (n : ℕ) where
  pub map-bytes-length : length (map_bytes w n) ≡ map_length_lem n
  unfolding map_bytes
  map-bytes-length = length-map-range_with_len (map_byte_lem w) 0 (map_length_lem n)

  pub map-bytes-at : (k : ℕ) → k < map_length_lem n → get_or (map_bytes w n) k 0 ≡ map_byte_lem w k
  unfolding map_bytes
  map-bytes-at k h = get_or-map-range_with_len (map_byte_lem w) 0 (map_length_lem n) k k 0 h (zero-add k)

  -- a member's bit in the map that is written, whatever comes behind it
  pub named-written : (after : List ℕ) (m : ℕ) → m < 8 * map_length_lem n → named (map_bytes w n ++ after) m ≡ names w m
  named-written after m h =
      let k = m / 8 in
      let inside : k < map_length_lem n = div_below m 8 (map_length_lem n) (omega arith) (omega arith) in
      let within : k < length (map_bytes w n) = rw map-bytes-length inside in
      let whole : 8 * k + m % 8 ≡ m = omega arith in
      ap (λ x. eqb (x / 2 ^ (m % 8) % 2) 1) (get_or_append_left (map_bytes w n) after 0 k within ∙ map-bytes-at k inside)
      ∙ bit_back (λ b. names w (8 * k + b)) 8 (m % 8) (mod_below m 8 (omega arith))
      ∙ ap (names w) whole

  -- the map that is read from some bytes is written as those bytes
  pub map_read :
      (bs : List ℕ) → ((i : ℕ) → get_or bs i 0 < 256) → map_length_lem n ≤ length bs
      → ((m : ℕ) → m < 8 * map_length_lem n → names w m ≡ named bs m)
      → map_bytes w n ≡ take (map_length_lem n) bs
  map_read bs fit long same =
      ext_get_or 0 (map_bytes w n) (take (map_length_lem n) bs) (map-bytes-length ∙ sym (length-take-le (map_length_lem n) bs long))
      (λ k h.
      let inside : k < map_length_lem n = rw map-bytes-length at h in
      let x = get_or bs k 0 in
      let small = fit k in
      map-bytes-at k inside
      ∙ bits_of (λ b. names w (8 * k + b)) x 8
      (λ b l.
      let byte : (8 * k + b) / 8 ≡ k = omega arith in
      let bit : (8 * k + b) % 8 ≡ b = omega arith in
      same (8 * k + b) (omega arith) ∙ ap₂ (λ i j. eqb (get_or bs i 0 / 2 ^ j % 2) 1) byte bit)
      ∙ mod-eq_of_lt small
      ∙ sym (get_or-take (map_length_lem n) bs k 0 inside))
