-- A row, written part after part to the front of a buffer. Assumes nothing.
use Rattle.std.proofs.Common.{◌≡◌, ℕ, ◌+◌, ◌-◌, ◌<◌, ◌≤◌, List, [], ◌∷◌, ◌++◌, length, take, drop, set, Some, None, Option, refl, sym, subst, ap, ◌∙◌, ap₂, arith, MatchOption}
use borrow.Rule.Slice.PartMut.{put_mid}
use Rattle.std.proofs.lemmas.List.{append_assoc, length-append}
use Rattle.std.specs.Option.{IsSome}
use Rattle.field.specs.Model.{FieldModel}
use Rattle.field.specs.Bytes.{width, written}
use Rattle.field.specs.Sums.{Vector}
use Rattle.member_map.specs.Maps.{map_length_lem}
use Rattle.buffer.specs.Buffers.{Front}
use Rattle.buffer.proofs.Fronts.{front_byte, front_more}
use Rattle.answer_log.specs.Rows.{mark, map_bytes, stored_bytes, row_bytes}
use Rattle.answer_log.proofs.Bits.{map-bytes-length}
use Rattle.answer_log.proofs.Elements.{written-length}

-- how many bytes a row has
pub row-size :
    (M : FieldModel) (n : ℕ) (w : Vector) (f : ℕ)
    → length (row_bytes M n w f) ≡ 1 + map_length_lem n + length (stored_bytes M w n) + width M
unfolding row_bytes
row-size M n w f =
    let parts = length-append (map_bytes w n) (stored_bytes M w n ++ written M f) in
    let more = length-append (stored_bytes M w n) (written M f) in
    let map = map-bytes-length w n in
    let figure = written-length M f in
    omega arith

-- a row, from its parts
pub row-joined :
    (M : FieldModel) (n : ℕ) (w : Vector) (f : ℕ)
    → (((mark w n ∷ []) ++ map_bytes w n) ++ stored_bytes M w n) ++ written M f ≡ row_bytes M n w f
unfolding row_bytes
row-joined M n w f = simp append_assoc

-- a row, written part after part to a buffer that has room for it
module _ (M : FieldModel) (n : ℕ) (w : Vector) (f : ℕ) (o : List ℕ) (room : length (row_bytes M n w f) ≤ length o) where
  pub room_all : 1 + map_length_lem n + length (stored_bytes M w n) + width M ≤ length o
  room_all = let size = row-size M n w f in omega arith

  pub put-mark : (b : ℕ) → b ≡ mark w n → Front o (set o 0 b) (mark w n ∷ []) 1
  put-mark b e = let room = room_all in rw (← e) (front_byte o b (omega arith))

  pub put_map :
      (xs ys : List ℕ) (a : ℕ) → Front o xs (mark w n ∷ []) 1 → a ≡ map_length_lem n
      → ys ≡ map_bytes w n ++ drop (map_length_lem n) (take (length xs - 1) (drop 1 xs))
      → Front o (put_mid 1 (length xs - 1) xs ys) ((mark w n ∷ []) ++ map_bytes w n) (1 + a)
  put_map xs ys a front e is =
      let room = room_all in
      front_more o xs (mark w n ∷ []) 1 front (map_bytes w n) ys a (is ∙ ap (λ i. map_bytes w n ++ drop i (take (length xs - 1) (drop 1 xs))) (sym e))
      (map-bytes-length w n ∙ sym e) (omega arith)

  pub put_stored :
      (xs ys : List ℕ) (a s : ℕ) → Front o xs ((mark w n ∷ []) ++ map_bytes w n) (1 + a) → a ≡ map_length_lem n
      → s ≡ length (stored_bytes M w n) → ys ≡ stored_bytes M w n ++ drop s (take (length xs - (1 + a)) (drop (1 + a) xs))
      → Front o (put_mid (1 + a) (length xs - (1 + a)) xs ys) (((mark w n ∷ []) ++ map_bytes w n) ++ stored_bytes M w n) (1 + a + s)
  put_stored xs ys a s front e size is =
      let room = room_all in
      front_more o xs ((mark w n ∷ []) ++ map_bytes w n) (1 + a) front (stored_bytes M w n) ys s is (sym size) (omega arith)

  pub put-figure :
      (xs ys : List ℕ) (a : ℕ) → Front o xs (((mark w n ∷ []) ++ map_bytes w n) ++ stored_bytes M w n) a
      → ys ≡ written M f ++ drop (width M) (take (length xs - a) (drop a xs))
      → put_mid a (length xs - a) xs ys ≡ row_bytes M n w f ++ drop (length (row_bytes M n w f)) o
  put-figure xs ys a front is =
      let done = ((mark w n ∷ []) ++ map_bytes w n) ++ stored_bytes M w n in
      let size : length (row_bytes M n w f) ≡ a + width M =
      sym (ap length (row-joined M n w f)) ∙ length-append done (written M f) ∙ ap₂ (λ i j. i + j) front.size (written-length M f) in
      let all = front_more o xs done a front (written M f) ys (width M) is (written-length M f) (omega arith) in
      all.buffer ∙ ap₂ (λ us i. us ++ drop i o) (row-joined M n w f) (sym size)

-- an element is written where it is one, and there is room
pub encoded :
    (M : FieldModel) (e : ℕ) (before after : List ℕ) (r : Option ℕ) → e < M.size → width M ≤ length before
    → MatchOption r ((after ≡ before) × (e < M.size → width M ≤ length before → ⊥))
    (λ k. (e < M.size) × (k ≡ width M) × (k ≤ length before) × (after ≡ written M e ++ drop (width M) before))
    → after ≡ written M e ++ drop (width M) before
encoded M e before after None h room told = absurd (told.1 h room)
encoded M e before after (Some k) h room told = told.3

-- so it is, and as many bytes are written as an element has
pub encoded_some :
    (M : FieldModel) (e : ℕ) (before after : List ℕ) (r : Option ℕ) → e < M.size → width M ≤ length before
    → MatchOption r ((after ≡ before) × (e < M.size → width M ≤ length before → ⊥))
    (λ k. (e < M.size) × (k ≡ width M) × (k ≤ length before) × (after ≡ written M e ++ drop (width M) before))
    → IsSome r
encoded_some M e before after None h room told = absurd (told.1 h room)
encoded_some M e before after (Some k) h room told = refl

pub encoded_count :
    (M : FieldModel) (e : ℕ) (before after : List ℕ) (r : Option ℕ) (k : ℕ)
    → MatchOption r ((after ≡ before) × (e < M.size → width M ≤ length before → ⊥))
    (λ k. (e < M.size) × (k ≡ width M) × (k ≤ length before) × (after ≡ written M e ++ drop (width M) before))
    → r ≡ Some k → k ≡ width M
encoded_count M e before after r k told is =
    (subst
    (λ (x : Option ℕ).
    MatchOption x ((after ≡ before) × (e < M.size → width M ≤ length before → ⊥))
    (λ k. (e < M.size) × (k ≡ width M) × (k ≤ length before) × (after ≡ written M e ++ drop (width M) before))) is told).1
