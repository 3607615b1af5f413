-- A buffer that is written from its front on. Assumes nothing.
use Rattle.std.proofs.Common.{◌≡◌, ℕ, ◌+◌, ◌-◌, ◌<◌, ◌≤◌, List, [], ◌∷◌, ◌++◌, length, get_or, take, drop, set, sym, refl, ap, ◌∙◌, ap₂, arith}
use borrow.Rule.Slice.PartMut.{put_mid, post_of}
use Rattle.std.proofs.lemmas.List.{append-nil, append_assoc, length-append, length-drop, take_at, drop_at, drop_all, drop-drop, take_rest, drop_more, take_more, set_at, length-take-le}
use Rattle.buffer.specs.Buffers.{Put, Front}

-- one byte more
pub byte_put :
    (done o : List ℕ) (k : ℕ) → k < length done → k < length o
    → set (take k done ++ drop k o) k (get_or done k 0) ≡ take (k + 1) done ++ drop (k + 1) o
byte_put done o k h l =
    let b = get_or done k 0 in
    ap (λ rest. set (take k done ++ rest) k b) (drop_more o k 0 l)
    ∙ set_at (take k done) (get_or o k 0) (drop (k + 1) o) b k (length-take-le k done (omega arith))
    ∙ sym (append_assoc (take k done) (b ∷ []) (drop (k + 1) o))
    ∙ sym (ap (λ xs. xs ++ drop (k + 1) o) (take_more done k 0 h))

pub front_byte : (o : List ℕ) (b : ℕ) → 1 ≤ length o → Front o (set o 0 b) (b ∷ []) 1
front_byte o b h = record { buffer = ap (λ xs. set xs 0 b) (drop_more o 0 0 h); size = refl; within = h }

-- what a callee put
pub front_of_put : (o xs bytes : List ℕ) (k : ℕ) → Put bytes o xs k → length bytes ≤ length o → Front o xs bytes k
front_of_put o xs bytes k put room =
    let count = put.count in
    record { buffer = put.buffer ∙ ap (λ i. bytes ++ drop i o) (sym count); size = sym count; within = omega arith }

module _ (o xs done : List ℕ) (a : ℕ) (front : Front o xs done a) where
  pub same_length : length xs ≡ length o
  same_length =
      let all = ap length front.buffer ∙ length-append done (drop a o) in
      let rest = length-drop a o in
      let size = front.size in
      let within = front.within in
      omega arith

  -- the part from `a` on, as the code lends it
  pub part_is : take (length xs - a) (drop a xs) ≡ drop a o
  part_is = take_rest xs a ∙ ap (drop a) front.buffer ∙ drop_at done (drop a o) a front.size

  pub part_length : length (take (length xs - a) (drop a xs)) ≡ length o - a
  part_length = ap length part_is ∙ length-drop a o

  -- some bytes more, written to that part
  pub front_more :
      (bytes ys : List ℕ) (b : ℕ) → ys ≡ bytes ++ drop b (take (length xs - a) (drop a xs)) → length bytes ≡ b
      → a + b ≤ length o → Front o (put_mid a (length xs - a) xs ys) (done ++ bytes) (a + b)
  front_more bytes ys b e size within =
      let before : take a xs ≡ done = ap (take a) front.buffer ∙ take_at done (drop a o) a front.size in
      let none : post_of a (length xs - a) xs ≡ [] = drop_all (length xs - a) (drop a xs) (rw length-drop (omega arith)) in
      record {
        buffer =
            ap₂ (λ us vs. us ++ vs) before
            (ap₂ (λ us vs. us ++ vs) (e ∙ ap (λ us. bytes ++ drop b us) part_is ∙ ap (λ us. bytes ++ us) (drop-drop b a o)) none
            ∙ append-nil (bytes ++ drop (a + b) o))
            ∙ sym (append_assoc done bytes (drop (a + b) o));
        size = length-append done bytes ∙ ap₂ (λ i j. i + j) front.size size;
        within = within;
      }

  -- the same, of a callee that puts the bytes
  pub front-put :
      (bytes ys : List ℕ) (k : ℕ) → Put bytes (take (length xs - a) (drop a xs)) ys k → a + length bytes ≤ length o
      → Front o (put_mid a (length xs - a) xs ys) (done ++ bytes) (a + k)
  front-put bytes ys k put within =
      let count = put.count in
      front_more bytes ys k (put.buffer ∙ ap (λ i. bytes ++ drop i (take (length xs - a) (drop a xs))) (sym count)) (sym count) (omega arith)

  pub front-set : (b : ℕ) → a < length o → Front o (set xs a b) (done ++ (b ∷ [])) (a + 1)
  front-set b h =
      record {
        buffer =
            ap (λ us. set us a b) (front.buffer ∙ ap (λ us. done ++ us) (drop_more o a 0 h))
            ∙ set_at done (get_or o a 0) (drop (a + 1) o) b a front.size
            ∙ sym (append_assoc done (b ∷ []) (drop (a + 1) o));
        size = length-append done (b ∷ []) ∙ ap (λ i. i + 1) front.size;
        within = omega arith;
      }

  pub front_as : (other : List ℕ) → done ≡ other → Front o xs other a
  front_as other e =
      record {
        buffer = front.buffer ∙ ap (λ us. us ++ drop a o) e;
        size = sym (ap length e) ∙ front.size;
        within = front.within;
      }

  -- all of the bytes are written
  pub front_all : (bytes : List ℕ) → done ≡ bytes → Put bytes o xs a
  front_all bytes e =
      let count = sym front.size ∙ ap length e in
      record { count = count; buffer = front.buffer ∙ ap₂ (λ us i. us ++ drop i o) e count }
