-- A row that is read is written again as the bytes that it was read from. Assumes nothing.
use Rattle.std.proofs.Common.{◌≡◌, ℕ, ◌+◌, ◌*◌, ◌<◌, ◌≤◌, Bool, true, false, cond, not, eqb, List, [], ◌∷◌, ◌++◌, length, get_or, take, drop, None, sym, refl, ap, ◌∙◌, ap₂, inr, ⊎_elim, add-zero, arith}
use Rattle.std.proofs.lemmas.List.{drop_more, drop-drop, length-drop, get_or-drop}
use Rattle.std.proofs.lemmas.Bool.{cases_Bool, cases_lt, eqb-true, eqb-false, ne_eqb, eq-eqb}
use Rattle.refusal.specs.declared.LogRow.{LogRow}
use Rattle.field.specs.Model.{FieldModel}
use Rattle.field.specs.Bytes.{width, written, code_at}
use Rattle.field.specs.Sums.{Vector}
use Rattle.member_map.specs.Maps.{map_length_lem, named, named_below}
use Rattle.answer_log.specs.Rows.{names, mark, plain, map_bytes, weight_bytes, stored_bytes, row_bytes}
use Rattle.answer_log.specs.Entries.{mark_of, map_of, weighted, weight_place, figure_place, row_length_lem, row_weight, row_figure, Mapped, Weighed, EntryCheck, accepted, Reads}
use Rattle.answer_log.proofs.Bits.{map_read}
use Rattle.answer_log.proofs.Elements.{take-parts, code_again}
use Rattle.answer_log.proofs.Weights.{plain_tells, plain-same, weights_again}

-- the front of a list, in four parts, the first of one byte
take_four :
    (bs : List ℕ) (a b c : ℕ) → 1 ≤ length bs
    → take (1 + a + b + c) bs
    ≡ get_or bs 0 0 ∷ (take a (drop 1 bs) ++ (take b (drop (1 + a) bs) ++ take c (drop (1 + a + b) bs)))
take_four bs a b c h =
    let whole : 1 + a + b + c ≡ 1 + (a + (b + c)) = omega arith in
    ap (λ k. take k bs) whole ∙ take-parts 1 (a + (b + c)) bs
    ∙ ap₂ (λ xs ys. xs ++ ys) (ap (take 1) (drop_more bs 0 0 h))
    (take-parts a (b + c) (drop 1 bs)
    ∙ ap (λ xs. take a (drop 1 bs) ++ xs)
    (ap (take (b + c)) (drop-drop a 1 bs) ∙ take-parts b c (drop (1 + a) bs)
    ∙ ap (λ xs. take b (drop (1 + a) bs) ++ take c xs) (drop-drop b (1 + a) bs)))

module _ (M : FieldModel) (n : ℕ) (bs : List ℕ) where
  pub unnamed_weight : (m : ℕ) → named (map_of bs) m ≡ false → row_weight M n bs m ≡ 0
  unfolding row_weight
  unnamed_weight m e = ap (λ b. cond b (cond (weighted bs) (code_at M bs (weight_place M n bs m)) 1) 0) e

  named-weight :
      (m : ℕ) → named (map_of bs) m ≡ true
      → row_weight M n bs m ≡ cond (weighted bs) (code_at M bs (weight_place M n bs m)) 1
  unfolding row_weight
  named-weight m e = ap (λ b. cond b (cond (weighted bs) (code_at M bs (weight_place M n bs m)) 1) 0) e

  pub stored_weight :
      (m : ℕ) → named (map_of bs) m ≡ true → weighted bs ≡ true → row_weight M n bs m ≡ code_at M bs (weight_place M n bs m)
  stored_weight m e s = named-weight m e ∙ ap (λ b. cond b (code_at M bs (weight_place M n bs m)) 1) s

  pub unstored_weight : (m : ℕ) → named (map_of bs) m ≡ true → weighted bs ≡ false → row_weight M n bs m ≡ 1
  unstored_weight m e s = named-weight m e ∙ ap (λ b. cond b (code_at M bs (weight_place M n bs m)) 1) s

  -- a row whose weights are not stored is plain
  unstored_plain : weighted bs ≡ false → plain (row_weight M n bs) n ≡ true
  unstored_plain none =
      (plain_tells (row_weight M n bs) n).1
      (λ m h.
      ⊎_elim
      (λ e. let one = unstored_weight m e none in omega arith)
      (λ e. let zero = unnamed_weight m e in omega arith)
      (cases_Bool (named (map_of bs) m)))

  module _ (fine : Weighed M n bs) (w : Vector) (same : (m : ℕ) → m < n → w m ≡ row_weight M n bs m)
      (none_past : (m : ℕ) → n ≤ m → w m ≡ 0) where
    mapped : Mapped n bs
    mapped = fine.framed.named.mapped

    named_is : (m : ℕ) → m < 8 * map_length_lem n → names w m ≡ named (map_of bs) m
    named_is m h = ⊎_elim (λ e. stands e) (λ e. clear e) (cases_Bool (named (map_of bs) m))
      where
        stands : named (map_of bs) m ≡ true → names w m ≡ named (map_of bs) m
        stands e =
            ⊎_elim
            (λ l.
            let other : eqb (w m) 0 ≡ false = ne_eqb (w m) 0 (λ z. fine.no_fault m (l, e, inr (sym (same m l) ∙ z))) in
            ap not other ∙ sym e)
            (λ l. absurd (fine.framed.named.no_stray m (l, h, e)))
            (cases_lt m n)

        clear : named (map_of bs) m ≡ false → names w m ≡ named (map_of bs) m
        clear e =
            ⊎_elim (λ l. ap not (eq-eqb (w m) 0 (same m l ∙ unnamed_weight m e)) ∙ sym e)
            (λ l. ap not (eq-eqb (w m) 0 (none_past m l)) ∙ sym e)
            (cases_lt m n)

    below-named : (m : ℕ) → m < n → names w m ≡ named (map_of bs) m
    below-named m h = named_is m (omega arith)

    mark_again : mark w n ≡ mark_of bs
    mark_again =
        ⊎_elim
        (λ e.
        ap (λ b. cond b 0 1) (plain-same w (row_weight M n bs) n same ∙ fine.needed e) ∙ sym (eqb-true (mark_of bs) 1 e))
        (λ e.
        let zero : mark_of bs ≡ 0 = let known = mapped.known in omega (arith, eqb-false (mark_of bs) 1 e) in
        ap (λ b. cond b 0 1) (plain-same w (row_weight M n bs) n same ∙ unstored_plain e) ∙ sym zero)
        (cases_Bool (weighted bs))

    module _ (fit : (i : ℕ) → get_or bs i 0 < 256) where
      map_again : map_bytes w n ≡ take (map_length_lem n) (map_of bs)
      map_again =
          let whole = mapped.whole in
          map_read w n (map_of bs) (λ i. rw get_or-drop (fit (1 + i))) (rw length-drop (omega arith)) named_is

      -- how many bytes the stored weights take
      stored : ℕ
      stored = cond (weighted bs) (width M * named_below (map_of bs) n) 0

      figure-at : figure_place M n bs ≡ 1 + map_length_lem n + stored
      unfolding stored
      figure-at = go (weighted bs)
        where
          go :
              (b : Bool)
              → cond b (weight_place M n bs n) (1 + map_length_lem n)
              ≡ 1 + map_length_lem n + cond b (width M * named_below (map_of bs) n) 0
          go true = refl
          go false = sym (add-zero (1 + map_length_lem n))

      stored_again : stored_bytes M w n ≡ take stored (drop (1 + map_length_lem n) bs)
      unfolding stored row_length_lem
      stored_again = ⊎_elim (λ e. weights e) (λ e. none e) (cases_Bool (weighted bs))
        where
          weights : weighted bs ≡ true → stored_bytes M w n ≡ take stored (drop (1 + map_length_lem n) bs)
          weights e =
              let place = figure-at ∙ ap (λ b. 1 + map_length_lem n + cond b (width M * named_below (map_of bs) n) 0) e in
              let rest : figure_place M n bs + width M ≤ length bs = fine.framed.rest in
              let codes : (m : ℕ) → m < n → named (map_of bs) m ≡ true → w m ≡ code_at M bs (weight_place M n bs m) =
              λ m h s. same m h ∙ stored_weight m s e in
              ap (λ b. cond b [] (weight_bytes M w n)) (plain-same w (row_weight M n bs) n same ∙ fine.needed e)
              ∙ weights_again M w (map_of bs) bs fit (1 + map_length_lem n) n (omega arith) below-named codes
              ∙ sym (ap (λ b. take (cond b (width M * named_below (map_of bs) n) 0) (drop (1 + map_length_lem n) bs)) e)

          none : weighted bs ≡ false → stored_bytes M w n ≡ take stored (drop (1 + map_length_lem n) bs)
          none e =
              ap (λ b. cond b [] (weight_bytes M w n)) (plain-same w (row_weight M n bs) n same ∙ unstored_plain e)
              ∙ sym (ap (λ b. take (cond b (width M * named_below (map_of bs) n) 0) (drop (1 + map_length_lem n) bs)) e)

      pub row_again : (f : ℕ) → f ≡ row_figure M n bs → take (row_length_lem M n bs) bs ≡ row_bytes M n w f
      unfolding row_length_lem row_figure row_bytes
      row_again f e =
          let long : figure_place M n bs + width M ≤ length bs = fine.framed.rest in
          let place = figure-at in
          let figure : written M f ≡ take (width M) (drop (1 + map_length_lem n + stored) bs) =
          ap (written M) e ∙ code_again M bs fit (figure_place M n bs) long ∙ ap (λ p. take (width M) (drop p bs)) figure-at in
          ap (λ p. take (p + width M) bs) figure-at
          ∙ take_four bs (map_length_lem n) stored (width M) (let whole = mapped.whole in omega arith)
          ∙ sym (ap₂ (λ x xs. x ∷ xs) mark_again (ap₂ (λ xs ys. xs ++ ys) map_again (ap₂ (λ xs ys. xs ++ ys) stored_again figure)))

pub again :
    (M : FieldModel) (n : ℕ) (k : LogRow) (bs : List ℕ) → ((i : ℕ) → get_or bs i 0 < 256) → (w : Vector) (f size : ℕ)
    → Reads M n k bs w f size → take size bs ≡ row_bytes M n w f
again M n k bs fit w f size r = ap (λ i. take i bs) r.whole ∙ go r.check
  where
    go : EntryCheck M n k bs None → take (row_length_lem M n bs) bs ≡ row_bytes M n w f
    go (accepted fine below) = row_again M n bs fine w r.weights r.none_past fit f r.figure
