-- A row that is written is read back. Assumes nothing.
use Rattle.std.proofs.Common.{◌≡◌, ℕ, zero, suc, ◌+◌, ◌<◌, ◌≤◌, Bool, true, false, cond, not, eqb, List, [], ◌∷◌, ◌++◌, length, sym, refl, ap, ◌∙◌, subst, ap₂, ⊎_elim, add-zero, add-one, arith}
use Rattle.std.proofs.lemmas.List.{append_assoc, length-append}
use Rattle.std.proofs.lemmas.Bool.{cases_Bool, cases_eq, eqb-true, eqb-false, not-true, not-false, eq-eqb, both_ways}
use Rattle.refusal.specs.declared.LogRow.{LogRow}
use Rattle.field.specs.Model.{FieldModel}
use Rattle.field.specs.Bytes.{written, code_at}
use Rattle.field.specs.Sums.{Vector, Codes}
use Rattle.server.specs.Checks.{Count}
use Rattle.member_map.specs.Maps.{map_length_lem, named, named_below}
use Rattle.member_map.proofs.Counts.{below_rises, below-named}
use Rattle.answer_log.specs.Rows.{names, mark, plain, map_bytes, weight_bytes, stored_bytes, row_bytes}
use Rattle.answer_log.specs.Entries.{weighted, weight_place, figure_place, row_length_lem, row_weight, row_figure, Mapped, Named, Weighed, accepted, Reads}
use Rattle.answer_log.proofs.Bits.{map-bytes-length, named-written}
use Rattle.answer_log.proofs.Elements.{code_back}
use Rattle.answer_log.proofs.Buffers.{row-size}
use Rattle.answer_log.proofs.Weights.{plain_tells, plain-same, weights-length, weight_back}

-- where none of the members is counted, none is named
none_counted : (map : List ℕ) (n m : ℕ) → named_below map n ≡ 0 → m < n → named map m ≡ true → ⊥
none_counted map zero m none h bit = absurd (omega arith)
none_counted map (suc n) m none h bit =
    let count = ap (named_below map) (add-one n) in
    let rises = (below_rises map n).0 in
    ⊎_elim
    (λ e.
    let here = below-named map m bit in
    let same = ap (λ i. named_below map (i + 1)) e in
    omega arith)
    (λ ne. none_counted map n m (omega arith) (omega arith) bit)
    (cases_eq m n)

module _ (M : FieldModel) (n : ℕ) (w : Vector) (f : ℕ) (after : List ℕ) where
  -- the row with what comes behind it, from its map on
  abbrev rest : List ℕ
  rest = map_bytes w n ++ (stored_bytes M w n ++ (written M f ++ after))

  abbrev row : List ℕ
  row = mark w n ∷ rest

  row_is : row_bytes M n w f ++ after ≡ row
  unfolding row_bytes
  row_is = simp append_assoc

  bit_is : (m : ℕ) → m < n → named rest m ≡ names w m
  bit_is m h = named-written w n (stored_bytes M w n ++ (written M f ++ after)) m (omega arith)

  weighted_is : weighted row ≡ not (plain w n)
  weighted_is = go (plain w n)
    where
      go : (b : Bool) → eqb (cond b 0 1) 1 ≡ not b
      go true = refl
      go false = refl

  stored_length : 1 + map_length_lem n + length (stored_bytes M w n) ≡ figure_place M n row
  stored_length =
      ⊎_elim
      (λ e.
      ap (λ b. 1 + map_length_lem n + length (cond b [] (weight_bytes M w n))) e ∙ add-zero (1 + map_length_lem n)
      ∙ sym (ap (λ b. cond b (weight_place M n row n) (1 + map_length_lem n)) (weighted_is ∙ ap not e)))
      (λ e.
      ap (λ b. 1 + map_length_lem n + length (cond b [] (weight_bytes M w n))) e
      ∙ ap (λ k. 1 + map_length_lem n + k) (weights-length M w rest n (λ m h. sym (bit_is m h)))
      ∙ sym (ap (λ b. cond b (weight_place M n row n) (1 + map_length_lem n)) (weighted_is ∙ ap not e)))
      (cases_Bool (plain w n))

  figure_back : f ≡ row_figure M n row
  unfolding row_figure
  figure_back =
      let before = mark w n ∷ (map_bytes w n ++ stored_bytes M w n) in
      let place : length before ≡ figure_place M n row =
      let parts = length-append (map_bytes w n) (stored_bytes M w n) in
      let map = map-bytes-length w n in
      let all = stored_length in
      omega arith in
      let same : row ≡ before ++ (written M f ++ after) = sym (ap (λ xs. mark w n ∷ xs) (append_assoc (map_bytes w n) (stored_bytes M w n) (written M f ++ after))) in
      sym (ap₂ (λ bs p. code_at M bs p) same (sym place) ∙ code_back M before after f)

  length_is : row_length_lem M n row ≡ length (row_bytes M n w f)
  unfolding row_length_lem
  length_is =
      let parts = row-size M n w f in
      let all = stored_length in
      omega arith

  long_enough : row_length_lem M n row ≤ length row
  long_enough =
      let all = ap length row_is in
      let parts = length-append (row_bytes M n w f) after in
      let own = length_is in
      omega arith

  abbrev stored : ℕ → ℕ
  stored m = code_at M row (weight_place M n row m)

  weight_is : (m : ℕ) → m < n → w m ≡ row_weight M n row m
  unfolding row_weight
  weight_is m h = ⊎_elim (λ e. stands e) (λ e. clear e) (cases_Bool (names w m))
    where
      other : names w m ≡ true → w m ≡ 0 → ⊥
      other e = eqb-false (w m) 0 (not-true (eqb (w m) 0) e)

      kept : names w m ≡ true → w m ≡ cond (weighted row) (stored m) 1
      kept e =
          ⊎_elim
          (λ p.
          let small = (plain_tells w n).0 p m h in
          let named = other e in
          let one : w m ≡ 1 = omega (arith, named) in
          one ∙ sym (ap (λ b. cond b (stored m) 1) (weighted_is ∙ ap not p)))
          (λ p.
          let before = mark w n ∷ map_bytes w n in
          let base = map-bytes-length w n in
          let wide = weights-length M w rest m (λ k l. sym (bit_is k (omega arith))) in
          let place : length before + length (weight_bytes M w m) ≡ weight_place M n row m = omega arith in
          let same : row ≡ before ++ (weight_bytes M w n ++ (written M f ++ after)) =
          ap (λ b. mark w n ∷ (map_bytes w n ++ (cond b [] (weight_bytes M w n) ++ (written M f ++ after)))) p in
          sym (ap (λ b. cond b (stored m) 1) (weighted_is ∙ ap not p)
          ∙ ap₂ (λ bs k. code_at M bs k) same (sym place)
          ∙ weight_back M w before (written M f ++ after) n m h e))
          (cases_Bool (plain w n))

      stands : names w m ≡ true → w m ≡ row_weight M n row m
      stands e = kept e ∙ sym (ap (λ b. cond b (cond (weighted row) (stored m) 1) 0) (bit_is m h ∙ e))

      clear : names w m ≡ false → w m ≡ row_weight M n row m
      clear e =
          eqb-true (w m) 0 (not-false (eqb (w m) 0) e)
          ∙ sym (ap (λ b. cond b (cond (weighted row) (stored m) 1) 0) (bit_is m h ∙ e))

  module _ (count : Count n) (codes : Codes M n w) (none_past : (m : ℕ) → n ≤ m → w m ≡ 0)
      (some : ((m : ℕ) → m < n → w m ≡ 0) → ⊥) (below : f < M.size) where
    mapped_back : Mapped n row
    mapped_back = record {
      count = count;
      known = at_most (plain w n);
      whole =
          let parts = length-append (map_bytes w n) (stored_bytes M w n ++ (written M f ++ after)) in
          let map = map-bytes-length w n in
          omega arith;
    }
      where
        at_most : (b : Bool) → cond b 0 1 < 2
        at_most true = omega arith
        at_most false = omega arith

    named_back : Named n row
    named_back = record {
      mapped = mapped_back;
      no_stray = λ m s.
          both_ways (names w m) (ap not (eq-eqb (w m) 0 (none_past m s.0)))
          (sym (named-written w n (stored_bytes M w n ++ (written M f ++ after)) m s.1) ∙ s.2);
      some_named = λ none.
          some
          (λ m h.
          ⊎_elim (λ e. absurd (none_counted rest n m none h (bit_is m h ∙ e)))
          (λ e. eqb-true (w m) 0 (not-false (eqb (w m) 0) e))
          (cases_Bool (names w m)));
    }

    weighed_back : Weighed M n row
    weighed_back = record {
      framed = record { named = named_back; rest = long_enough };
      no_fault = λ m bad.
          let is = weight_is m bad.0 in
          let fits = codes m bad.0 in
          let named = eqb-false (w m) 0 (not-true (eqb (w m) 0) (sym (bit_is m bad.0) ∙ bad.1)) in
          ⊎_elim (λ past. omega arith) (λ z. named (is ∙ z)) bad.2;
      needed = λ e.
          sym (plain-same w (row_weight M n row) n weight_is) ∙ not-true (plain w n) (sym weighted_is ∙ e);
    }

    reads-row : (k : LogRow) → Reads M n k row w f (length (row_bytes M n w f))
    reads-row k = record {
      check = accepted weighed_back (rw (← figure_back) below);
      weights = weight_is;
      none_past = none_past;
      figure = figure_back;
      whole = sym length_is;
    }

    pub reads_back : (k : LogRow) → Reads M n k (row_bytes M n w f ++ after) w f (length (row_bytes M n w f))
    reads_back k = subst (λ (bs : List ℕ). Reads M n k bs w f (length (row_bytes M n w f))) (sym row_is) (reads-row k)
