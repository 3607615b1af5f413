-- The stored weights of a row: their bytes, one member more, and where each stands. Assumes nothing.
use Rattle.std.proofs.Common.{◌≡◌, ℕ, zero, suc, ◌+◌, ◌*◌, ◌<◌, ◌≤◌, Bool, true, false, cond, not, eqb, leb, List, [], ◌++◌, length, get_or, take, drop, Decides, sym, refl, ap, ◌∙◌, ap₂, ⊎_elim, add-zero, mul-le-mul_left, mul-zero, mul-one, mul-add, add-mul, one-mul, zero-mul, add-one, arith}
use Rattle.std.proofs.lemmas.List.{append-nil, append_assoc, length-append, drop-drop, take_all}
use Rattle.std.proofs.lemmas.Bool.{cases_Bool, cases_eq, cases_lt, eq-eqb, ne_eqb}
use Rattle.std.proofs.lemmas.Bool.Decides.{Decides-below_and, Decides-like, same_from_decides, nat_tests}
use Rattle.field.specs.Model.{FieldModel}
use Rattle.field.specs.Bytes.{width, written, code_at}
use Rattle.std.specs.List.{count_by}
use Rattle.std.proofs.lemmas.List.Sums.{count_by_more_yes, count_by_more_no}
use Rattle.field.specs.declared.Element.{Element}
use Rattle.field.specs.Sums.{Vector, weights_of}
use Rattle.member_map.specs.Maps.{named, named_below}
use Rattle.member_map.proofs.Counts.{none_below, below-named, below_unnamed, below_rises}
use Rattle.answer_log.specs.Rows.{names, plain, weight_bytes}
use Rattle.answer_log.proofs.Elements.{take-parts, written-length, code_back, code_again}

-- a row is plain exactly when each of its weights is 0 or 1
pub plain_tells : (w : Vector) (n : ℕ) → Decides (plain w n) ((m : ℕ) → m < n → w m ≤ 1)
unfolding plain
plain_tells w = Decides-below_and (λ m. leb (w m) 1) (λ m. w m ≤ 1) (plain w) (λ m. grind (arith, nat_tests)) refl (λ _. refl)

pub plain-same : (v w : Vector) (n : ℕ) → ((m : ℕ) → m < n → v m ≡ w m) → plain v n ≡ plain w n
plain-same v w n same =
    same_from_decides (plain v n) (plain w n) (plain_tells v n)
    (Decides-like (plain w n) (λ h m l. rw (same m l) (h m l)) (λ h m l. rw (sym (same m l)) (h m l)) (plain_tells w n))

-- members of weight 0 change nothing
pub plain_past : (w : Vector) (n k : ℕ) → n ≤ k → ((m : ℕ) → n ≤ m → w m ≡ 0) → plain w k ≡ plain w n
plain_past w n k h past =
    same_from_decides (plain w k) (plain w n) (plain_tells w k)
    (Decides-like (plain w n)
    (λ each m l. ⊎_elim (λ b. each m b) (λ b. let zero = past m b in omega arith) (cases_lt m n))
    (λ each m l. each m (omega arith)) (plain_tells w n))

pub stands : (w : Vector) (m : ℕ) → (w m ≡ 0 → ⊥) → names w m ≡ true
stands w m other = ap not (ne_eqb (w m) 0 other)

pub clear : (w : Vector) (m : ℕ) → w m ≡ 0 → names w m ≡ false
clear w m e = ap not (eq-eqb (w m) 0 e)

module _ (M : FieldModel) (w : Vector) where
  weights_more : (m : ℕ) → weight_bytes M w (m + 1) ≡ weight_bytes M w m ++ cond (names w m) (written M (w m)) []
  unfolding weight_bytes
  weights_more m = ap (weight_bytes M w) (add-one m)

  pub weights-named : (m : ℕ) → names w m ≡ true → weight_bytes M w (m + 1) ≡ weight_bytes M w m ++ written M (w m)
  weights-named m e = weights_more m ∙ ap (λ t. weight_bytes M w m ++ cond t (written M (w m)) []) e

  pub weights_unnamed : (m : ℕ) → names w m ≡ false → weight_bytes M w (m + 1) ≡ weight_bytes M w m
  weights_unnamed m e =
      weights_more m ∙ ap (λ t. weight_bytes M w m ++ cond t (written M (w m)) []) e ∙ append-nil (weight_bytes M w m)

  pub length-named : (m : ℕ) → names w m ≡ true → length (weight_bytes M w (m + 1)) ≡ length (weight_bytes M w m) + width M
  length-named m e =
      ap length (weights-named m e) ∙ length-append (weight_bytes M w m) (written M (w m))
      ∙ ap (λ k. length (weight_bytes M w m) + k) (written-length M (w m))

  pub weights_none : weight_bytes M w 0 ≡ []
  unfolding weight_bytes
  weights_none = refl

  -- more members take no fewer bytes
  pub weights_rise : (m j : ℕ) → length (weight_bytes M w m) ≤ length (weight_bytes M w (m + j))
  weights_rise m zero = let same = ap (λ i. length (weight_bytes M w i)) (add-zero m) in omega arith
  weights_rise m (suc j) =
      let next : m + suc j ≡ m + j + 1 = omega arith in
      let same = ap (λ i. length (weight_bytes M w i)) next in
      let more = ap length (weights_more (m + j)) ∙ length-append (weight_bytes M w (m + j)) (cond (names w (m + j)) (written M (w (m + j))) []) in
      let before = weights_rise m j in
      omega arith

  -- the last of the weights, read back
  weight_last :
      (before after : List ℕ) (m : ℕ) → names w m ≡ true
      → code_at M (before ++ (weight_bytes M w (m + 1) ++ after)) (length before + length (weight_bytes M w m)) ≡ w m
  weight_last before after m bit =
      let front = before ++ weight_bytes M w m in
      let at = sym (length-append before (weight_bytes M w m)) in
      let same : before ++ (weight_bytes M w (m + 1) ++ after) ≡ front ++ (written M (w m) ++ after) =
      ap (λ bs. before ++ (bs ++ after)) (weights-named m bit) ∙ simp append_assoc in
      ap₂ (λ bs p. code_at M bs p) same at ∙ code_back M front after (w m)

  -- the weights that are written are read back, each in its place
  pub weight_back :
      (before after : List ℕ) (n m : ℕ) → m < n → names w m ≡ true
      → code_at M (before ++ (weight_bytes M w n ++ after)) (length before + length (weight_bytes M w m)) ≡ w m
  weight_back before after zero m h bit = absurd (omega arith)
  weight_back before after (suc n) m h bit =
      let place = length before + length (weight_bytes M w m) in
      let more = cond (names w n) (written M (w n)) [] in
      ap (λ i. code_at M (before ++ (weight_bytes M w i ++ after)) place) (sym (add-one n))
      ∙ ⊎_elim
      (λ e. ap (λ i. code_at M (before ++ (weight_bytes M w (i + 1) ++ after)) place) (sym e) ∙ weight_last before after m bit)
      (λ ne.
      ap (λ bs. code_at M (before ++ bs) place) (ap (λ bs. bs ++ after) (weights_more n) ∙ append_assoc (weight_bytes M w n) more after)
      ∙ weight_back before (more ++ after) n m (omega arith) bit)
      (cases_eq m n)

  module _ (map : List ℕ) where
    pub weights-length :
        (m : ℕ) → ((k : ℕ) → k < m → names w k ≡ named map k) → length (weight_bytes M w m) ≡ width M * named_below map m
    weights-length zero same = ap length weights_none ∙ sym (ap (λ k. width M * k) (none_below map) ∙ mul-zero (width M))
    weights-length (suc m) same =
        let next = add-one m in
        let before = weights-length m (λ k h. same k (omega arith)) in
        let bit = same m (omega arith) in
        ap (λ i. length (weight_bytes M w i)) (sym next)
        ∙ ⊎_elim
        (λ e.
        length-named m (bit ∙ e) ∙ ap (λ k. k + width M) before
        ∙ sym (ap (λ k. width M * k) (below-named map m e) ∙ mul-add (width M) (named_below map m) 1 ∙ ap (λ k. width M * named_below map m + k) (mul-one (width M))))
        (λ e. ap length (weights_unnamed m (bit ∙ e)) ∙ before ∙ sym (ap (λ k. width M * k) (below_unnamed map m e)))
        (cases_Bool (named map m))
        ∙ ap (λ i. width M * named_below map i) next

    -- the weights that are read from some bytes are written as those bytes
    module _ (bs : List ℕ) (fit : (i : ℕ) → get_or bs i 0 < 256) (base : ℕ) where
      Again : ℕ → Type 0
      Again m = weight_bytes M w m ≡ take (width M * named_below map m) (drop base bs)

      named_again :
          (m : ℕ) → names w m ≡ true → named map m ≡ true → w m ≡ code_at M bs (base + width M * named_below map m)
          → base + width M * named_below map (m + 1) ≤ length bs → Again m → Again (m + 1)
      unfolding Again
      named_again m bit e code long before =
          let place = width M * named_below map m in
          let more : width M * named_below map (m + 1) ≡ place + width M =
          ap (λ k. width M * k) (below-named map m e) ∙ mul-add (width M) (named_below map m) 1
          ∙ ap (λ k. place + k) (mul-one (width M)) in
          weights-named m bit
          ∙ ap₂ (λ xs ys. xs ++ ys) before
          (ap (written M) code ∙ code_again M bs fit (base + place) (omega arith) ∙ ap (take (width M)) (sym (drop-drop place base bs)))
          ∙ sym (take-parts place (width M) (drop base bs))
          ∙ sym (ap (λ k. take k (drop base bs)) more)

      pub weights_again :
          (m : ℕ) → base + width M * named_below map m ≤ length bs → ((k : ℕ) → k < m → names w k ≡ named map k)
          → ((k : ℕ) → k < m → named map k ≡ true → w k ≡ code_at M bs (base + width M * named_below map k))
          → weight_bytes M w m ≡ take (width M * named_below map m) (drop base bs)
      unfolding Again
      weights_again zero long same codes =
          weights_none ∙ ap (λ k. take k (drop base bs)) (sym (ap (λ k. width M * k) (none_below map) ∙ mul-zero (width M)))
      weights_again (suc m) long same codes =
          let next = add-one m in
          let wide = ap (λ i. width M * named_below map i) next in
          let rises = mul-le-mul_left (width M) (below_rises map m).0 in
          let before : Again m = weights_again m (omega arith) (λ k h. same k (omega arith)) (λ k h. codes k (omega arith)) in
          let bit = same m (omega arith) in
          let here : Again (m + 1) =
          ⊎_elim (λ e. named_again m (bit ∙ e) e (codes m (omega arith) e) (omega arith) before)
          (λ e.
          weights_unnamed m (bit ∙ e) ∙ before
          ∙ sym (ap (λ k. take (width M * k) (drop base bs)) (below_unnamed map m e)))
          (cases_Bool (named map m))
          in
          ap (weight_bytes M w) (sym next) ∙ here ∙ ap (λ k. take k (drop base bs)) wide

-- a width for each weight that is not 0
module _ (M : FieldModel) (ws : List Element) where
  p : Element → Bool
  p e = not (eqb e.0 0)

  taken : (k : ℕ) → k ≤ length ws → length (weight_bytes M (weights_of ws) k) ≡ count_by p (take k ws) * width M
  unfolding p
  taken zero h = ap length (weights_none M (weights_of ws)) ∙ sym (zero-mul (width M))
  taken (suc k) h =
      let w = weights_of ws in
      let within : k < length ws = omega arith in
      let before = taken k (omega arith) in
      ap (λ i. length (weight_bytes M w i)) (sym (add-one k))
      ∙ ⊎_elim
      (λ e.
      length-named M w k e ∙ ap (λ j. j + width M) before
      ∙ sym (ap (λ j. j * width M) (count_by_more_yes p ws k (record { 0 = 0 }) within e) ∙ add-mul (count_by p (take k ws)) 1 (width M) ∙ ap (λ j. count_by p (take k ws) * width M + j) (one-mul (width M))))
      (λ e. ap length (weights_unnamed M w k e) ∙ before ∙ sym (ap (λ j. j * width M) (count_by_more_no p ws k (record { 0 = 0 }) within e)))
      (cases_Bool (names w k))
      ∙ ap (λ i. count_by p (take i ws) * width M) (add-one k)

  pub length-weights : length (weight_bytes M (weights_of ws) (length ws)) ≡ count_by (λ e. not (eqb e.0 0)) ws * width M
  unfolding p
  length-weights = taken (length ws) (omega arith) ∙ ap (λ xs. count_by p xs * width M) (take_all (length ws) ws (omega arith))
