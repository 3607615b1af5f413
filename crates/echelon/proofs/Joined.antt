-- What is left over of a row joins the record: joined-form. put_low, put_here and put_high say which row stands where in the joined record.
-- Assumes nothing.
use mathlib.Core.Path.{◌≡◌, refl, sym, ap, ap₂, subst, ◌∙◌}
use mathlib.Core.Logic.{◌≢◌, ◌⊎◌, inl, inr}
use mathlib.Core.List.{List, [], ◌∷◌, ◌++◌, map}
use Prim.Native.Nat.{ℕ, zero, suc, ◌≤◌, ◌<◌}
use native.Mathlib.Decide.{ℕ_discrete, dec_lt}
use native.Mathlib.Omega.{arith}
use lib.ListN.{length, take, drop, length-map}
use Rattle.field.specs.Model.{FieldModel, FieldLaws}
use Rattle.echelon.specs.Rows.{Vector, Codes, Figured, rows_of, Agree, Fits, CodedRow}
use Rattle.echelon.specs.Reduced.{Pivoted, figured, all_figured, at, Reduced}
use Rattle.echelon.specs.Elimination.{leftover, scaled, with_pivot, pivot_cleared, joined}
use Rattle.echelon.specs.Theorems.{JoinedForm}
use Rattle.echelon.proofs.Field.{times_zero, zero_right, factor_away}
use Rattle.echelon.proofs.Codes.{field_of, elt, elt_inverse, elt_nonzero}
use Rattle.echelon.proofs.Indexed.{fits-at, at-fits, agree_at, at_agree}
use Rattle.echelon.proofs.Values.{AllCodes, all_codes, value, Kills, cleared-codes, cleared_value, scaled-codes, scaled_value, times_nothing, less_none, less_self, leftover_value, fit_value, between, agree_value}
use Rattle.echelon.proofs.Leftover.{left-codes, left-pivot}

-- x put in before place k of the rows that f makes
abbrev pub put : (Pivoted → Pivoted) → Pivoted → ℕ → List Pivoted → List Pivoted
put f x k rec = take k (map f rec) ++ x ∷ drop k (map f rec)

module _ (f : Pivoted → Pivoted) (x : Pivoted) where
  at_map : (rec : List Pivoted) (a : ℕ) → a < length rec → at (map f rec) a ≡ f (at rec a)
  at_map [] a b = absurd (omega arith)
  at_map (e ∷ rec) zero b = refl
  at_map (e ∷ rec) (suc a) b = at_map rec a (omega arith)

  pub put-length : (k : ℕ) (rec : List Pivoted) → k ≤ length rec → length (put f x k rec) ≡ suc (length rec)
  put-length zero rec h = ap suc (length-map rec f)
  put-length (suc k) [] h = absurd (omega arith)
  put-length (suc k) (e ∷ rec) h = ap suc (put-length k rec (omega arith))

  pub put_low : (k : ℕ) (rec : List Pivoted) → k ≤ length rec → (a : ℕ) → a < k → at (put f x k rec) a ≡ f (at rec a)
  put_low zero rec h a b = absurd (omega arith)
  put_low (suc k) [] h a b = absurd (omega arith)
  put_low (suc k) (e ∷ rec) h zero b = refl
  put_low (suc k) (e ∷ rec) h (suc a) b = put_low k rec (omega arith) a (omega arith)

  pub put_here : (k : ℕ) (rec : List Pivoted) → k ≤ length rec → at (put f x k rec) k ≡ x
  put_here zero rec h = refl
  put_here (suc k) [] h = absurd (omega arith)
  put_here (suc k) (e ∷ rec) h = put_here k rec (omega arith)

  pub put_high : (k : ℕ) (rec : List Pivoted) → k ≤ length rec → (a : ℕ) → k ≤ a → a < length rec → at (put f x k rec) (suc a) ≡ f (at rec a)
  put_high zero rec h a l b = at_map rec a b
  put_high (suc k) [] h a l b = absurd (omega arith)
  put_high (suc k) (e ∷ rec) h zero l b = absurd (omega arith)
  put_high (suc k) (e ∷ rec) h (suc a) l b = put_high k rec (omega arith) a (omega arith) (omega arith)

  -- what stands at place b: x, or what f makes of row a
  pub data Spot (k : ℕ) (rec : List Pivoted) (b : ℕ) : Type 0 where
    new : b ≡ k → at (put f x k rec) b ≡ x → Spot k rec b
    old :
        (a : ℕ) → a < length rec → at (put f x k rec) b ≡ f (at rec a) → ((a < k) × (b ≡ a)) ⊎ ((k ≤ a) × (b ≡ suc a))
        → Spot k rec b

  pub spot : (k : ℕ) (rec : List Pivoted) → k ≤ length rec → (b : ℕ) → b < length (put f x k rec) → Spot k rec b
  spot k rec h b l = from b (omega (arith, put-length k rec h)) (dec_lt b k) (ℕ_discrete b k)
    where
      from : (b : ℕ) → b < suc (length rec) → Dec (b < k) → Dec (b ≡ k) → Spot k rec b
      from b l (yes p) q = old b (omega arith) (put_low k rec h b p) (inl (p, refl))
      from b l (no p) (yes q) = new q (ap (at (put f x k rec)) q ∙ put_here k rec h)
      from zero l (no p) (no q) = absurd (omega arith)
      from (suc a) l (no p) (no q) = old a (omega arith) (put_high k rec h a (omega arith) (omega arith)) (inr (omega arith, refl))

  -- every row of the record is somewhere
  pub kept_spot : (k : ℕ) (rec : List Pivoted) → k ≤ length rec → (a : ℕ) → a < length rec → (b : ℕ) × (b < length (put f x k rec)) × (at (put f x k rec) b ≡ f (at rec a))
  kept_spot k rec h a l =
      elim (dec_lt a k) [
        | yes p ↦ (a, omega (arith, put-length k rec h), put_low k rec h a p)
        | no p ↦ (suc a, omega (arith, put-length k rec h), put_high k rec h a (omega arith) l)
      ]

module _ (M : FieldModel) (L : FieldLaws M) (n : ℕ) (rec : List Pivoted) (R : Reduced M n rec) (g : Figured) (cg : CodedRow M n g) (p k : ℕ) (below : p < n) (named : (leftover M rec g).row p ≢ 0) (lowest : (m : ℕ) → m < p → (leftover M rec g).row m ≡ 0) (within : k ≤ length rec) (before : (a : ℕ) → a < k → (at rec a).pivot < p) (after : (a : ℕ) → k ≤ a → a < length rec → p < (at rec a).pivot) where
  open field_of M L use {Elt, zer, one, ◌⊕◌, ◌⊗◌, neg, times_inv}

  infixl 60 ◌⊕◌
  infixl 70 ◌⊗◌
  abbrev left : Figured
  left = leftover M rec g

  left_c : CodedRow M n left
  left_c = left-codes M L n rec R g cg

  abbrev factor : ℕ
  factor = M.inverse (left.row p)

  factor-code : factor < M.size
  factor-code = L.inverse_below (left.row p) (left_c.0 p below)

  -- the new row
  abbrev fresh : Pivoted
  fresh = with_pivot p (scaled M factor left)

  pub fresh-codes : CodedRow M n (figured fresh)
  fresh-codes = scaled-codes M L n factor left factor-code left_c

  pub fresh-own : fresh.weights p ≡ 1
  fresh-own = L.times_comm factor (left.row p) factor-code (left_c.0 p below) ∙ L.times_inverse (left.row p) (left_c.0 p below) named

  fresh_none : (m : ℕ) → left.row m ≡ 0 → fresh.weights m ≡ 0
  fresh_none m e = ap (M.times factor) e ∙ times_nothing M L n factor factor-code

  pub fresh-pivot : (a : ℕ) → a < length rec → fresh.weights (at rec a).pivot ≡ 0
  fresh-pivot a b = fresh_none (at rec a).pivot (left-pivot M L n rec R g cg a b)

  -- a record row cleared by the new row
  abbrev row_of : ℕ → Pivoted
  row_of a = pivot_cleared M fresh (at rec a)

  row-codes : (a : ℕ) → a < length rec → CodedRow M n (figured (row_of a))
  row-codes a b = cleared-codes M L n fresh (figured (at rec a)) fresh-codes below (R.weights_codes a b, R.figure_code a b)

  -- where the record row or the new row is 0, the cleared row is as it was
  row_same :
      (a m : ℕ) → a < length rec → m < n → ((at rec a).weights p ≡ 0) ⊎ (fresh.weights m ≡ 0)
      → (row_of a).weights m ≡ (at rec a).weights m
  row_same a m b h none =
      less_none M L n ((at rec a).weights m) ((at rec a).weights p) (fresh.weights m) (R.weights_codes a b m h)
      (R.weights_codes a b p below) (fresh-codes.0 m h) none

  row-pivot : (a : ℕ) → a < length rec → (row_of a).weights p ≡ 0
  row-pivot a b = less_self M L n ((at rec a).weights p) (fresh.weights p) (R.weights_codes a b p below) (fresh-codes.0 p below) fresh-own

  row_low : (a m : ℕ) → a < length rec → m < (at rec a).pivot → (row_of a).weights m ≡ 0
  row_low a m b h =
      let none : ((at rec a).weights p ≡ 0) ⊎ (fresh.weights m ≡ 0) =
      elim (dec_lt a k) [
        | yes q ↦ inr (fresh_none m (lowest m (omega (arith, before a q))))
        | no q ↦ inl (R.lowest_named a p b (after a (omega arith) b))
      ]
      in
      row_same a m b (omega (arith, R.pivot_below a b)) none ∙ R.lowest_named a m b h

  abbrev J : List Pivoted
  J = joined M fresh k rec

  abbrev Place : ℕ → Type 0
  Place b = Spot (pivot_cleared M fresh) fresh k rec b

  place : (b : ℕ) → b < length J → Place b
  place = spot (pivot_cleared M fresh) fresh k rec within

  -- what holds of the new row and of each cleared row holds of each row
  each : (Q : Pivoted → Type 0) → Q fresh → ((a : ℕ) → a < length rec → Q (row_of a)) → (b : ℕ) → b < length J → Q (at J b)
  each Q first rest b h = from (place b h)
    where
      from : Place b → Q (at J b)
      from (new e q) = subst Q (sym q) first
      from (old a l q s) = subst Q (sym q) (rest a l)

  J_rise : (a b : ℕ) → a < b → Place a → Place b → (at J a).pivot < (at J b).pivot
  J_rise a b l (new e q) (new e' q') = absurd (omega arith)
  J_rise a b l (new e q) (old y m q' s) = omega (arith, ap (λ r. r.pivot) q, ap (λ r. r.pivot) q', after y (omega arith) m)
  J_rise a b l (old x m q s) (new e q') = omega (arith, ap (λ r. r.pivot) q, ap (λ r. r.pivot) q', before x (omega arith))
  J_rise a b l (old x m q s) (old y m' q' s') =
      omega (arith, ap (λ r. r.pivot) q, ap (λ r. r.pivot) q', R.pivots_rise x y (omega arith) m')

  J_others : (a b : ℕ) → a ≢ b → Place a → Place b → (at J a).weights (at J b).pivot ≡ 0
  J_others a b d (new e q) (new e' q') = absurd (d (e ∙ sym e'))
  J_others a b d (new e q) (old y m q' s) = ap₂ (λ r z. r.weights z.pivot) q q' ∙ fresh-pivot y m
  J_others a b d (old x m q s) (new e q') = ap₂ (λ r z. r.weights z.pivot) q q' ∙ row-pivot x m
  J_others a b d (old x m q s) (old y m' q' s') =
      ap₂ (λ r z. r.weights z.pivot) q q' ∙ row_same x (at rec y).pivot m (R.pivot_below y m') (inr (fresh-pivot y m'))
      ∙ R.other_pivots x y m m' (omega arith)

  J-reduced : Reduced M n J
  J-reduced = record {
    weights_codes = each (λ e. Codes M n e.weights) fresh-codes.0 (λ a b. (row-codes a b).0);
    figure_code = each (λ e. e.figure < M.size) fresh-codes.1 (λ a b. (row-codes a b).1);
    pivot_below = each (λ e. e.pivot < n) below R.pivot_below;
    pivots_rise = λ a b l h. J_rise a b l (place a (omega arith)) (place b h);
    own_pivot = each (λ e. e.weights e.pivot ≡ 1) fresh-own
        (λ a b. row_same a (at rec a).pivot b (R.pivot_below a b) (inr (fresh-pivot a b)) ∙ R.own_pivot a b);
    lowest_named = λ a m b.
        each (λ e. m < e.pivot → e.weights m ≡ 0) (λ h. fresh_none m (lowest m h)) (λ x l h. row_low x m l h) a b;
    other_pivots = λ a b h l d. J_others a b d (place a h) (place b l);
  }

  -- the joined record has the value 0 exactly where the record and the row of g have it
  module _ (t : ℕ → Elt) (y : Elt) where
    abbrev v : Figured → Elt
    v = value M L n t y

    v_row : (a : ℕ) → a < length rec → v (figured (row_of a)) ≡ v (figured (at rec a)) ⊕ (neg (elt M L ((at rec a).weights p)) ⊗ v (figured fresh))
    v_row a b = cleared_value M L n t y fresh (figured (at rec a)) fresh-codes below (R.weights_codes a b, R.figure_code a b)

    v_fresh : v (figured fresh) ≡ elt M L factor ⊗ v left
    v_fresh = scaled_value M L n t y factor left factor-code left_c

    v_row_none : v (figured fresh) ≡ zer → (a : ℕ) → a < length rec → v (figured (row_of a)) ≡ v (figured (at rec a))
    v_row_none e a b =
        let c = neg (elt M L ((at rec a).weights p)) in
        let w = v (figured (at rec a)) in
        v_row a b ∙ ap (λ x. w ⊕ (c ⊗ x)) e ∙ ap (λ x. w ⊕ x) (times_zero (field_of M L) c) ∙ zero_right (field_of M L) w

    to_kills : v g ≡ zer → Kills M L n t y rec → Kills M L n t y J
    to_kills e kills =
        let none : v (figured fresh) ≡ zer =
        v_fresh ∙ ap (λ x. elt M L factor ⊗ x) (leftover_value M L n t y rec (all_codes M n rec R) kills g cg ∙ e) ∙ times_zero (field_of M L) (elt M L factor)
        in
        each (λ d. v (figured d) ≡ zer) none (λ a b. v_row_none none a b ∙ kills a b)

    from_kills : Kills M L n t y J → (v g ≡ zer) × Kills M L n t y rec
    from_kills kills =
        let F = field_of M L in
        let l = left.row p in
        let hl = left_c.0 p below in
        let none : v (figured fresh) ≡ zer =
        ap (λ d. v (figured d)) (sym (put_here (pivot_cleared M fresh) fresh k rec within))
        ∙ kills k (omega (arith, put-length (pivot_cleared M fresh) fresh k rec within))
        in
        let kept : Kills M L n t y rec =
        λ a b.
        let (c, h, q) = kept_spot (pivot_cleared M fresh) fresh k rec within a b in
        sym (v_row_none none a b) ∙ ap (λ d. v (figured d)) (sym q) ∙ kills c h
        in
        let unit : elt M L l ⊗ elt M L factor ≡ one =
        ap (λ x. elt M L l ⊗ x) (elt_inverse M L l hl) ∙ times_inv (elt M L l) (elt_nonzero M L l hl named)
        in (
          sym (leftover_value M L n t y rec (all_codes M n rec R) kept g cg)
              ∙ factor_away F (elt M L factor) (v left) (elt M L l) unit (sym v_fresh ∙ none),
          kept,
        )

  J-codes : AllCodes M n J
  J-codes = all_codes M n J J-reduced

  J-fits : (t : Vector) → Codes M n t → Fits M n (all_figured J) t → Fits M n (g ∷ all_figured rec) t
  J-fits t ct fits =
      let fit = fit_value M L n t ct in
      let (e, kills) =
      from_kills (λ m. elt M L (t m)) (neg one) (λ a b. (fit (figured (at J a)) (J-codes a b).0).0 (fits-at M n J t fits a b))
      in
      ((fit g cg).1 e, at-fits M n rec t (λ a b. (fit (figured (at rec a)) (all_codes M n rec R a b).0).1 (kills a b)))

  fits-J : (t : Vector) → Codes M n t → Fits M n (g ∷ all_figured rec) t → Fits M n (all_figured J) t
  fits-J t ct fits =
      let fit = fit_value M L n t ct in
      let kills =
      to_kills (λ m. elt M L (t m)) (neg one) ((fit g cg).0 fits.0)
      (λ a b. (fit (figured (at rec a)) (all_codes M n rec R a b).0).0 (fits-at M n rec t fits.1 a b))
      in
      at-fits M n J t (λ a b. (fit (figured (at J a)) (J-codes a b).0).1 (kills a b))

  J-agree :
      (t u : Vector) → Codes M n t → Codes M n u
      → Agree M n (rows_of (all_figured J)) t u → Agree M n (g.row ∷ rows_of (all_figured rec)) t u
  J-agree t u ct cu agree =
      let same = agree_value M L n t u ct cu in
      let (e, kills) =
      from_kills (between M L n t u) zer (λ a b. (same (figured (at J a)) (J-codes a b).0.0).0 (agree_at M n J t u agree a b))
      in
      ((same g cg.0).1 e, at_agree M n rec t u (λ a b. (same (figured (at rec a)) (R.weights_codes a b)).1 (kills a b)))

  agree-J :
      (t u : Vector) → Codes M n t → Codes M n u
      → Agree M n (g.row ∷ rows_of (all_figured rec)) t u → Agree M n (rows_of (all_figured J)) t u
  agree-J t u ct cu agree =
      let same = agree_value M L n t u ct cu in
      let kills =
      to_kills (between M L n t u) zer ((same g cg.0).0 agree.0)
      (λ a b. (same (figured (at rec a)) (R.weights_codes a b)).0 (agree_at M n rec t u agree.1 a b))
      in
      at_agree M n J t u (λ a b. (same (figured (at J a)) (J-codes a b).0.0).1 (kills a b))

  -- what joined-form says of the record that e joins
  abbrev Form : Pivoted → Type 0
  Form e =
      Reduced M n (joined M e k rec)
      × ((t : Vector) → Codes M n t
      → (Fits M n (all_figured (joined M e k rec)) t → Fits M n (g ∷ all_figured rec) t)
      × (Fits M n (g ∷ all_figured rec) t → Fits M n (all_figured (joined M e k rec)) t))
      × ((t u : Vector) → Codes M n t → Codes M n u
      → (Agree M n (rows_of (all_figured (joined M e k rec))) t u → Agree M n (g.row ∷ rows_of (all_figured rec)) t u)
      × (Agree M n (g.row ∷ rows_of (all_figured rec)) t u → Agree M n (rows_of (all_figured (joined M e k rec))) t u))

  form : (e : Pivoted) → e ≡ fresh → Form e
  form e q =
      subst Form (sym q)
      (J-reduced, (λ t ct. (J-fits t ct, fits-J t ct)), λ t u ct cu. (J-agree t u ct cu, agree-J t u ct cu))

pub joined-form : JoinedForm
joined-form M L n rec R g cr hf = form M L n rec R g (cr, hf)
