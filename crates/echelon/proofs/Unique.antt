-- A reduced record is known by the tables that fit it: at_most_one, one_form. Records equal at the n members: same-fits, same-reduced.
-- Assumes nothing.
use mathlib.Core.Path.{◌≡◌, refl, sym, ap, ap₂, ◌∙◌}
use mathlib.Core.Logic.{◌≢◌, ◌⊎◌, inl, inr}
use mathlib.Core.List.{List}
use Prim.Native.Nat.{ℕ, zero, suc, ◌≤◌, ◌<◌}
use native.Mathlib.Decide.{ℕ_discrete, dec_lt}
use native.Mathlib.Omega.{arith}
use lib.ListN.{length}
use Rattle.field.specs.Model.{FieldModel, FieldLaws}
use Rattle.field.proofs.Zero.{zero-code}
use Rattle.echelon.specs.Rows.{Vector, Codes, sum, Fits}
use Rattle.echelon.specs.Reduced.{Pivoted, at, all_figured, Reduced, Same}
use Rattle.echelon.specs.Witness.{Free, base, direction}
use Rattle.echelon.specs.Theorems.{AtMostOne, OneForm, SameFits}
use Rattle.echelon.proofs.Field.{plus_cancel, zero_right, one_right, difference_zero}
use Rattle.echelon.proofs.Codes.{field_of, elt, elt_path, elt_zero, elt_one, elt_opposite, one_nonzero, one_code, sum_cong, sum_below, along, along_codes, elt_sum_along, sum_along, sum_one, sum_two}
use Rattle.echelon.proofs.Indexed.{fits-at, at-fits, pivot_or_free, base-free, base-pivot, direction_self, direction_other, direction-pivot}
use Rattle.echelon.proofs.Tables.{distinct, beside, base-codes, base_sum, direction-codes, direction-sum, base-fits}

-- two rising runs of numbers, each of which has what the other has, are one run
module _ (m : ℕ) (p : ℕ → ℕ) (up : (a b : ℕ) → a < b → b < m → p a < p b) (m' : ℕ) (p' : ℕ → ℕ) (up' : (a b : ℕ) → a < b → b < m' → p' a < p' b) where
  further : ((a : ℕ) → a < m → (x : ℕ) × (x < m') × (p a ≡ p' x)) → (a : ℕ) → a < m → (x : ℕ) × (a ≤ x) × (x < m') × (p a ≡ p' x)
  further has zero b = let (x, h, e) = has 0 b in (x, omega arith, h, e)
  further has (suc a) b =
      let (x, l, h, e) = further has a (omega arith) in
      let (y, k, q) = has (suc a) b in
      let order : x < y =
      elim (dec_lt x y) [
        | yes r ↦ r
        | no r ↦ elim (ℕ_discrete x y) [
          | yes z ↦ absurd (omega (arith, up a (suc a) (omega arith) b, ap p' z))
          | no z ↦ absurd (omega (arith, up a (suc a) (omega arith) b, up' y x (omega arith) h))
        ]
      ]
      in
      (y, omega arith, k, q)

  -- the other run has at least as many numbers, none of them higher
  not_higher : ((a : ℕ) → a < m → (x : ℕ) × (x < m') × (p a ≡ p' x)) → (a : ℕ) → a < m → (a < m') × (p' a ≤ p a)
  not_higher has a b =
      let (x, l, h, e) = further has a b in
      elim (dec_lt a x) [
        | yes r ↦ (omega arith, omega (arith, up' a x r h))
        | no r ↦ let z : a ≡ x = omega arith in (omega arith, omega (arith, ap p' z))
      ]

-- what a second record has where each table that fits the first fits it
module _ (M : FieldModel) (L : FieldLaws M) (n : ℕ) (rec rec' : List Pivoted) (R : Reduced M n rec) (R' : Reduced M n rec') (to : (t : Vector) → Codes M n t → Fits M n (all_figured rec) t → Fits M n (all_figured rec') t) where
  open field_of M L use {zer, one, ◌⊕◌, ◌⊗◌, neg, times_one}

  infixl 60 ◌⊕◌
  infixl 70 ◌⊗◌
  base_also : (a : ℕ) → a < length rec' → sum M n (at rec' a).weights (base rec) ≡ (at rec' a).figure
  base_also = let (cb, fits) = base-fits M L n rec R in fits-at M n rec' (base rec) (to (base rec) cb fits)

  direction_also : (j : ℕ) → j < n → Free rec j → (a : ℕ) → a < length rec' → sum M n (at rec' a).weights (direction M rec j) ≡ 0
  direction_also j below free a b =
      let F = field_of M L in
      let r = (at rec' a).weights in
      let cr = R'.weights_codes a b in
      let B = base rec in
      let cb = base-codes M L n rec R in
      let d = direction M rec j in
      let cd = direction-codes M L n rec R j below in
      let w = along M L B 1 d in
      let cw = along_codes M L n B 1 d cb (one_code M L) cd in
      let fits =
      at-fits M n rec w
      (λ x h.
      sum_along M L n (at rec x).weights B 1 d (R.weights_codes x h) cb (one_code M L) cd (direction-sum M L n rec R j below free x h)
      ∙ base_sum M L n rec R x h)
      in
      let f = elt M L (at rec' a).figure in
      let x = elt M L (sum M n r d) in
      let same : f ⊕ x ≡ f ⊕ zer =
      sym (ap₂ (λ y z. y ⊕ z) (ap (elt M L) (base_also a b)) (ap (λ y. y ⊗ x) (elt_one M L) ∙ times_one x))
      ∙ sym (elt_sum_along M L n r B 1 d cr cb (one_code M L) cd)
      ∙ ap (elt M L) (fits-at M n rec' w (to w cw fits) a b) ∙ sym (zero_right F f)
      in
      elt_path M L (sum M n r d) 0 (sum_below M L n r d cr cd) (zero-code M L) (plus_cancel F f x zer same ∙ sym (elt_zero M L))

  -- past j the table N(j) is 0
  direction_ends : (j m : ℕ) → j < m → direction M rec j m ≡ 0
  direction_ends j m h = from (pivot_or_free rec m)
    where
      from : ((x : ℕ) × (x < length rec) × ((at rec x).pivot ≡ m)) ⊎ Free rec m → direction M rec j m ≡ 0
      from (inl (x, b, e)) =
          ap (direction M rec j) (sym e) ∙ direction-pivot M rec (distinct M L n rec R) j x b
          ∙ ap M.opposite (R.lowest_named x j b (omega arith))
          ∙ sym (L.plus_zero (M.opposite 0) (L.opposite_below 0 (zero-code M L))) ∙ L.plus_opposite 0 (zero-code M L)
      from (inr free) = direction_other M rec j m free (omega arith)

  still_free : (j : ℕ) → j < n → Free rec j → Free rec' j
  still_free j below free a b e =
      let r = (at rec' a).weights in
      let d = direction M rec j in
      let cd = direction-codes M L n rec R j below in
      let rest : (m : ℕ) → m < n → m ≢ j → (r m ≡ 0) ⊎ (d m ≡ 0) =
      λ m h q. elim (dec_lt m j) [ yes l ↦ inl (R'.lowest_named a m b (omega arith)) | no l ↦ inr (direction_ends j m (omega arith)) ]
      in
      one_nonzero M L
      (sym (times_one one)
      ∙ sym (ap₂ ◌⊗◌ (ap (elt M L) (ap r (sym e) ∙ R'.own_pivot a b) ∙ elt_one M L) (ap (elt M L) (direction_self M rec j free) ∙ elt_one M L))
      ∙ sym (sum_one M L n r d (R'.weights_codes a b) cd j below rest)
      ∙ ap (elt M L) (direction_also j below free a b) ∙ elt_zero M L)

  module _ (back-free : (j : ℕ) → j < n → Free rec' j → Free rec j) where
    shared : (a : ℕ) → a < length rec → (x : ℕ) × (x < length rec') × ((at rec a).pivot ≡ (at rec' x).pivot)
    shared a b =
        elim (pivot_or_free rec' (at rec a).pivot) [
          | inl s ↦ (s.0, s.1, sym s.2)
          | inr free ↦ absurd (back-free (at rec a).pivot (R.pivot_below a b) free a b refl)
        ]

    module _ (pivots : (a : ℕ) → a < length rec → (a < length rec') × ((at rec a).pivot ≡ (at rec' a).pivot)) where
      same-figure : (a : ℕ) → a < length rec → (at rec a).figure ≡ (at rec' a).figure
      same-figure a b =
          let (b', e) = pivots a b in
          let r = (at rec' a).weights in
          let rest : (m : ℕ) → m < n → m ≢ (at rec' a).pivot → (r m ≡ 0) ⊎ (base rec m ≡ 0) =
          λ m h q. elim (beside M L n rec' R' a m b' q) [ inl z ↦ inl z | inr free ↦ inr (base-free rec m (back-free m h free)) ]
          in
          elt_path M L (at rec a).figure (at rec' a).figure (R.figure_code a b) (R'.figure_code a b')
          (sym (times_one (elt M L (at rec a).figure))
          ∙ sym (ap₂ ◌⊗◌ (ap (elt M L) (R'.own_pivot a b') ∙ elt_one M L)
          (ap (elt M L) (ap (base rec) (sym e) ∙ base-pivot rec (distinct M L n rec R) a b)))
          ∙ sym (sum_one M L n r (base rec) (R'.weights_codes a b') (base-codes M L n rec R) (at rec' a).pivot (R'.pivot_below a b') rest)
          ∙ ap (elt M L) (base_also a b'))

      same-weight : (a m : ℕ) → a < length rec → m < n → (at rec a).weights m ≡ (at rec' a).weights m
      same-weight a m b h = from (pivot_or_free rec m)
        where
          at-pivot : (x : ℕ) → x < length rec → (at rec x).pivot ≡ m → Dec (x ≡ a) → (at rec a).weights m ≡ (at rec' a).weights m
          at-pivot x k e (yes q) =
              let e' : (at rec a).pivot ≡ m = ap (λ y. (at rec y).pivot) (sym q) ∙ e in
              ap (at rec a).weights (sym e') ∙ R.own_pivot a b ∙ sym (R'.own_pivot a (pivots a b).0)
              ∙ ap (at rec' a).weights (sym (pivots a b).1 ∙ e')
          at-pivot x k e (no q) =
              let d : a ≢ x = λ z. q (sym z) in
              ap (at rec a).weights (sym e) ∙ R.other_pivots a x b k d
              ∙ sym (R'.other_pivots a x (pivots a b).0 (pivots x k).0 d) ∙ ap (at rec' a).weights (sym (pivots x k).1 ∙ e)

          at-free : Free rec m → (at rec a).weights m ≡ (at rec' a).weights m
          at-free free =
              let F = field_of M L in
              let (b', e) = pivots a b in
              let r = (at rec' a).weights in
              let w = (at rec a).weights in
              let d = direction M rec m in
              let rest : (x : ℕ) → x < n → x ≢ m → x ≢ (at rec' a).pivot → (r x ≡ 0) ⊎ (d x ≡ 0) =
              λ x l i q.
              elim (beside M L n rec' R' a x b' q) [ inl z ↦ inl z | inr f ↦ inr (direction_other M rec m x (back-free x l f) i) ]
              in
              sym
              (elt_path M L (r m) (w m) (R'.weights_codes a b' m h) (R.weights_codes a b m h)
              (difference_zero F (elt M L (r m)) (elt M L (w m))
              (sym (ap₂ ◌⊕◌
              (ap (λ y. elt M L (r m) ⊗ y) (ap (elt M L) (direction_self M rec m free) ∙ elt_one M L) ∙ one_right F (elt M L (r m)))
              (ap₂ ◌⊗◌ (ap (elt M L) (R'.own_pivot a b') ∙ elt_one M L)
              (ap (elt M L) (ap d (sym e) ∙ direction-pivot M rec (distinct M L n rec R) m a b) ∙ elt_opposite M L (w m) (R.weights_codes a b m h))
              ∙ times_one (neg (elt M L (w m)))))
              ∙ sym (sum_two M L n r d (R'.weights_codes a b') (direction-codes M L n rec R m h) m (at rec' a).pivot h (R'.pivot_below a b') (λ z. free a b (e ∙ sym z)) rest)
              ∙ ap (elt M L) (direction_also m h free a b') ∙ elt_zero M L)))

          from : ((x : ℕ) × (x < length rec) × ((at rec x).pivot ≡ m)) ⊎ Free rec m → (at rec a).weights m ≡ (at rec' a).weights m
          from (inl (x, k, e)) = at-pivot x k e (ℕ_discrete x a)
          from (inr free) = at-free free

pub at_most_one : AtMostOne
at_most_one M L n rec rec' R R' to back =
    let ahead = still_free M L n rec rec' R R' to in
    let behind = still_free M L n rec' rec R' R back in
    let p : ℕ → ℕ = λ a. (at rec a).pivot in
    let p' : ℕ → ℕ = λ a. (at rec' a).pivot in
    let low = not_higher (length rec) p R.pivots_rise (length rec') p' R'.pivots_rise (shared M L n rec rec' R R' to behind) in
    let high = not_higher (length rec') p' R'.pivots_rise (length rec) p R.pivots_rise (shared M L n rec' rec R' R back ahead) in
    let pivots : (a : ℕ) → a < length rec → (a < length rec') × ((at rec a).pivot ≡ (at rec' a).pivot) =
    λ a b. let (h, l) = low a b in (h, omega (arith, high a h))
    in
    let as_long : length rec ≡ length rec' =
    elim (dec_lt (length rec) (length rec')) [
      | yes h ↦ absurd (omega (arith, (high (length rec) h).0))
      | no h ↦ elim (dec_lt (length rec') (length rec)) [ yes k ↦ absurd (omega (arith, (low (length rec') k).0)) | no k ↦ omega arith ]
    ]
    in
    record {
      lengths = as_long;
      pivots = λ a b. (pivots a b).1;
      figures = same-figure M L n rec rec' R R' to behind pivots;
      weights = same-weight M L n rec rec' R R' to behind pivots;
    }

pub one_form : OneForm
one_form M L n given rec rec' G G' =
    at_most_one M L n rec rec' G.reduced G'.reduced (λ t ct f. G'.fits t ct (G.given_fits t ct f))
    (λ t ct f. G.fits t ct (G'.given_fits t ct f))

pub same-fits : SameFits
same-fits M n rec rec' same t fits =
    at-fits M n rec' t
    (λ a b.
    let h : a < length rec = omega (arith, same.lengths) in
    sum_cong M n (at rec' a).weights (at rec a).weights t t (λ m l. sym (same.weights a m h l)) (λ m l. refl)
    ∙ fits-at M n rec t fits a h ∙ same.figures a h)

module _ (n : ℕ) (rec rec' : List Pivoted) (same : Same n rec rec') where
  pub same_sym : Same n rec' rec
  same_sym =
      let shorter : (a : ℕ) → a < length rec' → a < length rec = λ a b. omega (arith, same.lengths) in
      record {
        lengths = sym same.lengths;
        pivots = λ a b. sym (same.pivots a (shorter a b));
        figures = λ a b. sym (same.figures a (shorter a b));
        weights = λ a m b h. sym (same.weights a m (shorter a b) h);
      }

  pub same-reduced : (M : FieldModel) → Reduced M n rec → Reduced M n rec'
  same-reduced M R =
      let short : (a : ℕ) → a < length rec' → a < length rec = λ a b. omega (arith, same.lengths) in
      let pivot : (a : ℕ) → a < length rec' → (at rec' a).pivot ≡ (at rec a).pivot = λ a b. sym (same.pivots a (short a b)) in
      let weight : (a m : ℕ) → a < length rec' → m < n → (at rec' a).weights m ≡ (at rec a).weights m =
      λ a m b h. sym (same.weights a m (short a b) h)
      in
      let within : (a : ℕ) → a < length rec' → (at rec a).pivot < n = λ a b. R.pivot_below a (short a b) in
      let at-pivot : (a b : ℕ) → a < length rec' → b < length rec' → (at rec' a).weights (at rec' b).pivot ≡ (at rec a).weights (at rec b).pivot =
      λ a b h k. ap (at rec' a).weights (pivot b k) ∙ weight a (at rec b).pivot h (within b k)
      in
      record {
        weights_codes = λ a b m h. omega (arith, weight a m b h, R.weights_codes a (short a b) m h);
        figure_code = λ a b. omega (arith, same.figures a (short a b), R.figure_code a (short a b));
        pivot_below = λ a b. omega (arith, pivot a b, within a b);
        pivots_rise = λ a b l h. omega (arith, pivot a (omega arith), pivot b h, R.pivots_rise a b l (short b h));
        own_pivot = λ a b. at-pivot a a b b ∙ R.own_pivot a (short a b);
        lowest_named = λ a m b h.
            let k : m < (at rec a).pivot = omega (arith, pivot a b) in
            weight a m b (omega (arith, within a b)) ∙ R.lowest_named a m (short a b) k;
        other_pivots = λ a b h k d. at-pivot a b h k ∙ R.other_pivots a b (short a h) (short b k) d;
      }
