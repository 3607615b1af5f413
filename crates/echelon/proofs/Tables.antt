-- The tables B and N(j) of a reduced record, and the witness: base-fits, direction-free, witness-fits; pinned_alone_lem.
-- Assumes nothing.
use mathlib.Core.Path.{◌≡◌, refl, sym, ap, ap₂, subst, ◌∙◌}
use mathlib.Core.Logic.{◌≢◌, ◌⊎◌, inl, inr}
use mathlib.Core.List.{List}
use Prim.Native.Nat.{ℕ, ◌<◌}
use native.Mathlib.Decide.{ℕ_discrete}
use native.Mathlib.Omega.{arith}
use lib.ListN.{length}
use Rattle.field.specs.Model.{FieldModel, FieldLaws}
use Rattle.field.proofs.Zero.{zero-code}
use Rattle.echelon.specs.Rows.{Vector, Codes, minus, sum, rows_of, Agree, Pins}
use Rattle.echelon.specs.Reduced.{Pivoted, at, all_figured, Reduced, Alone}
use Rattle.echelon.specs.Witness.{Free, base, direction, Leads, from_free, from_pivot}
use Rattle.echelon.specs.Theorems.{BaseFits, DirectionFree, WitnessFits, PinnedAlone}
use Rattle.echelon.proofs.Field.{one_right, times_cancel, take_back, share_back}
use Rattle.echelon.proofs.Codes.{field_of, elt, elt_path, elt_zero, elt_one, elt_times, elt_opposite, elt_minus, elt_inverse, elt_nonzero, one_code, sum_below, along, along_codes, elt_along, sum_one, sum_two, sum_cong, minus-below, sum_along, sum_none, opposite-zero}
use Rattle.echelon.proofs.Indexed.{at-fits, agree_at, at_agree, pivot_or_free, Distinct, base-free, base-pivot, direction_self, direction_other, direction-pivot}

module _ (M : FieldModel) (L : FieldLaws M) (n : ℕ) (rec : List Pivoted) (R : Reduced M n rec) where
  open field_of M L use {one, ◌⊕◌, ◌⊗◌, neg, plus_zero, times_one, plus_neg}

  infixl 60 ◌⊕◌
  infixl 70 ◌⊗◌
  pub distinct : Distinct rec
  distinct a b l h e = omega (arith, R.pivots_rise a b l h)

  -- beside its pivot a record row names free members alone
  pub beside : (a m : ℕ) → a < length rec → m ≢ (at rec a).pivot → ((at rec a).weights m ≡ 0) ⊎ Free rec m
  beside a m b apart = from (pivot_or_free rec m)
    where
      from : ((x : ℕ) × (x < length rec) × ((at rec x).pivot ≡ m)) ⊎ Free rec m → ((at rec a).weights m ≡ 0) ⊎ Free rec m
      from (inl (x, h, e)) =
          inl (ap (at rec a).weights (sym e) ∙ R.other_pivots a x b h (λ q. apart (sym e ∙ ap (λ z. (at rec z).pivot) (sym q))))
      from (inr free) = inr free

  pub base-codes : Codes M n (base rec)
  base-codes m b = from (pivot_or_free rec m)
    where
      from : ((x : ℕ) × (x < length rec) × ((at rec x).pivot ≡ m)) ⊎ Free rec m → base rec m < M.size
      from (inl (x, h, e)) = omega (arith, ap (base rec) (sym e) ∙ base-pivot rec distinct x h, R.figure_code x h)
      from (inr free) = omega (arith, base-free rec m free, zero-code M L)

  pub direction-codes : (j : ℕ) → j < n → Codes M n (direction M rec j)
  direction-codes j below m b = from (pivot_or_free rec m)
    where
      other : Free rec m → Dec (m ≡ j) → direction M rec j m < M.size
      other free (yes e) = omega (arith, ap (direction M rec j) e ∙ direction_self M rec j (subst (Free rec) e free), one_code M L)
      other free (no e) = omega (arith, direction_other M rec j m free e, zero-code M L)

      from : ((x : ℕ) × (x < length rec) × ((at rec x).pivot ≡ m)) ⊎ Free rec m → direction M rec j m < M.size
      from (inl (x, h, e)) =
          omega (
            arith,
            ap (direction M rec j) (sym e) ∙ direction-pivot M rec distinct j x h,
            L.opposite_below ((at rec x).weights j) (R.weights_codes x h j below),
          )
      from (inr free) = other free (ℕ_discrete m j)

  pub base_sum : (a : ℕ) → a < length rec → sum M n (at rec a).weights (base rec) ≡ (at rec a).figure
  base_sum a b =
      let w = (at rec a).weights in
      let p = (at rec a).pivot in
      let rest : (m : ℕ) → m < n → m ≢ p → (w m ≡ 0) ⊎ (base rec m ≡ 0) =
      λ m h q. elim (beside a m b q) [ inl z ↦ inl z | inr free ↦ inr (base-free rec m free) ]
      in
      elt_path M L (sum M n w (base rec)) (at rec a).figure (sum_below M L n w (base rec) (R.weights_codes a b) base-codes) (R.figure_code a b)
      (sum_one M L n w (base rec) (R.weights_codes a b) base-codes p (R.pivot_below a b) rest
      ∙ ap₂ (λ x y. elt M L x ⊗ elt M L y) (R.own_pivot a b) (base-pivot rec distinct a b)
      ∙ ap (λ x. x ⊗ elt M L (at rec a).figure) (elt_one M L) ∙ times_one (elt M L (at rec a).figure))

  pub direction-sum : (j : ℕ) → j < n → Free rec j → (a : ℕ) → a < length rec → sum M n (at rec a).weights (direction M rec j) ≡ 0
  direction-sum j below free a b =
      let w = (at rec a).weights in
      let p = (at rec a).pivot in
      let d = direction M rec j in
      let cw = R.weights_codes a b in
      let rest : (m : ℕ) → m < n → m ≢ j → m ≢ p → (w m ≡ 0) ⊎ (d m ≡ 0) =
      λ m h i q. elim (beside a m b q) [ inl z ↦ inl z | inr f ↦ inr (direction_other M rec j m f i) ]
      in
      elt_path M L (sum M n w d) 0 (sum_below M L n w d cw (direction-codes j below)) (zero-code M L)
      (sum_two M L n w d cw (direction-codes j below) j p below (R.pivot_below a b) (λ e. free a b (sym e)) rest
      ∙ ap₂ (λ x y. (elt M L (w j) ⊗ x) ⊕ y)
      (ap (elt M L) (direction_self M rec j free) ∙ elt_one M L)
      (ap₂ (λ x y. elt M L x ⊗ elt M L y) (R.own_pivot a b) (direction-pivot M rec distinct j a b)
      ∙ ap₂ ◌⊗◌ (elt_one M L) (elt_opposite M L (w j) (cw j below)) ∙ times_one (neg (elt M L (w j))))
      ∙ ap (λ x. x ⊕ neg (elt M L (w j))) (one_right (field_of M L) (elt M L (w j)))
      ∙ plus_neg (elt M L (w j)) ∙ sym (elt_zero M L))

  -- what the member and the factor of a witness are for
  led :
      (i a : ℕ) → i < n → a < M.size → {j c : ℕ} → Leads M n rec i a j c
      → (j < n) × Free rec j × (c < M.size) × (along M L (base rec) c (direction M rec j) i ≡ a)
  led i a below ha (from_free free) =
      let d = direction M rec i in
      let cd = direction-codes i below in (
        below,
        free,
        ha,
        elt_path M L (along M L (base rec) a d i) a (along_codes M L n (base rec) a d base-codes ha cd i below) ha
            (elt_along M L n (base rec) a d base-codes ha cd i below
            ∙ ap₂ (λ x y. x ⊕ (elt M L a ⊗ y)) (ap (elt M L) (base-free rec i free) ∙ elt_zero M L)
            (ap (elt M L) (direction_self M rec i free) ∙ elt_one M L)
            ∙ plus_zero (elt M L a ⊗ one) ∙ one_right (field_of M L) (elt M L a)),
      )
  led i a below ha (from_pivot r j b e low) =
      let d = direction M rec j in
      let v = (at rec r).weights j in
      let hv = R.weights_codes r b j low.below in
      let hd = minus-below M L (base rec i) a (base-codes i below) ha in
      let hi = L.inverse_below v hv in
      let c = M.times (minus M (base rec i) a) (M.inverse v) in
      let hc = L.times_below (minus M (base rec i) a) (M.inverse v) hd hi in
      let cd = direction-codes j low.below in
      let back : elt M L c ⊗ elt M L (d i) ≡ neg (elt M L (base rec i) ⊕ neg (elt M L a)) =
      ap₂ ◌⊗◌
      (elt_times M L (minus M (base rec i) a) (M.inverse v) hd hi
      ∙ ap₂ ◌⊗◌ (elt_minus M L (base rec i) a (base-codes i below) ha) (elt_inverse M L v hv))
      (ap (λ x. elt M L (d x)) (sym e) ∙ ap (elt M L) (direction-pivot M rec distinct j r b) ∙ elt_opposite M L v hv)
      ∙ share_back (field_of M L) (elt M L (base rec i) ⊕ neg (elt M L a)) (elt M L v) (elt_nonzero M L v hv low.named)
      in (
        low.below,
        low.is_free,
        hc,
        elt_path M L (along M L (base rec) c d i) a (along_codes M L n (base rec) c d base-codes hc cd i below) ha
            (elt_along M L n (base rec) c d base-codes hc cd i below ∙ ap (λ x. elt M L (base rec i) ⊕ x) back
            ∙ take_back (field_of M L) (elt M L (base rec i)) (elt M L a)),
      )

  pub zeros-codes : Codes M n (λ m. 0)
  zeros-codes m b = zero-code M L

  pub zeros-sum : (r : Vector) → Codes M n r → sum M n r (λ m. 0) ≡ 0
  zeros-sum r cr = sum_none M L n r (λ m. 0) cr zeros-codes (λ m b. inr refl)

  -- N(j) agrees with the table of zeros
  pub direction_agrees : (j : ℕ) → j < n → Free rec j → Agree M n (rows_of (all_figured rec)) (λ m. 0) (direction M rec j)
  direction_agrees j below free =
      at_agree M n rec (λ m. 0) (direction M rec j)
      (λ a b. zeros-sum (at rec a).weights (R.weights_codes a b) ∙ sym (direction-sum j below free a b))

  pins-row : (i : ℕ) → i < n → Pins M n (rows_of (all_figured rec)) i → (a : ℕ) × (a < length rec) × Alone n (at rec a).weights i
  pins-row i below pins = from (pivot_or_free rec i)
    where
      still : (j : ℕ) → j < n → Free rec j → direction M rec j i ≡ 0
      still j h free =
          sym (pins (λ m. 0) (direction M rec j) zeros-codes (direction-codes j h) (direction_agrees j h free))

      from : ((x : ℕ) × (x < length rec) × ((at rec x).pivot ≡ i)) ⊎ Free rec i → (a : ℕ) × (a < length rec) × Alone n (at rec a).weights i
      from (inl (a, b, e)) =
          let w = (at rec a).weights in
          let none : (m : ℕ) → m < n → m ≢ i → Free rec m → w m ≡ 0 =
          λ m h q free.
          opposite-zero M L (w m) (R.weights_codes a b m h)
          (sym (direction-pivot M rec distinct m a b) ∙ ap (direction M rec m) e ∙ still m h free)
          in (
            a,
            b,
            (
              λ z. omega (arith, sym (R.own_pivot a b) ∙ ap w e ∙ z),
              λ m h q. elim (beside a m b (λ p. q (p ∙ e))) [ inl z ↦ z | inr free ↦ none m h q free ],
            ),
          )
      from (inr free) = absurd (omega (arith, direction_self M rec i free, still i below free))

  row-pins : (i : ℕ) → i < n → (a : ℕ) → a < length rec → Alone n (at rec a).weights i → Pins M n (rows_of (all_figured rec)) i
  row-pins i below a b alone t u ct cu agree =
      let w = (at rec a).weights in
      let cw = R.weights_codes a b in
      let one-sum : (v : Vector) → Codes M n v → elt M L (sum M n w v) ≡ elt M L (w i) ⊗ elt M L (v i) =
      λ v cv. sum_one M L n w v cw cv i below (λ m h q. inl (alone.1 m h q))
      in
      elt_path M L (t i) (u i) (ct i below) (cu i below)
      (times_cancel (field_of M L) (elt M L (w i)) (elt M L (t i)) (elt M L (u i)) (elt_nonzero M L (w i) (cw i below) alone.0)
      (sym (one-sum t ct) ∙ ap (elt M L) (agree_at M n rec t u agree a b) ∙ one-sum u cu))

pub base-fits : BaseFits
base-fits M L n rec R = (base-codes M L n rec R, at-fits M n rec (base rec) (base_sum M L n rec R))

pub direction-free : DirectionFree
direction-free M L n rec R j below free =
    (direction-codes M L n rec R j below, direction_self M rec j free, direction-sum M L n rec R j below free)

pub witness-fits : WitnessFits
witness-fits M L n rec R i a below ha w W =
    let (h, free, hc, is-a) = led M L n rec R i a below ha W.leads in
    let d = direction M rec W.member in
    let cb = base-codes M L n rec R in
    let cd = direction-codes M L n rec R W.member h in
    let sums : (x : ℕ) → x < length rec → sum M n (at rec x).weights w ≡ (at rec x).figure =
    λ x b.
    let r = (at rec x).weights in
    sum_cong M n r r w (along M L (base rec) W.factor d) (λ m l. refl) W.table
    ∙ sum_along M L n r (base rec) W.factor d (R.weights_codes x b) cb hc cd (direction-sum M L n rec R W.member h free x b)
    ∙ base_sum M L n rec R x b
    in
    (λ m b. omega (arith, W.table m b, along_codes M L n (base rec) W.factor d cb hc cd m b), W.table i below ∙ is-a, at-fits M n rec w sums)

pub pinned_alone_lem : PinnedAlone
pinned_alone_lem M L n rec R i below =
    (pins-row M L n rec R i below, λ (a, b, alone). row-pins M L n rec R i below a b alone)
