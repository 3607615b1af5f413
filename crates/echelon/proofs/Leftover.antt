-- What is left over of a row: leftover-next, leftover-fits, fixed-leaves_nothing.
-- Assumes nothing.
use mathlib.Core.Path.{◌≡◌, refl, sym, ap, ◌∙◌}
use mathlib.Core.Logic.{◌≢◌, ◌⊎◌, inl, inr, ◌↔◌}
use mathlib.Core.List.{List, [], ◌∷◌}
use Prim.Native.Nat.{ℕ, zero, suc, ◌<◌}
use native.Mathlib.Omega.{arith}
use lib.ListN.{length, take}
use Rattle.field.specs.Model.{FieldModel, FieldLaws}
use Rattle.field.proofs.Zero.{zero-code}
use Rattle.echelon.specs.Rows.{Vector, Codes, minus, sum, Figured, rows_of, Agree, Fixes, CodedRow}
use Rattle.echelon.specs.Reduced.{Pivoted, figured, all_figured, at, Reduced}
use Rattle.echelon.specs.Elimination.{cleared, leftover}
use Rattle.echelon.specs.Witness.{Free, direction}
use Rattle.echelon.specs.Theorems.{LeftoverFits, FixedLeavesNothing}
use Rattle.echelon.proofs.Field.{one_right}
use Rattle.echelon.proofs.Codes.{field_of, elt, elt_path, elt_zero, elt_one, minus-below, sum_below, sum_one, sum_none}
use Rattle.echelon.proofs.Indexed.{fits-at, agree_at, pivot_or_free, direction_self, direction_other}
use Rattle.echelon.proofs.Tables.{direction-codes, direction_agrees, zeros-codes, zeros-sum}
use Rattle.echelon.proofs.Values.{AllCodes, all_codes, Kills, cleared-codes, less_self, leftover-codes, leftover_value, tip, tip_value, table_value, fit_value, between, agree_value}

-- one record row more
pub leftover-next :
    (M : FieldModel) (rec : List Pivoted) (k : ℕ) → k < length rec
    → (g : Figured) → leftover M (take (suc k) rec) g ≡ cleared M (at rec k) (leftover M (take k rec) g)
leftover-next M [] k b g = absurd (omega arith)
leftover-next M (e ∷ rec) zero b g = refl
leftover-next M (e ∷ rec) (suc k) b g = leftover-next M rec k (omega arith) (cleared M e g)

module _ (M : FieldModel) (L : FieldLaws M) (n : ℕ) where
  open field_of M L use {zer, one, ◌⊗◌, neg}

  infixl 70 ◌⊗◌
  pub leftover-pivot :
      (rec : List Pivoted) → AllCodes M n rec
      → ((a : ℕ) → a < length rec → (at rec a).weights (at rec a).pivot ≡ 1)
      → ((a b : ℕ) → a < length rec → b < length rec → a ≢ b → (at rec a).weights (at rec b).pivot ≡ 0)
      → (g : Figured) → CodedRow M n g → (a : ℕ) → a < length rec → (leftover M rec g).row (at rec a).pivot ≡ 0
  leftover-pivot [] cr own others g cg a b = absurd (omega arith)
  leftover-pivot (e ∷ rec) cr own others g cg zero b =
      let p = e.pivot in
      let (ce, below) = cr 0 b in
      let h = cleared M e g in
      let ch = cleared-codes M L n e g ce below cg in
      let cs : AllCodes M n rec = λ a k. cr (suc a) (omega arith) in
      let kills : Kills M L n (tip M L n p) zer rec =
      λ a k. tip_value M L n p below (figured (at rec a)) ∙ ap (elt M L) (others (suc a) 0 (omega arith) b (omega arith)) ∙ elt_zero M L
      in
      elt_path M L ((leftover M rec h).row p) 0 ((leftover-codes M L n rec cs h ch).0 p below) (zero-code M L)
      (sym (tip_value M L n p below (leftover M rec h)) ∙ leftover_value M L n (tip M L n p) zer rec cs kills h ch ∙ tip_value M L n p below h
      ∙ ap (elt M L) (less_self M L n (g.row p) (e.weights p) (cg.0 p below) (ce.0 p below) (own 0 b)))
  leftover-pivot (e ∷ rec) cr own others g cg (suc a) b =
      let (ce, below) = cr 0 (omega arith) in
      leftover-pivot rec (λ x k. cr (suc x) (omega arith)) (λ x k. own (suc x) (omega arith))
      (λ x y k l q. others (suc x) (suc y) (omega arith) (omega arith) (omega arith)) (cleared M e g) (cleared-codes M L n e g ce below cg) a
      (omega arith)

  module _ (rec : List Pivoted) (R : Reduced M n rec) (g : Figured) (cg : CodedRow M n g) where
    pub left-codes : CodedRow M n (leftover M rec g)
    left-codes = leftover-codes M L n rec (all_codes M n rec R) g cg

    pub left-pivot : (a : ℕ) → a < length rec → (leftover M rec g).row (at rec a).pivot ≡ 0
    left-pivot = leftover-pivot rec (all_codes M n rec R) R.own_pivot R.other_pivots g cg

    -- two tables that agree on the record
    agree_kills : (t u : Vector) → Codes M n t → Codes M n u → Agree M n (rows_of (all_figured rec)) t u → Kills M L n (between M L n t u) zer rec
    agree_kills t u ct cu agree a b =
        (agree_value M L n t u ct cu (figured (at rec a)) (R.weights_codes a b)).0 (agree_at M n rec t u agree a b)

    left-agree :
        (t u : Vector) → Codes M n t → Codes M n u → Agree M n (rows_of (all_figured rec)) t u
        → (sum M n g.row t ≡ sum M n g.row u) ↔ (sum M n (leftover M rec g).row t ≡ sum M n (leftover M rec g).row u)
    left-agree t u ct cu agree =
        let v = leftover_value M L n (between M L n t u) zer rec (all_codes M n rec R) (agree_kills t u ct cu agree) g cg in
        let here = agree_value M L n t u ct cu g cg.0 in
        let there = agree_value M L n t u ct cu (leftover M rec g) left-codes.0 in
        (λ e. there.1 (v ∙ here.0 e), λ e. here.1 (sym v ∙ there.0 e))

    fixed_nothing : Fixes M n (rows_of (all_figured rec)) g.row → (m : ℕ) → m < n → (leftover M rec g).row m ≡ 0
    fixed_nothing fixes m below = from (pivot_or_free rec m)
      where
        from : ((x : ℕ) × (x < length rec) × ((at rec x).pivot ≡ m)) ⊎ Free rec m → (leftover M rec g).row m ≡ 0
        from (inl (a, b, e)) = ap (leftover M rec g).row (sym e) ∙ left-pivot a b
        from (inr free) =
            let l = (leftover M rec g).row in
            let d = direction M rec m in
            let zc = zeros-codes M L n rec R in
            let cd = direction-codes M L n rec R m below in
            let agree = direction_agrees M L n rec R m below free in
            let sums : sum M n l (λ x. 0) ≡ sum M n l d = (left-agree (λ x. 0) d zc cd agree).0 (fixes (λ x. 0) d zc cd agree) in
            let rest : (x : ℕ) → x < n → x ≢ m → (l x ≡ 0) ⊎ (d x ≡ 0) =
            λ x h q.
            elim (pivot_or_free rec x) [
              | inl p ↦ inl (ap l (sym p.2) ∙ left-pivot p.0 p.1)
              | inr f ↦ inr (direction_other M rec m x f q)
            ]
            in
            elt_path M L (l m) 0 (left-codes.0 m below) (zero-code M L)
            (sym (one_right (field_of M L) (elt M L (l m)))
            ∙ ap (λ x. elt M L (l m) ⊗ x) (sym (ap (elt M L) (direction_self M rec m free) ∙ elt_one M L))
            ∙ sym (sum_one M L n l d left-codes.0 cd m below rest)
            ∙ ap (elt M L) (sym sums ∙ zeros-sum M L n rec R l left-codes.0))

    nothing_fixed : ((m : ℕ) → m < n → (leftover M rec g).row m ≡ 0) → Fixes M n (rows_of (all_figured rec)) g.row
    nothing_fixed none t u ct cu agree =
        let l = (leftover M rec g).row in
        (left-agree t u ct cu agree).1
        (sum_none M L n l t left-codes.0 ct (λ m b. inl (none m b)) ∙ sym (sum_none M L n l u left-codes.0 cu (λ m b. inl (none m b))))

    left-fits :
        (t : Vector) → Codes M n t → ((a : ℕ) → a < length rec → sum M n (at rec a).weights t ≡ (at rec a).figure)
        → minus M (sum M n g.row t) g.figure ≡ minus M (sum M n (leftover M rec g).row t) (leftover M rec g).figure
    left-fits t ct fits =
        let h = leftover M rec g in
        let kills : Kills M L n (λ m. elt M L (t m)) (neg one) rec =
        λ a b. (fit_value M L n t ct (figured (at rec a)) (all_codes M n rec R a b).0).0 (fits a b)
        in
        elt_path M L (minus M (sum M n g.row t) g.figure) (minus M (sum M n h.row t) h.figure)
        (minus-below M L (sum M n g.row t) g.figure (sum_below M L n g.row t cg.0 ct) cg.1)
        (minus-below M L (sum M n h.row t) h.figure (sum_below M L n h.row t left-codes.0 ct) left-codes.1)
        (sym (table_value M L n t ct g cg) ∙ sym (leftover_value M L n (λ m. elt M L (t m)) (neg one) rec (all_codes M n rec R) kills g cg)
        ∙ table_value M L n t ct h left-codes)

pub fixed-leaves_nothing : FixedLeavesNothing
fixed-leaves_nothing M L n rec R g cr hf = (fixed_nothing M L n rec R g (cr, hf), nothing_fixed M L n rec R g (cr, hf))

pub leftover-fits : LeftoverFits
leftover-fits M L n rec R g cr hf =
    let (lc, lf) = left-codes M L n rec R g (cr, hf) in
    (lc, lf, left-pivot M L n rec R g (cr, hf), λ t ct fits. left-fits M L n rec R g (cr, hf) t ct (fits-at M n rec t fits))
