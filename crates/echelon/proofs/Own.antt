-- A reduced record is its own reduced form, and pins nobody where no row names its pivot alone. Assumes nothing.
use Rattle.std.proofs.Common.{◌≡◌, ℕ, suc, ◌<◌, ◌≢◌, ◌⊎◌, List, [], ◌∷◌, sym, ap, ap₂, ◌∙◌, subst, inl, inr, arith}
use native.Mathlib.Decide.{ℕ_discrete}
use Rattle.field.specs.Model.{FieldModel, FieldLaws}
use Rattle.field.specs.Sums.{Vector, Codes, sum}
use Rattle.echelon.specs.Rows.{rows_of, FiguresCodes, Fits, Pins, Fixes}
use Rattle.echelon.specs.Reduced.{Pivoted, at, all_figured, Alone, NoneAlone, Reduced, FitsGiven, ReducedForm}
use Rattle.echelon.specs.Witness.{Free, direction}
use Rattle.echelon.proofs.Field.{one_right}
use Rattle.echelon.proofs.Codes.{field_of, elt, elt_zero, elt_one, sum_one, one_nonzero}
use Rattle.echelon.proofs.Indexed.{pivot_or_free, direction_self, direction_other}
use Rattle.echelon.proofs.Tables.{direction-codes, direction_agrees, zeros-codes, zeros-sum, pinned_alone_lem}
use Rattle.echelon.proofs.Given.{fits-given}

module _ (M : FieldModel) (L : FieldLaws M) (n : ℕ) where
  open field_of M L use {zer, one, ◌⊗◌}

  infixl 70 ◌⊗◌
  below_first : (e : Pivoted) (rec : List Pivoted) → Reduced M n (e ∷ rec) → Reduced M n rec
  below_first e rec R = record {
    weights_codes = λ a b. R.weights_codes (suc a) (omega arith);
    figure_code = λ a b. R.figure_code (suc a) (omega arith);
    pivot_below = λ a b. R.pivot_below (suc a) (omega arith);
    pivots_rise = λ a b l h. R.pivots_rise (suc a) (suc b) (omega arith) (omega arith);
    own_pivot = λ a b. R.own_pivot (suc a) (omega arith);
    lowest_named = λ a m b l. R.lowest_named (suc a) m (omega arith) l;
    other_pivots = λ a b h k ne. R.other_pivots (suc a) (suc b) (omega arith) (omega arith) (omega arith);
  }

  -- no row is fixed by those of higher pivot: N(p) of those has the sum 1 over it, and the table of zeros the sum 0
  first_loose : (e : Pivoted) (rec : List Pivoted) → Reduced M n (e ∷ rec) → Fixes M n (rows_of (all_figured rec)) e.weights → ⊥
  first_loose e rec R fixes =
      let T = below_first e rec R in
      let p = e.pivot in
      let d = direction M rec p in
      let below : p < n = R.pivot_below 0 (omega arith) in
      let codes : Codes M n e.weights = R.weights_codes 0 (omega arith) in
      let free : Free rec p = λ a b same. let up = R.pivots_rise 0 (suc a) (omega arith) (omega arith) in omega arith in
      let zc = zeros-codes M L n rec T in
      let cd = direction-codes M L n rec T p below in
      let sums : sum M n e.weights (λ x. 0) ≡ sum M n e.weights d = fixes (λ x. 0) d zc cd (direction_agrees M L n rec T p below free) in
      let rest : (x : ℕ) → x < n → x ≢ p → (e.weights x ≡ 0) ⊎ (d x ≡ 0) =
      λ x h q.
      elim (pivot_or_free rec x) [
        | inl (a, b, same) ↦ inl (ap e.weights (sym same) ∙ R.other_pivots 0 (suc a) (omega arith) (omega arith) (omega arith))
        | inr f ↦ inr (direction_other M rec p x f q)
      ]
      in
      let once : elt M L (sum M n e.weights d) ≡ one =
      sum_one M L n e.weights d codes cd p below rest
      ∙ ap₂ (λ x y. elt M L x ⊗ elt M L y) (R.own_pivot 0 (omega arith)) (direction_self M rec p free)
      ∙ ap₂ (λ x y. x ⊗ y) (elt_one M L) (elt_one M L) ∙ one_right (field_of M L) one
      in
      one_nonzero M L (sym once ∙ ap (elt M L) (sym sums ∙ zeros-sum M L n rec T e.weights codes) ∙ elt_zero M L)

  own_fits : (rec : List Pivoted) → Reduced M n rec → (t : Vector) → FitsGiven M n (all_figured rec) t → Fits M n (all_figured rec) t
  own_fits [] R t fits = tt
  own_fits (e ∷ rec) R t fits = (fits.0 (first_loose e rec R), own_fits rec (below_first e rec R) t fits.1)

  pub own_form : (rec : List Pivoted) → Reduced M n rec → ReducedForm M n (all_figured rec) rec
  own_form rec R = record { reduced = R; fits = λ t ct f. own_fits rec R t f; given_fits = λ t ct f. fits-given M n (all_figured rec) t f }

  pub own_figures : (rec : List Pivoted) → Reduced M n rec → FiguresCodes M (all_figured rec)
  own_figures [] R = tt
  own_figures (e ∷ rec) R = (R.figure_code 0 (omega arith), own_figures rec (below_first e rec R))

  pub pins_none : (rec : List Pivoted) → Reduced M n rec → NoneAlone n rec → (i : ℕ) → i < n → Pins M n (rows_of (all_figured rec)) i → ⊥
  pins_none rec R none i h pins =
      let (a, b, alone) = (pinned_alone_lem M L n rec R i h).0 pins in
      elim (ℕ_discrete (at rec a).pivot i) [
        | yes same ↦ none a b (subst (Alone n (at rec a).weights) (sym same) alone)
        | no ne ↦ let z : ◌≡◌ {A = ℕ} 1 0 = sym (R.own_pivot a b) ∙ alone.1 _ (R.pivot_below a b) ne in omega arith
      ]
