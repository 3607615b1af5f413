-- What is left over of a row, in memory and in the theory. Assumes nothing.
use Rattle.std.proofs.Common.{◌≡◌, ℕ, ◌<◌, ◌≢◌, List, length, sym, refl, ap, ◌∙◌, subst, ap₂, inl, inr, arith}
use Rattle.field.specs.Model.{FieldModel, FieldLaws}
use Rattle.field.specs.Sums.{Vector}
use Rattle.server.specs.Checks.{Lowest}
use Rattle.echelon.specs.Rows.{Figured, CodedRow}
use Rattle.echelon.specs.Reduced.{Pivoted, at, Alone, Reduced, PinnedWith}
use Rattle.echelon.specs.Elimination.{leftover, AloneWith}
use Rattle.echelon.proofs.Values.{all_codes, leftover-codes, times_nothing}
use Rattle.record.specs.Rows.{pivoted, SameRow, SamePivoted, MadeFresh}
use Rattle.record.specs.Standings.{Left, fresh_row}
use Rattle.record.specs.declared.rows.RecordRow.{RecordRow}
use Rattle.record.specs.declared.rows.FreshRow.{FreshRow}
use Rattle.record.proofs.Join.{cleared_by_same, turned}
use Rattle.echelon.proofs.Judging.{own, others, pinned_stands-alone, alone_is_pinned}

alone-same : (n : ℕ) (w v : Vector) (i : ℕ) → i < n → ((m : ℕ) → m < n → w m ≡ v m) → Alone n w i → Alone n v i
alone-same n w v i h same alone = (λ z. alone.0 (same i h ∙ z), λ m b ne. sym (same m b) ∙ alone.1 m b ne)

-- the same members stand alone beside equal rows
alone_with_same :
    (M : FieldModel) (n : ℕ) (rec : List Pivoted) (e e₁ : Pivoted) → Reduced M n rec → e.pivot < n → SamePivoted n e e₁
    → (i : ℕ) → AloneWith M n rec e i → AloneWith M n rec e₁ i
alone_with_same M n rec e e₁ R below same i (inl (a, h, pivot, alone)) =
    let inside : i < n = subst (λ (q : ℕ). q < n) pivot (R.pivot_below a h) in
    inl (a, h, pivot, alone-same n _ _ i inside (cleared_by_same M n e e₁ (at rec a) same).weights alone)
alone_with_same M n rec e e₁ R below same i (inr (pivot, alone)) =
    let inside : i < n = subst (λ (q : ℕ). q < n) pivot below in
    inr (sym same.pivots ∙ pivot, alone-same n _ _ i inside same.weights alone)

module _
    (M : FieldModel) (L : FieldLaws M) (n : ℕ) (rec : List Pivoted) (R : Reduced M n rec) (g : Figured) (cg : CodedRow M n g)
    (l : Figured) (same : SameRow n l (leftover M rec g)) where
  pub left_of : (p : ℕ) → p < n → l.row p ≢ 0 → ((m : ℕ) → m < p → l.row m ≡ 0) → Left M n rec g p
  left_of p below named lowest = record {
    below = below;
    named = λ z. named (same.rows p below ∙ z);
    lowest = λ m h. let inside : m < n = omega arith in sym (same.rows m inside) ∙ lowest m h;
  }

  pub fresh-same : (x : FreshRow) → MadeFresh M n l x → SamePivoted n (fresh_row M rec g x.row.pivot.0) (pivoted x.row)
  fresh-same x fresh =
      let p = x.row.pivot.0 in
      let made = fresh.made in
      let factor : x.factor.0 ≡ M.inverse ((leftover M rec g).row p) = fresh.factor ∙ ap M.inverse (same.rows p fresh.first.0) in
      record {
        pivots = refl;
        weights = λ m b. sym (made.rows m b ∙ ap₂ M.times factor (same.rows m b));
        figures = sym (made.figures ∙ ap₂ M.times factor same.figures);
      }

module _
    (M : FieldModel) (L : FieldLaws M) (n : ℕ) (rec : List Pivoted) (R : Reduced M n rec) (g : Figured) (cg : CodedRow M n g)
    (x : RecordRow) (left : Left M n rec g x.pivot.0) (same : SamePivoted n (fresh_row M rec g x.pivot.0) (pivoted x)) where
  pub own-one : (pivoted x).weights x.pivot.0 ≡ 1
  own-one = sym (same.weights x.pivot.0 left.below) ∙ own M L n rec R g cg x.pivot.0 left.below left.named left.lowest

  pub others_zero : (a : ℕ) → a < length rec → (pivoted x).weights (at rec a).pivot ≡ 0
  others_zero a h =
      sym (same.weights _ (R.pivot_below a h)) ∙ others M L n rec R g cg x.pivot.0 left.below left.named left.lowest a h

  pub zero_below : (m : ℕ) → m < x.pivot.0 → (pivoted x).weights m ≡ 0
  zero_below m h =
      let named = (leftover M rec g).row x.pivot.0 in
      let code : named < M.size = (leftover-codes M L n rec (all_codes M n rec R) g cg).0 x.pivot.0 left.below in
      sym (same.weights m (omega (arith, h, left.below))) ∙ ap (M.times (M.inverse named)) (left.lowest m h)
      ∙ times_nothing M L n (M.inverse named) (L.inverse_below named code)

  pinned_alone_beside : (i : ℕ) → PinnedWith M n rec g.row i → AloneWith M n rec (pivoted x) i
  pinned_alone_beside i pinned =
      alone_with_same M n rec _ (pivoted x) R left.below same i
      (pinned_stands-alone M L n rec R g cg x.pivot.0 left.below left.named left.lowest i pinned)

  pub lowest_pinned : (i : ℕ) → Lowest (AloneWith M n rec (pivoted x)) i → Lowest (PinnedWith M n rec g.row) i
  lowest_pinned i low = record {
    holds =
        alone_is_pinned M L n rec R g cg x.pivot.0 left.below left.named left.lowest i
        (alone_with_same M n rec (pivoted x) _ R left.below (turned same) i low.holds);
    none_below = λ k h pinned. low.none_below k h (pinned_alone_beside k pinned);
  }

  pub none_pinned : ((i : ℕ) → AloneWith M n rec (pivoted x) i → ⊥) → (i : ℕ) → PinnedWith M n rec g.row i → ⊥
  none_pinned none i pinned = none i (pinned_alone_beside i pinned)
