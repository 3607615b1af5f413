-- A row joins the record: what `join` asks, and what stands after it. Assumes nothing.
use Rattle.std.proofs.Common.{◌≡◌, ℕ, ◌<◌, ◌≤◌, List, length, sym, refl, ap, ◌∙◌, subst, ap₂, arith}
use Rattle.field.specs.Model.{FieldModel, FieldLaws}
use Rattle.field.specs.Sums.{Vector, Codes, weights_of}
use Rattle.field.proofs.Zero.{zero-code}
use Rattle.echelon.specs.Rows.{Figured, Agree, Fixes, CodedRow, row_with}
use Rattle.echelon.specs.Reduced.{Pivoted, at, figured, Reduced, Same, NoneAlone, record_rows, PinnedWith}
use Rattle.echelon.specs.Elimination.{leftover, joined}
use Rattle.echelon.proofs.Codes.{sum_cong}
use Rattle.echelon.proofs.Indexed.{agree_at, at_agree}
use Rattle.echelon.proofs.Tables.{pinned_alone_lem}
use Rattle.echelon.proofs.Unique.{same-fits, same_sym, same-reduced}
use Rattle.echelon.proofs.Forms.{form-kept, form_grown_lem}
use Rattle.echelon.proofs.Values.{all_codes, leftover-codes}
use Rattle.record.specs.Rows.{pivoted, SamePivoted}
use Rattle.record.specs.Judged.{Adds, FitsBoth}
use Rattle.record.specs.Standings.{unfigured, Left, fresh_row, MayJoin}
use Rattle.record.specs.declared.rows.RecordRow.{RecordRow}
use Rattle.record.specs.declared.rows.FreshRow.{FreshRow}
use Rattle.record.proofs.Figures.{leftover-row, leftover-figure}
use Rattle.record.proofs.Join.{same-joins}
use Rattle.echelon.proofs.Judging.{Place, Form, form, new_pivot, not_fixed}

-- tables agree on equal records alike
same-agree :
    (M : FieldModel) (n : ℕ) (rec rec' : List Pivoted) → Same n rec rec' → (t u : Vector)
    → Agree M n (record_rows rec) t u → Agree M n (record_rows rec') t u
same-agree M n rec rec' same t u agree =
    at_agree M n rec' t u (λ a h.
    let h₁ : a < length rec = omega (arith, same.lengths) in
    let weights : (m : ℕ) → m < n → (at rec' a).weights m ≡ (at rec a).weights m = λ m b. sym (same.weights a m h₁ b) in
    sum_cong M n _ _ t t weights (λ m b. refl) ∙ agree_at M n rec t u agree a h₁ ∙ sym (sum_cong M n _ _ u u weights (λ m b. refl)))

-- a row that is fixed already adds nothing
pub kept-adds :
    (M : FieldModel) (L : FieldLaws M) (n : ℕ) (rec : List Pivoted) (g : Figured) → Fixes M n (record_rows rec) g.row → Adds M n rec g rec
kept-adds M L n rec g fixes given codes G = form-kept M L n given rec G codes g fixes

-- a row that may join, with its figure
pub record FreshFacts (M : FieldModel) (n : ℕ) (rec : List Pivoted) (g : Figured) (x : RecordRow) : Type 0 where
  pub left : Left M n rec g x.pivot.0
  pub same : SamePivoted n (fresh_row M rec g x.pivot.0) (pivoted x)
  pub coded : CodedRow M n (figured (pivoted x))
  pub none_pinned : (i : ℕ) → PinnedWith M n rec g.row i → ⊥

-- y is the row that may join, once its figure v is put in
module _
    (M : FieldModel) (L : FieldLaws M) (n : ℕ) (rec : List Pivoted) (R : Reduced M n rec) (r : Vector) (cr : Codes M n r)
    (x : FreshRow) (may : MayJoin M n rec r x) (v : ℕ) (code : v < M.size)
    (y : RecordRow) (pivot : y.pivot ≡ x.row.pivot) (weights : y.row.weights ≡ x.row.row.weights)
    (figure : y.row.figure.0 ≡ M.plus x.row.row.figure.0 (M.times x.factor.0 v)) where
  abbrev bare : Figured
  bare = leftover M rec (unfigured r)

  abbrev full : Figured
  full = leftover M rec (row_with r v)

  abbrev coded_bare : CodedRow M n (unfigured r)
  coded_bare = (cr, zero-code M L)

  same-rows : full.row ≡ bare.row
  same-rows = leftover-row M rec (unfigured r) (row_with r v) refl

  full-figure : full.figure ≡ M.plus bare.figure v
  full-figure =
      leftover-figure M L n v code rec (all_codes M n rec R) (unfigured r) (row_with r v) coded_bare refl (sym (L.plus_zero v code))

  same-pivot : y.pivot.0 ≡ x.row.pivot.0
  same-pivot = ap (λ p. p.0) pivot

  same-factor : M.inverse (full.row y.pivot.0) ≡ x.factor.0
  same-factor = ap₂ (λ w q. M.inverse (w q)) same-rows same-pivot ∙ sym may.factor

  figured-left : Left M n rec (row_with r v) y.pivot.0
  figured-left =
      subst (λ q. Left M n rec (row_with r v) q) (sym same-pivot)
      (record {
        below = may.left.below;
        named = λ z. may.left.named (ap (λ w. w x.row.pivot.0) (sym same-rows) ∙ z);
        lowest = λ m h. ap (λ w. w m) same-rows ∙ may.left.lowest m h;
      })

  figured-same : SamePivoted n (fresh_row M rec (row_with r v) y.pivot.0) (pivoted y)
  figured-same =
      let left_codes = leftover-codes M L n rec (all_codes M n rec R) (unfigured r) coded_bare in
      let factor : x.factor.0 < M.size =
      rw may.factor (L.inverse_below _ (left_codes.0 x.row.pivot.0 may.left.below)) in
      record {
        pivots = refl;
        weights = λ m b.
            ap₂ M.times same-factor (ap (λ w. w m) same-rows) ∙ ap (λ c. M.times c (bare.row m)) may.factor
            ∙ may.same.weights m b ∙ ap (λ ws. weights_of ws m) (sym weights);
        figures =
            ap₂ M.times same-factor full-figure ∙ L.distributes x.factor.0 bare.figure v factor left_codes.1 code
            ∙ ap (λ z. M.plus z (M.times x.factor.0 v)) (ap (λ c. M.times c bare.figure) may.factor ∙ may.same.figures)
            ∙ sym figure;
      }

  pub figured-facts : y.row.figure.0 < M.size → FreshFacts M n rec (row_with r v) y
  figured-facts small = record {
    left = figured-left;
    same = figured-same;
    coded = (λ m b. rw weights (may.coded.0 m b), small);
    none_pinned = may.none_pinned;
  }

module _
    (M : FieldModel) (L : FieldLaws M) (n : ℕ) (rec : List Pivoted) (R : Reduced M n rec) (g : Figured) (cg : CodedRow M n g)
    (x : RecordRow) (facts : FreshFacts M n rec g x) (k : ℕ) (within : k ≤ length rec)
    (below : (a : ℕ) → a < k → (at rec a).pivot < x.pivot.0)
    (above : (a : ℕ) → k ≤ a → a < length rec → x.pivot.0 ≤ (at rec a).pivot) where
  abbrev p : ℕ
  p = x.pivot.0

  abbrev left : Left M n rec g p
  left = facts.left

  the_place : Place M L n rec R g cg p left.below left.named left.lowest
  the_place = record {
    k = k;
    within = within;
    before = below;
    after = λ a h b.
        let ne = new_pivot M L n rec R g cg p left.below left.named left.lowest a b in
        let low = above a h b in
        omega arith;
  }

  the_form : Form M L n rec R g cg p left.below left.named left.lowest the_place
  the_form = form M L n rec R g cg p left.below left.named left.lowest the_place

  same_record : Same n (joined M (fresh_row M rec g p) k rec) (joined M (pivoted x) k rec)
  same_record = same-joins M n (fresh_row M rec g p) (pivoted x) facts.same rec k within

  fresh-reduced : Reduced M n (joined M (fresh_row M rec g p) k rec)
  unfolding the_place
  fresh-reduced = the_form.reduced

  pub joined-reduced : Reduced M n (joined M (pivoted x) k rec)
  joined-reduced = same-reduced n _ _ same_record M fresh-reduced

  -- the tables that fit the record after it
  module _ (rec' : List Pivoted) (same : Same n (joined M (pivoted x) k rec) rec') where
    pub after_reduced : Reduced M n rec'
    after_reduced = same-reduced n _ _ same M joined-reduced

    pub after_fits : FitsBoth M n rec g rec'
    unfolding the_place
    after_fits t ct = (
      λ fits. the_form.fits t ct (same-fits M n _ _ (same_sym n _ _ same_record) t (same-fits M n _ _ (same_sym n _ _ same) t fits)),
      λ fits. same-fits M n _ _ same t (same-fits M n _ _ same_record t (the_form.both_fit t ct fits)),
    )

    pub after_adds : Adds M n rec g rec'
    after_adds given codes G =
        form_grown_lem M L n given rec rec' G g (not_fixed M L n rec R g cg p left.below left.named left.lowest) after_reduced after_fits

  pub joined_none_alone : NoneAlone n (joined M (pivoted x) k rec)
  unfolding the_place
  joined_none_alone b h alone =
      let J = joined M (fresh_row M rec g p) k rec in
      let h₁ : b < length J = omega (arith, same_record.lengths) in
      let i = (at (joined M (pivoted x) k rec) b).pivot in
      let inside : i < n = joined-reduced.pivot_below b h in
      let pins = (pinned_alone_lem M L n (joined M (pivoted x) k rec) joined-reduced i inside).1 (b, h, alone) in
      facts.none_pinned i (inside, λ t u ct cu agree. pins t u ct cu (same-agree M n _ _ same_record t u (the_form.both-agree t u ct cu agree)))
