-- What a row does to the record, from what is left over of it. Assumes nothing.
use Rattle.std.proofs.Common.{◌≡◌, ℕ, zero, suc, ◌<◌, ◌≤◌, ◌≢◌, List, ◌∷◌, length, sym, refl, ap, ◌∙◌, subst, inl, inr, arith}
use native.Mathlib.Decide.{ℕ_discrete, dec_lt}
use Rattle.field.specs.Model.{FieldModel, FieldLaws}
use Rattle.field.specs.Sums.{Vector, Codes, minus, sum}
use Rattle.echelon.specs.Rows.{Figured, Agree, Fits, Fixes, CodedRow}
use Rattle.echelon.specs.Reduced.{Pivoted, at, all_figured, Alone, Reduced, record_rows, PinnedWith, FixedFigure}
use Rattle.echelon.specs.Elimination.{leftover, scaled, with_pivot, pivot_cleared, joined, AloneWith}
use Rattle.field.proofs.Zero.{zero-code, zero_right}
use Rattle.echelon.proofs.Codes.{sum_none, sum_below}
use Rattle.echelon.proofs.Tables.{pinned_alone_lem}
use Rattle.echelon.proofs.Leftover.{leftover-fits, fixed-leaves_nothing}
use Rattle.echelon.proofs.Joined.{put-length, spot, Spot, new, old, kept_spot, put_here, joined-form, fresh-own, fresh-pivot}

module _ (M : FieldModel) (L : FieldLaws M) (n : ℕ) (rec : List Pivoted) (R : Reduced M n rec) (g : Figured) (cg : CodedRow M n g) where
  abbrev pub left : Figured
  left = leftover M rec g

  pub nothing_fixes : ((m : ℕ) → m < n → left.row m ≡ 0) → Fixes M n (record_rows rec) g.row
  nothing_fixes none = (fixed-leaves_nothing M L n rec R g cg.0 cg.1).1 none

  module _ (p : ℕ) (below : p < n) (named : left.row p ≢ 0) (lowest : (m : ℕ) → m < p → left.row m ≡ 0) where
    pub not_fixed : Fixes M n (record_rows rec) g.row → ⊥
    not_fixed fixes = named ((fixed-leaves_nothing M L n rec R g cg.0 cg.1).0 fixes p below)

    pub new_pivot : (a : ℕ) → a < length rec → (at rec a).pivot ≢ p
    new_pivot a h same = named (ap left.row (sym same) ∙ (leftover-fits M L n rec R g cg.0 cg.1).2 a h)

    -- the place of the new row
    pub record Place : Type 0 where
      pub k : ℕ
      pub within : k ≤ length rec
      pub before : (a : ℕ) → a < k → (at rec a).pivot < p
      pub after : (a : ℕ) → k ≤ a → a < length rec → p < (at rec a).pivot

    place_from : (k : ℕ) → k ≤ length rec → ((a : ℕ) → k ≤ a → a < length rec → p < (at rec a).pivot) → Place
    place_from zero h above = record { k = 0; within = h; before = λ a b. absurd (omega arith); after = above }
    place_from (suc k) h above =
        elim (dec_lt (at rec k).pivot p) [
          | yes low ↦
              record {
                k = suc k;
                within = h;
                before = λ a b.
                    elim (ℕ_discrete a k) [
                      | yes same ↦ subst (λ (c : ℕ). (at rec c).pivot < p) (sym same) low
                      | no ne ↦ let up = R.pivots_rise a k (omega arith) (omega arith) in omega arith
                    ];
                after = above;
              }
          | no high ↦
              let here : p < (at rec k).pivot = let ne = new_pivot k (omega arith) in omega arith in
              place_from k (omega arith) (λ a low b.
              elim (ℕ_discrete a k) [ yes same ↦ subst (λ (c : ℕ). p < (at rec c).pivot) (sym same) here | no ne ↦ above a (omega arith) b ])
        ]

    pub the_place : Place
    the_place = place_from (length rec) (omega arith) (λ a low b. absurd (omega arith))

    -- the new row
    abbrev pub fresh : Pivoted
    fresh = with_pivot p (scaled M (M.inverse (left.row p)) left)

    -- the laws of the joined record
    pub record Form (P : Place) : Type 0 where
      pub reduced : Reduced M n (joined M fresh P.k rec)
      pub fits : (t : Vector) → Codes M n t → Fits M n (all_figured (joined M fresh P.k rec)) t → Fits M n (g ∷ all_figured rec) t
      pub both_fit : (t : Vector) → Codes M n t → Fits M n (g ∷ all_figured rec) t → Fits M n (all_figured (joined M fresh P.k rec)) t
      pub agree : (t u : Vector) → Codes M n t → Codes M n u → Agree M n (record_rows (joined M fresh P.k rec)) t u → Agree M n (g.row ∷ record_rows rec) t u
      pub both-agree : (t u : Vector) → Codes M n t → Codes M n u → Agree M n (g.row ∷ record_rows rec) t u → Agree M n (record_rows (joined M fresh P.k rec)) t u

    pub form : (P : Place) → Form P
    form P =
        let f = joined-form M L n rec R g cg.0 cg.1 p P.k below named lowest P.within P.before P.after fresh refl in
        record {
          reduced = f.0;
          fits = λ t ct. (f.1 t ct).0;
          both_fit = λ t ct. (f.1 t ct).1;
          agree = λ t u ct cu. (f.2 t u ct cu).0;
          both-agree = λ t u ct cu. (f.2 t u ct cu).1;
        }

    pub own : fresh.weights p ≡ 1
    own = let P = the_place in fresh-own M L n rec R g cg p P.k below named lowest P.within P.before P.after

    pub others : (a : ℕ) → a < length rec → fresh.weights (at rec a).pivot ≡ 0
    others = let P = the_place in fresh-pivot M L n rec R g cg p P.k below named lowest P.within P.before P.after

    -- a row that has 1 at q and names i alone has q for i
    alone_is : (w : Vector) (q i : ℕ) → q < n → w q ≡ 1 → Alone n w i → q ≡ i
    alone_is w q i h one alone =
        elim (ℕ_discrete q i) [ yes same ↦ same | no ne ↦ absurd (let z : ◌≡◌ {A = ℕ} 1 0 = sym one ∙ alone.1 q h ne in omega arith) ]

    pub pinned_stands-alone : (i : ℕ) → PinnedWith M n rec g.row i → AloneWith M n rec fresh i
    pinned_stands-alone i (inside, pins) =
        let P = the_place in
        let F = form P in
        let f = pivot_cleared M fresh in
        let found = (pinned_alone_lem M L n (joined M fresh P.k rec) F.reduced i inside).0 (λ t u ct cu agree. pins t u ct cu (F.agree t u ct cu agree)) in
        from found.0 found.1 found.2 (spot f fresh P.k rec P.within found.0 found.1)
      where
        from :
            (b : ℕ) → b < length (joined M fresh the_place.k rec) → Alone n (at (joined M fresh the_place.k rec) b).weights i
            → Spot (pivot_cleared M fresh) fresh the_place.k rec b → AloneWith M n rec fresh i
        from b h alone (new same is) =
            let alone-fresh : Alone n fresh.weights i = subst (λ (x : Pivoted). Alone n x.weights i) is alone in
            inr (alone_is fresh.weights p i below own alone-fresh, alone-fresh)
        from b h alone (old a ha is where-b) =
            let row : Alone n (pivot_cleared M fresh (at rec a)).weights i = subst (λ (x : Pivoted). Alone n x.weights i) is alone in
            let J = (form the_place).reduced in
            let pivot : (at (joined M fresh the_place.k rec) b).pivot ≡ i = alone_is _ _ i (J.pivot_below b h) (J.own_pivot b h) alone in
            inl (a, ha, ap (λ x. x.pivot) (sym is) ∙ pivot, row)

    pub alone_is_pinned : (i : ℕ) → AloneWith M n rec fresh i → PinnedWith M n rec g.row i
    alone_is_pinned i stands =
        let P = the_place in
        let F = form P in
        let J = joined M fresh P.k rec in
        let f = pivot_cleared M fresh in
        let at_row : (x : Pivoted) → (b : ℕ) → b < length J → at J b ≡ x → x.pivot ≡ i → Alone n x.weights i → PinnedWith M n rec g.row i =
        λ x b hb is pivot alone.
        let inside : i < n = subst (λ (q : ℕ). q < n) (ap (λ y. y.pivot) is ∙ pivot) (F.reduced.pivot_below b hb) in
        let pins = (pinned_alone_lem M L n J F.reduced i inside).1 (b, hb, subst (λ (y : Pivoted). Alone n y.weights i) (sym is) alone) in
        (inside, λ t u ct cu agree. pins t u ct cu (F.both-agree t u ct cu agree)) in
        elim stands [
          | inl s ↦
              let place = kept_spot f fresh P.k rec P.within s.0 s.1 in
              at_row (f (at rec s.0)) place.0 place.1 place.2 s.2 s.3
          | inr s ↦
              let size : length J ≡ suc (length rec) = put-length f fresh P.k rec P.within in
              at_row fresh P.k (omega (arith, P.within)) (put_here f fresh P.k rec P.within) s.0 s.1
        ]

-- the figure that the record fixes, where the row was taken with the figure 0 and nothing of it is left
pub fixed-figure :
    (M : FieldModel) (L : FieldLaws M) (n : ℕ) (rec : List Pivoted) → Reduced M n rec → (r : Vector) → Codes M n r
    → ((m : ℕ) → m < n → (leftover M rec (record { row = r; figure = 0 })).row m ≡ 0)
    → FixedFigure M n rec r (M.opposite (leftover M rec (record { row = r; figure = 0 })).figure)
fixed-figure M L n rec R r cr none t ct fits =
    let g : Figured = record { row = r; figure = 0 } in
    let z = zero-code M L in
    let facts = leftover-fits M L n rec R g cr z in
    let own : minus M (sum M n r t) 0 ≡ sum M n r t = minus-zero (sum M n r t) (sum_below M L n r t cr ct) in
    let zero-sum : sum M n (leftover M rec g).row t ≡ 0 = sum_none M L n (leftover M rec g).row t facts.0 ct (λ m h. inl (none m h)) in
    sym own ∙ facts.3 t ct fits ∙ ap (λ x. minus M x (leftover M rec g).figure) zero-sum ∙ L.plus_zero _ (L.opposite_below _ facts.1)
  where
    minus-zero : (a : ℕ) → a < M.size → minus M a 0 ≡ a
    minus-zero a ha =
        let o = L.plus_opposite 0 (zero-code M L) in
        let none : M.opposite 0 ≡ 0 = sym (L.plus_zero _ (L.opposite_below 0 (zero-code M L))) ∙ o in
        ap (M.plus a) none ∙ zero_right M L a ha
