use Rattle.std.proofs.Common.{rules, ◌≡◌, ℕ, ◌<◌, ◌≢◌, sym, ap, ◌∙◌, inl, inr, arith, MatchOption, ◌+◌, ◌≤◌}
use native.Mathlib.Decide.{dec_lt}
use Rattle.std.proofs.lemmas.Iterator.{first_from_Range}
use borrow.Author.Tests.{tests}
use Rattle.field.specs.Sums.{Vector, weights_of}
use Rattle.echelon.specs.Elimination.{cleared}
use Rattle.echelon.proofs.Values.{less_none, plus_opposite_times}
use Rattle.record.proofs.Told.{option_told}
use Rattle.record.specs.Rows.{pivoted, figured_record_row}
use Rattle.record.proofs.rows.RecordRow.lowest_other_without.Goals as goal

-- a row with 0 at the pivot of `by` is not changed
pub returns-then-factor-eq0 : goal.returns-then-factor-eq0
returns-then-factor-eq0 g c =
    let M = g.F.Field.model in
    let L = g.met.F.Field.laws in
    let n = c.args.n in
    let w = weights_of c.args.self.now.row.weights in
    let own = c.requires.coded in
    let other = c.requires.by_coded in
    let row = (cleared M (pivoted c.args.by.now) (figured_record_row c.args.self.now)).row in
    let same : (m : ℕ) → m < n → row m ≡ w m =
    λ m h. less_none M L n _ _ _ (own.0 m h) (own.0 _ c.requires.pivot) (other.0 m h) (inl c.if-factor-eq0.true) in
    option_told _ _ _ _ c.lowest_other.result (λ none m h ne. same m h ∙ none m h ne)
    (λ p told. (told.0, told.1, (λ e. told.2 (sym (same p.0 told.0) ∙ e)), λ m h ne. same m (omega arith) ∙ told.3 m h ne)) c.lowest_other.ensures

pub returns : goal.returns
returns g c =
    let M = g.F.Field.model in
    let L = g.met.F.Field.laws in
    let n = c.args.n in
    let p = c.args.self.now.pivot.0 in
    let own = c.requires.coded in
    let other = c.requires.by_coded in
    let sums : Vector =
    λ m. M.plus (weights_of c.args.self.now.row.weights m) (M.times c.neg-opposite.result.0 (weights_of c.args.by.now.row.weights m)) in
    let row = (cleared M (pivoted c.args.by.now) (figured_record_row c.args.self.now)).row in
    let made : (m : ℕ) → m < n → sums m ≡ row m =
    λ m h.
    ap (λ k. M.plus (weights_of c.args.self.now.row.weights m) (M.times k (weights_of c.args.by.now.row.weights m))) c.neg-opposite.ensures.is
    ∙ plus_opposite_times M L n _ _ _ (own.0 m h) (own.0 _ c.requires.pivot) (other.0 m h)
    in
    -- below its pivot both rows are 0
    let low : (m : ℕ) → m < n → m < p → row m ≡ 0 =
    λ m h b.
    let under : p ≤ c.args.by.now.pivot.0 = elim (dec_lt c.args.by.now.pivot.0 p) [ yes k ↦ absurd (c.if-factor-eq0.false (c.requires.lowest _ k)) | no k ↦ omega arith ] in
    less_none M L n _ _ _ (own.0 m h) (own.0 _ c.requires.pivot) (other.0 m h) (inr (c.requires.by_lowest m (omega arith))) ∙ c.requires.lowest m b
    in
    let first =
    first_from_Range _ _ _ _ (λ m. sums m ≢ 0) (λ m. sums m ≡ 0) c.find.ensures.ran
    (λ x q k. search (rules, tests)) (λ x q k. search (rules, tests)) in
    let found : MatchOption c.map.result ((m : ℕ) → p + 1 ≤ m → m < n → sums m ≡ 0) (λ i. (p + 1 ≤ i.0) × (i.0 < n) × (sums i.0 ≢ 0) × ((m : ℕ) → p + 1 ≤ m → m < i.0 → sums m ≡ 0)) =
    search (rules, first) in
    let none_to : (i : ℕ) → i ≤ n → ((m : ℕ) → p + 1 ≤ m → m < i → sums m ≡ 0) → (m : ℕ) → m < i → m ≢ p → row m ≡ 0 =
    λ i top none m h ne.
    let inside : m < n = omega arith in
    elim (dec_lt m p) [
      | yes b ↦ low m inside b
      | no b ↦ sym (made m inside) ∙ none m (omega arith) h
    ]
    in
    option_told _ _ _ _ c.map.result (λ none m h ne. none_to n (omega arith) none m h ne)
    (λ i told.
    (told.1, (let up = told.0 in λ e. omega arith), (λ e. told.2 (made i.0 told.1 ∙ e)), λ m h ne. none_to i.0 (omega arith) told.3 m h ne)) found
