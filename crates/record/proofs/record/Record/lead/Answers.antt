use Rattle.std.proofs.Common.{rules, ◌≡◌, ℕ, ◌<◌, ◌≢◌, List, length, None, Some, IsSome, Option, MatchOption, Result, MatchResult, refl, sym, ap, ◌∙◌, subst, ap₂, arith}
use Rattle.std.proofs.lemmas.Fn.{always_returns_same}
use Rattle.field.specs.Sums.{minus}
use Rattle.refusal.specs.declared.Member.{Member}
use Rattle.echelon.specs.Reduced.{Pivoted, at, Alone}
use Rattle.echelon.specs.Witness.{Free, from_free}
use Rattle.record.specs.Rows.{pivoted}
use Rattle.record.specs.declared.rows.RecordRow.{RecordRow}
use Rattle.record.specs.Records.{rec_of}
use Rattle.record.proofs.Views.{RowFacts, read_facts, searched}
use Rattle.echelon.proofs.Witnessing.{leads-pivot}
use Rattle.record.proofs.record.Record.lead.Goals as goal
use Rattle.record.proofs.record.Record.lead.Goals.{After-binary_search_by_key, After-lowest_other}

-- an option that is not empty, and what holds of what is in it
some_of : (A : Type 0) (B : Member → Type 0) (o : Option Member) → MatchOption o A B → (A → ⊥) → IsSome o
some_of A B None all not = absurd (not all)
some_of A B (Some x) all not = refl

chosen : (A : Type 0) (B : Member → Type 0) (o : Option Member) (x : Member) → o ≡ Some x → MatchOption o A B → B x
chosen A B o x e m = subst (λ (p : Option Member). MatchOption p A B) e m

-- where the search found the member's pivot, if anywhere
found :
    (g : _) (c : After-binary_search_by_key g)
    → MatchResult c.binary_search_by_key.result (λ k. (at (rec_of c.args.self.now) k).pivot ≡ c.args.member.0)
    (λ k. (a : ℕ) → a < length (rec_of c.args.self.now) → (at (rec_of c.args.self.now) a).pivot ≢ c.args.member.0)
found g c =
    searched c.args.self.now c.as_slice.result.now c.as_slice.ensures.value c.args.member.0 c.binary_search_by_key.result
    (c.binary_search_by_key.ensures.position (λ x. x.pivot) (always_returns_same _ (λ a r. r ≡ a.0.now.pivot) _ (λ a b f' k. search rules)))

pub returns-in_default : goal.returns-in_default
returns-in_default g c =
    let r = c.args.self.now in
    let free : Free (rec_of r) c.args.member.0 =
    subst
    (λ (o : Result ℕ ℕ). MatchResult o (λ k. (at (rec_of r) k).pivot ≡ c.args.member.0) (λ k. (a : ℕ) → a < length (rec_of r) → (at (rec_of r) a).pivot ≢ c.args.member.0))
    c.in_default.is (found g (goal.at.returns-in_default g c).After-binary_search_by_key) in
    record { leads = from_free free; below = c.requires.member; free = free; factor = c.requires.element }

-- the row that the search found
row_facts : (g : _) (c : After-lowest_other g) → RowFacts c.args.self.now c.index-row.result.now c.in-Ok.k
row_facts g c =
    read_facts c.args.self.now c.in-Ok.k c.index-row.result.now
    (subst (λ (l : List RecordRow). c.in-Ok.k < length l) c.as_slice.ensures.value c.in-Ok.ensures.bound) c.index-row.ensures

pub unwrap-free-requires : goal.unwrap-free-requires
unwrap-free-requires g c =
    let r = c.args.self.now in
    let k = c.in-Ok.k in
    let x = c.index-row.result.now in
    let here = row_facts g (goal.at.unwrap-free-requires g c).After-lowest_other in
    some_of _ _ c.lowest_other.result c.lowest_other.ensures
    (λ all.
    r.none_alone k here.below
    (subst (λ (p : Pivoted). Alone r.count p.weights p.pivot) (sym here.is) (λ z. let one : ◌≡◌ {A = ℕ} 1 0 = sym (subst (λ (p : Pivoted). p.weights p.pivot ≡ 1) here.is (r.reduced.own_pivot k here.below)) ∙ z in omega arith, all)))

pub returns : goal.returns
returns g c =
    let M = g.F.Field.model in
    let r = c.args.self.now in
    let k = c.in-Ok.k in
    let x = c.index-row.result.now in
    let start = goal.at.returns g c in
    let here = row_facts g start.After-lowest_other in
    let is = here.is in
    let member : (at (rec_of r) k).pivot ≡ c.args.member.0 =
    subst
    (λ (o : Result ℕ ℕ). MatchResult o (λ k. (at (rec_of r) k).pivot ≡ c.args.member.0) (λ k. (a : ℕ) → a < length (rec_of r) → (at (rec_of r) a).pivot ≢ c.args.member.0))
    c.in-Ok.is (found g start.After-binary_search_by_key) in
    let own : x.pivot.0 ≡ c.args.member.0 = ap (λ p. p.pivot) (sym is) ∙ member in
    let j = c.unwrap-free.result.0 in
    let other = chosen _ _ _ _ c.unwrap-free.ensures c.lowest_other.ensures in
    let weight : (m : ℕ) → (at (rec_of r) k).weights m ≡ (pivoted x).weights m = λ m. ap (λ p. p.weights m) is in
    let difference : c.minus.result.0 ≡ minus M x.row.figure.0 c.args.element.0 = search (c.minus.ensures.is) in
    let factor : c.mul.result.0 ≡ M.times (minus M (at (rec_of r) k).figure c.args.element.0) (M.inverse ((at (rec_of r) k).weights j)) =
    c.mul.ensures.is
    ∙ ap₂ M.times (difference ∙ ap (λ p. minus M p.figure c.args.element.0) (sym is)) (c.inv-share.ensures.is ∙ ap M.inverse (sym (weight j))) in
    let led =
    leads-pivot M g.met.F.Field.laws r.count (rec_of r) r.reduced k j c.args.member.0 c.args.element.0 c.mul.result.0
    here.below member other.0 (λ z. other.1 (z ∙ sym own)) (λ z. other.2 (sym (weight j) ∙ z))
    (λ m b ne. weight m ∙ other.3 m b (λ z. ne (z ∙ own))) factor in
    record { leads = led.0; below = other.0; free = led.1; factor = c.mul.ensures.within }
