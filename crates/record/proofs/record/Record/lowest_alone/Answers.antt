use Rattle.std.proofs.Common.{◌≡◌, ℕ, ◌≤◌, not, Option, MatchOption, length, get_or, sym, ap, ◌∙◌, subst, arith, below_more}
use lib.ListN.{length-map}
use Rattle.server.specs.Checks.{Lowest}
use Rattle.echelon.specs.Reduced.{at}
use Rattle.refusal.specs.declared.Member.{Member}
use Rattle.record.specs.Rows.{pivoted}
use Rattle.record.specs.Records.{rec_of}
use Rattle.echelon.specs.Elimination.{AloneWith}
use Rattle.record.proofs.Views.{facts_of, no_record_row}
use Rattle.record.proofs.Alone.{alone-found, alone_missed, row_is_lowest, fresh_is_lowest, none_is, not_alone}
use Rattle.record.proofs.Told.{none_told, some_told, told_of}
use Rattle.record.proofs.record.Record.lowest_alone.Goals as goal

pub lowest_other_without-other-requires : goal.lowest_other_without-other-requires
lowest_other_without-other-requires g c =
    let r = c.args.self.now in
    let here = facts_of r c.as_slice-row-items.result.now c.as_slice-row-items.ensures.value c.loop-row.row-index c.loop-row-test.true in
    record { few = r.members.1; pivot = c.requires.pivot; coded = here.coded; by_coded = c.requires.coded; lowest = here.lowest; by_lowest = c.requires.lowest }

pub returns-then-is_none : goal.returns-then-is_none
returns-then-is_none g c =
    let M = g.F.Field.model in
    let L = g.met.F.Field.laws in
    let r = c.args.self.now in
    let a = c.loop-row.row-index in
    let e = pivoted c.args.fresh.now in
    let R = r.reduced in
    let x = get_or c.as_slice-row-items.result.now a no_record_row in
    let here = facts_of r c.as_slice-row-items.result.now c.as_slice-row-items.ensures.value a c.loop-row-test.true in
    let found =
    alone-found M L r.count (rec_of r) R r.none_alone e c.requires.pivot c.requires.coded c.requires.own c.requires.others
    a (pivoted x) here.below here.is (none_told _ _ _ (c.is_none.ensures ∙ ap not c.if-is_none.true) c.lowest_other_without-other.ensures) in
    let pivot : (at (rec_of r) a).pivot ≡ x.pivot.0 = ap (λ y. y.pivot) here.is in
    subst (Lowest (AloneWith M r.count (rec_of r) e)) (omega (arith, pivot))
    (row_is_lowest M L r.count (rec_of r) R r.none_alone e c.requires.pivot c.requires.coded c.requires.own c.requires.others a here.below found c.loop-row.invariant)

pub loop-row-preserved : goal.loop-row-preserved
loop-row-preserved g c =
    let M = g.F.Field.model in
    let L = g.met.F.Field.laws in
    let r = c.args.self.now in
    let a = c.loop-row.row-index in
    let e = pivoted c.args.fresh.now in
    let R = r.reduced in
    let x = get_or c.as_slice-row-items.result.now a no_record_row in
    let here = facts_of r c.as_slice-row-items.result.now c.as_slice-row-items.ensures.value a c.loop-row-test.true in
    let (m, other) = some_told _ _ _ (c.is_none.ensures ∙ ap not c.if-is_none.false) c.lowest_other_without-other.ensures in
    below_more _ _ c.loop-row.invariant
    (alone_missed M L r.count (rec_of r) R r.none_alone e c.requires.pivot c.requires.coded c.requires.own c.requires.others
    a m.0 (pivoted x) here.is other.0 other.1 other.2)

pub returns : goal.returns
returns g c =
    let M = g.F.Field.model in
    let L = g.met.F.Field.laws in
    let r = c.args.self.now in
    let e = pivoted c.args.fresh.now in
    let none = AloneWith M r.count (rec_of r) e in
    let all : length (rec_of r) ≤ c.loop-row.row-index = simp length-map (omega (arith, c.as_slice-row-items.ensures.len)) in
    subst (λ (o : Option Member). MatchOption o ((i : ℕ) → none i → ⊥) (λ i. Lowest none i.0)) (sym c.then_some.ensures)
    (told_of _ _ ((i : ℕ) → none i → ⊥) (λ i. Lowest none i.0) c.args.fresh.now.pivot c.is_none-2.result c.lowest_other-other.result c.is_none-2.ensures
    c.lowest_other-other.ensures
    (λ alone.
    fresh_is_lowest M L r.count (rec_of r) r.reduced r.none_alone e c.requires.pivot c.requires.coded c.requires.own c.requires.others
    (λ b h. c.loop-row.invariant b (omega arith)) (λ z. let one : ◌≡◌ {A = ℕ} 1 0 = sym c.requires.own ∙ z in omega arith, alone))
    (λ m other.
    none_is M L r.count (rec_of r) r.reduced r.none_alone e c.requires.pivot c.requires.coded c.requires.own c.requires.others
    (λ b h. c.loop-row.invariant b (omega arith)) (not_alone _ e.weights _ _ other.0 other.1 other.2)))
