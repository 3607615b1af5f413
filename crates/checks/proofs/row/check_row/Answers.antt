use Rattle.std.proofs.Common.{rules, ◌≡◌, ◌<◌, ◌≤◌, ◌≢◌}
use Rattle.std.proofs.lemmas.Iterator.{IsFirst-from_position, YieldsList-from_slice, cases_from_all}
use borrow.Author.Tests.{tests}
use Rattle.checks.specs.Checks.{wrong_length, not_an_element, none_named, accepted}
use Rattle.checks.proofs.Searches.{FirstStray, first_stray, all_elements, AnyNamed, all_zero, one_named}
use Rattle.checks.proofs.row.check_row.Goals as goal
use Rattle.checks.proofs.row.check_row.Goals.{After-position, After-all}

pub returns-then-weights-n : goal.returns-then-weights-n
returns-then-weights-n g c = wrong_length c.if-weights-n.true

stray : (g : _) (c : After-position g) → FirstStray g.F.Field.model c.args.weights.now c.position.result
stray g c =
    IsFirst-from_position _ _ _ (λ x. g.F.Field.model.size ≤ x.0) (λ x. x.0 < g.F.Field.model.size) c.position.ensures.ran
    (YieldsList-from_slice c.args.weights.now c.iter.ensures.rest) (λ x q k. search (rules, tests)) (λ x q k. search (rules, tests))

named : (g : _) (c : After-all g) → AnyNamed g.F.Field.model c.args.weights.now c.all.result
named g c =
    cases_from_all _ _ _ (λ x. x.0 ≡ 0) (λ x. x.0 ≢ 0) c.all.ensures.ran (YieldsList-from_slice c.args.weights.now c.iter-2.ensures.rest)
    (λ x q k. search (rules, tests)) (λ x q k. search (rules, tests))

pub returns-in-Some : goal.returns-in-Some
returns-in-Some g c =
    not_an_element c.if-weights-n.false c.in-Some.m
    (first_stray g.F.Field.model c.args.weights.now _ _ c.in-Some.is (stray g (goal.at.returns-in-Some g c).After-position))

pub returns-then-all : goal.returns-then-all
returns-then-all g c =
    let M = g.F.Field.model in
    let ws = c.args.weights.now in
    let start = goal.at.returns-then-all g c in
    none_named c.if-weights-n.false (all_elements M ws _ c.in_default.not-Some (stray g start.After-position) _ c.if-weights-n.false)
    (all_zero M ws _ c.if-all.true (named g start.After-all))

pub returns : goal.returns
returns g c =
    let M = g.F.Field.model in
    let ws = c.args.weights.now in
    let start = goal.at.returns g c in
    accepted c.if-weights-n.false (all_elements M ws _ c.in_default.not-Some (stray g start.After-position) _ c.if-weights-n.false)
    (one_named M ws _ c.if-all.false (named g start.After-all))
