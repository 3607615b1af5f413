use Rattle.std.proofs.Common.{◌<◌, ◌≤◌, Some, None, sym, ◌∙◌, true≢false, arith, rules, tests}
use Rattle.std.proofs.lemmas.Iterator.{YieldsList-from_slice, IsFirst-from_position}
use Rattle.server.proofs.Arrays.{wrong, stray, not_stray, fine}
use Rattle.server.proofs.array.Array.new.Goals as goal

pub returns-then-not-is_count-clause-refused : goal.returns-then-not-is_count-clause-refused
returns-then-not-is_count-clause-refused g c =
    wrong _ c.args.elements.now (λ n. true≢false (sym (c.is_count.ensures.1 n) ∙ c.if-not-is_count.true))

pub returns-in-Some-clause-refused : goal.returns-in-Some-clause-refused
returns-in-Some-clause-refused g c =
    let M = g.F.Field.model in
    let es = c.args.elements.now in
    let first = IsFirst-from_position _ _ (Some c.in-Some.m) (λ e. M.size ≤ e.0) (λ e. e.0 < M.size) c.in-Some.ensures.ran
    (YieldsList-from_slice es cc) (λ x q k. search (rules, tests)) (λ x q k. search (rules, tests)) in
    stray M es c.in-Some.m (c.is_count.ensures.0 c.if-not-is_count.false) first.0 (first.1 _)
    (λ k h. not_stray M es k (omega (arith, first.0)) (first.2 k _ (omega arith) h))

pub returns-in-None : goal.returns-in-None
returns-in-None g c =
    let M = g.F.Field.model in
    let es = c.args.elements.now in
    let none = IsFirst-from_position _ _ None (λ e. M.size ≤ e.0) (λ e. e.0 < M.size) c.in-None.ensures.ran
    (YieldsList-from_slice es cc) (λ x q k. search (rules, tests)) (λ x q k. search (rules, tests)) in
    let made = fine M es (c.is_count.ensures.0 c.if-not-is_count.false) (λ k h. not_stray M es k h (none k _ (omega arith) h)) in
    record { accepted = made.0; table = made.1; refused = tt }
