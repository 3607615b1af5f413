-- Answers for `named_count`: the bits added up over a range are the count of the definition.
use Rattle.std.proofs.Common.{◌≡◌, sum, refl, ap, ◌∙◌, rules, tests, arith}
use Rattle.std.specs.List.{range_with_len}
use mathlib.Core.List.{map as maps}
use Rattle.std.proofs.lemmas.List.Sums.{sum-map}
use Rattle.std.proofs.lemmas.Iterator.{YieldsList-from_range, YieldsList-from_map}
use Rattle.std.proofs.lemmas.Iterator.Consumers.{sum_by_from_yields_List, fits_from_yields_list, YieldsList-at}
use Rattle.member_map.specs.Maps.{named_below}
use Rattle.member_map.proofs.Counts.{one, counted, few-named}
use Rattle.member_map.proofs.named_count.Goals as goal

pub sum-requires-clause-fits : goal.sum-requires-clause-fits
sum-requires-clause-fits c =
    let map = c.args.map.now in
    let n = c.from.result in
    let few = few-named map n in
    let same : sum (maps (one map) (range_with_len 0 n)) ≡ named_below map n = sum-map (one map) (range_with_len 0 n) ∙ counted map n in
    fits_from_yields_list c.map.result _
    (YieldsList-from_map _ (one map) (YieldsList-at c.map.ensures.source (YieldsList-from_range 0 n n refl (omega arith)))
    c.map.ensures.closure (λ x r q k. search (rules, tests)))
    (omega (arith, same, few))

pub returns : goal.returns
returns c =
    let map = c.args.map.now in
    let n = c.from.result in
    sum_by_from_yields_List (one map) (range_with_len 0 n) c.map.result _ c.sum.ensures.ran
    (YieldsList-from_map _ (one map) (YieldsList-at c.map.ensures.source (YieldsList-from_range 0 n n refl (omega arith)))
    c.map.ensures.closure (λ x r q k. search (rules, tests)))
    ∙ counted map n
    ∙ ap (named_below map) c.from.ensures
