-- Answers for `stray_bit`: the first named number of a range is the lowest.
use Rattle.std.proofs.Common.{◌≡◌, ◌-◌, ◌*◌, true, false, refl, ap, rules, tests}
use Rattle.std.proofs.lemmas.Iterator.{YieldsList-from_range, YieldsList-from_map_by, first_from_find}
use Rattle.std.proofs.lemmas.Iterator.Consumers.{YieldsList-at}
use Rattle.member_map.specs.Maps.{named}
use Rattle.member_map.proofs.Strays.{lowest}
use Rattle.member_map.proofs.stray_bit.Goals as goal

pub returns : goal.returns
returns c =
    let map = c.args.map.now in
    let from = c.from.result in
    let many = 8 * c.map_length.result - from in
    lowest map c.args.n from many c.from.ensures (ap (λ k. 8 * k - from) c.map_length.ensures) c.find.result
    (first_from_find _ _ c.find.result (λ m. named map m ≡ true) (λ m. named map m ≡ false) c.find.ensures.ran
    (YieldsList-from_map_by _ (λ m. m.0) (λ m. m) (YieldsList-at c.map.ensures.source (YieldsList-from_range from _ many refl refl))
    c.map.ensures.closure (λ x r q k. search rules))
    (λ x q k. search (rules, tests)) (λ x q k. search (rules, tests)))
