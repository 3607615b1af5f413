use Rattle.std.proofs.Common.{◌≡◌, [], length, ap, ◌∙◌, arith}
use Rattle.record.specs.Records.{rec_of}
use Rattle.session.proofs.Followed.{new_holds}
use Rattle.session.proofs.session.Session.new.Goals as goal

pub invariant_of-result-clause-counted : goal.invariant_of-result-clause-counted
invariant_of-result-clause-counted g c =
    let made : c.new-record.result.count ≡ length (g.S.Server.table c.args.server) =
    omega (arith, c.new-record.ensures.count, c.count-count.ensures.is, c.count-count.ensures.lawful) in
    ap (λ r. r.count) c.new.ensures.«record» ∙ made

pub returns-clause-holds : goal.returns-clause-holds
returns-clause-holds g c =
    let none : rec_of c.new.result.«record» ≡ [] = ap rec_of c.new.ensures.«record» ∙ c.new-record.ensures.empty in
    new_holds g.met.S.Over.Field.laws _ c.count-count.ensures.lawful (omega arith) c.new.ensures.none none
