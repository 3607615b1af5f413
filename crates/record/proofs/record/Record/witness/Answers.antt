use Rattle.std.proofs.Common.{◌<◌, refl, arith}
use Rattle.field.specs.Sums.{weights_of}
use Rattle.echelon.specs.Witness.{Witness}
use Rattle.echelon.proofs.Tables.{witness-fits}
use Rattle.checks.specs.Checks.{no_such_member, not_an_element, wrong_length, accepted}
use Rattle.record.specs.Records.{rec_of}
use Rattle.record.proofs.record.Record.witness.Goals as goal

pub returns-then-member-self : goal.returns-then-member-self
returns-then-member-self g c = record { passed = tt; refused = no_such_member (omega arith); witness = tt; element = tt; codes = tt; fits = tt; kept = refl }

pub returns-then-element-size : goal.returns-then-element-size
returns-then-element-size g c = record { passed = tt; refused = not_an_element (omega arith) (omega arith); witness = tt; element = tt; codes = tt; fits = tt; kept = refl }

pub returns-then-out-self : goal.returns-then-out-self
returns-then-out-self g c = record { passed = tt; refused = wrong_length (omega arith) (omega arith) c.if-out-self.true; witness = tt; element = tt; codes = tt; fits = tt; kept = refl }

pub returns : goal.returns
returns g c =
    let M = g.F.Field.model in
    let r = c.args.self.now in
    let inside : c.args.member.0 < r.count = omega arith in
    let element : c.args.element.0 < M.size = omega arith in
    let w = weights_of c.fill.new.out in
    let made : Witness M r.count (rec_of r) c.args.member.0 c.args.element.0 w =
    record { member = c.lead.result.0.0; factor = c.lead.result.1.0; leads = c.lead.ensures.leads; table = c.fill.ensures } in
    let fits = witness-fits M g.met.F.Field.laws r.count (rec_of r) r.reduced _ _ inside element w made in
    record { passed = accepted inside element c.if-out-self.false; refused = tt; witness = made; element = fits.1; codes = fits.0; fits = fits.2; kept = tt }
