use Rattle.std.proofs.Common.{length, Some, None, OnOk, IfErr, subst}
use Rattle.field.specs.Sums.{weights_of}
use Rattle.echelon.specs.Witness.{Witness}
use Rattle.checks.specs.Checks.{WitnessCheck}
use Rattle.record.specs.Records.{rec_of}
use Rattle.record.specs.declared.record.Record.{Record}
use Rattle.session.proofs.Witnessed.{witnessed}
use Rattle.session.proofs.session.Session.witness.Goals as goal

pub returns-clause-law : goal.returns-clause-law
returns-clause-law g c =
    let M = g.S.Over.Field.model in
    let x = c.args.self.now in
    let i = c.args.member.0 in
    let a = c.args.element.0 in
    let l = length c.args.out.now in
    let r = c.witness.result in
    let s = c.«record».result.now in
    let passed : OnOk r (WitnessCheck M s.count i a l None) = search (c.witness.ensures.passed) in
    let refused : IfErr r (λ e. WitnessCheck M s.count i a l (Some e)) = search (c.witness.ensures.refused) in
    let made : OnOk r (Witness M s.count (rec_of s) i a (weights_of c.witness.new.out)) = search (c.witness.ensures.witness) in
    let at : (P : Record g.row.S-Over.Denot g.S.Over.Field → Type 0) → P c.«record».result.now → P x.audit.«record» = λ P known. subst P c.«record».ensures known in
    witnessed g.met.S.Over.Field.laws x i a c.args.out.now c.witness.new.out r c.witness.auto.out
    (at (λ s. OnOk r (WitnessCheck M s.count i a l None)) passed)
    (at (λ s. IfErr r (λ e. WitnessCheck M s.count i a l (Some e))) refused)
    (at (λ s. OnOk r (Witness M s.count (rec_of s) i a (weights_of c.witness.new.out))) made)
