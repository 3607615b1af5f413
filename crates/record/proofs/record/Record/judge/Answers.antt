use Rattle.checks.specs.CheckedRows.{row_of}
use Rattle.record.specs.Records.{rec_of}
use Rattle.record.specs.Standings.{Stands}
use Rattle.record.specs.declared.judge.Standing.TheVariants as Standing
use Rattle.record.proofs.Verdict.{judged-fixed, judged-pinning, judged-free}
use Rattle.record.proofs.Views.{row-elements}
use Rattle.record.proofs.record.Record.judge.Goals as goal

pub returns-in-Fixed : goal.returns-in-Fixed
returns-in-Fixed g c =
    let M = g.F.Field.model in
    let r = c.args.self.now in
    let w = row_of c.args.row.now in
    let stands : Stands M r.count (rec_of r) w (Standing.Fixed c.in-Fixed.left) = search (c.in-Fixed.ensures) in
    judged-fixed M g.met.F.Field.laws r.count (rec_of r) r.reduced w (row-elements r c.args.row.now) _ _ stands c.neg.ensures.is

pub returns-in-Pinning : goal.returns-in-Pinning
returns-in-Pinning g c =
    let r = c.args.self.now in
    judged-pinning g.F.Field.model g.met.F.Field.laws r.count (rec_of r) r.reduced (row_of c.args.row.now) (row-elements r c.args.row.now) _ c.in-Pinning.ensures

pub returns-in-Fresh : goal.returns-in-Fresh
returns-in-Fresh g c =
    let r = c.args.self.now in
    judged-free g.F.Field.model g.met.F.Field.laws r.count (rec_of r) r.reduced (row_of c.args.row.now) (row-elements r c.args.row.now) _ c.in-Fresh.ensures
