use Rattle.std.proofs.Common.{Option, sym, subst}
use Rattle.checks.specs.CheckedRows.{row_of}
use Rattle.server.specs.Checks.{Lowest}
use Rattle.record.specs.Audits.{PinnedBeside}
use Rattle.record.specs.Awaits.{Awaits}
use Rattle.record.specs.Records.{rec_of}
use Rattle.record.specs.declared.rows.FreshRow.{FreshRow}
use Rattle.record.proofs.Verdict.{fixed-pins_none, stands-fixed, stands-pinning, stands-fresh}
use Rattle.record.proofs.Views.{row-elements}
use Rattle.record.proofs.audit.Audit.open.Goals as goal
use Rattle.record.proofs.audit.Audit.open.Goals.{in-Fixed, in-Fresh}

-- the member that is answered is the lowest that the row would pin
pub returns-in-Pinning-clause-pinned : goal.returns-in-Pinning-clause-pinned
returns-in-Pinning-clause-pinned g c =
    let r = c.args.self.now.«record» in
    let lowest : Lowest (PinnedBeside g.F.Field.model c.args.self.now (row_of c.args.row)) c.in-Pinning.i.0 =
    stands-pinning g.F.Field.model g.met.F.Field.laws r.count (rec_of r) r.reduced (row_of c.args.row) (row-elements r c.args.row) c.in-Pinning.i c.in-Pinning.ensures
    in
    search (lowest)

pub invariant_of-self : goal.invariant_of-self
invariant_of-self g c =
    let M = g.F.Field.model in
    let L = g.met.F.Field.laws in
    let r = c.args.self.now.«record» in
    let w = row_of c.args.row in
    let codes = row-elements r c.args.row in
    let kept = λ (o : Option FreshRow). Awaits M r.count (rec_of r) w o in
    elim c.match-assess.branch [
      | in-Fixed v ↦ record { awaited = subst kept (sym v.fresh-is) (stands-fixed M L r.count (rec_of r) r.reduced w codes _ v.in-Fixed.ensures) }
      | in-Fresh v ↦ record { awaited = subst kept (sym v.fresh-is) (stands-fresh M L r.count (rec_of r) r.reduced w codes _ v.in-Fresh.ensures) }
    ]

pub returns-clause-free : goal.returns-clause-free
returns-clause-free g c =
    let M = g.F.Field.model in
    let L = g.met.F.Field.laws in
    let r = c.args.self.now.«record» in
    let w = row_of c.args.row in
    let codes = row-elements r c.args.row in
    elim c.match-assess.branch [
      | in-Fixed v ↦
          fixed-pins_none M L r.count (rec_of r) r.reduced r.none_alone w (stands-fixed M L r.count (rec_of r) r.reduced w codes _ v.in-Fixed.ensures)
      | in-Fresh v ↦ (stands-fresh M L r.count (rec_of r) r.reduced w codes _ v.in-Fresh.ensures).none_pinned
    ]
