use Rattle.std.proofs.Common.{sym, ap, ◌∙◌}
use Rattle.field.specs.Sums.{Codes}
use Rattle.field.proofs.Zero.{zero-code}
use Rattle.echelon.specs.Rows.{CodedRow}
use Rattle.checks.specs.CheckedRows.{row_of}
use Rattle.record.specs.Records.{rec_of}
use Rattle.record.specs.Rows.{figured_row}
use Rattle.record.specs.Standings.{unfigured, fixed, pinning, fresh}
use Rattle.record.proofs.Standing.{left_of, fresh-same, own-one, others_zero, zero_below, lowest_pinned, none_pinned}
use Rattle.record.proofs.Views.{row-elements}
use Rattle.record.proofs.record.Record.assess.Goals as goal

pub returns-in_default : goal.returns-in_default
returns-in_default g c =
    let same = c.leftover-left.ensures.is in
    fixed (λ m h. sym (same.rows m h) ∙ c.in_default.ensures m h) _ same.figures

pub lowest_alone-requires : goal.lowest_alone-requires
lowest_alone-requires g c =
    let M = g.F.Field.model in
    let L = g.met.F.Field.laws in
    let r = c.args.self.now in
    let given = unfigured (row_of c.args.row.now) in
    let coded : Codes M r.count given.row = row-elements r c.args.row.now in
    let cg : CodedRow M r.count given = (coded, zero-code M L) in
    let l = figured_row c.leftover-left.result in
    let x = c.in-Some.fresh in
    let made = c.in-Some.ensures in
    let is = c.leftover-left.ensures.is in
    let left = left_of M L r.count (rec_of r) r.reduced given cg l is x.row.pivot.0 made.first.0 made.first.1 made.first.2 in
    let same = fresh-same M L r.count (rec_of r) r.reduced given cg l is x made in
    record {
      pivot = made.first.0;
      coded = made.coded;
      lowest = zero_below M L r.count (rec_of r) r.reduced given cg x.row left same;
      own = own-one M L r.count (rec_of r) r.reduced given cg x.row left same;
      others = others_zero M L r.count (rec_of r) r.reduced given cg x.row left same;
    }

pub returns-in-Some-lowest_alone : goal.returns-in-Some-lowest_alone
returns-in-Some-lowest_alone g c =
    let M = g.F.Field.model in
    let L = g.met.F.Field.laws in
    let r = c.args.self.now in
    let given = unfigured (row_of c.args.row.now) in
    let coded : Codes M r.count given.row = row-elements r c.args.row.now in
    let cg : CodedRow M r.count given = (coded, zero-code M L) in
    let l = figured_row c.leftover-left.result in
    let x = c.in-Some.fresh in
    let made = c.in-Some.ensures in
    let is = c.leftover-left.ensures.is in
    let left = left_of M L r.count (rec_of r) r.reduced given cg l is x.row.pivot.0 made.first.0 made.first.1 made.first.2 in
    let same = fresh-same M L r.count (rec_of r) r.reduced given cg l is x made in
    pinning x.row.pivot.0 left _
    (lowest_pinned M L r.count (rec_of r) r.reduced given cg x.row left same _ c.in-Some-lowest_alone.ensures)

pub returns-in-None : goal.returns-in-None
returns-in-None g c =
    let M = g.F.Field.model in
    let L = g.met.F.Field.laws in
    let r = c.args.self.now in
    let given = unfigured (row_of c.args.row.now) in
    let coded : Codes M r.count given.row = row-elements r c.args.row.now in
    let cg : CodedRow M r.count given = (coded, zero-code M L) in
    let l = figured_row c.leftover-left.result in
    let x = c.in-Some.fresh in
    let made = c.in-Some.ensures in
    let is = c.leftover-left.ensures.is in
    let left = left_of M L r.count (rec_of r) r.reduced given cg l is x.row.pivot.0 made.first.0 made.first.1 made.first.2 in
    let same = fresh-same M L r.count (rec_of r) r.reduced given cg l is x made in
    fresh x
    (record {
      left = left;
      factor = made.factor ∙ ap M.inverse (is.rows x.row.pivot.0 made.first.0);
      same = same;
      coded = made.coded;
      none_pinned = none_pinned M L r.count (rec_of r) r.reduced given cg x.row left same c.in-None.ensures;
    })
