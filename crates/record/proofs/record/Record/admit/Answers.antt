use Rattle.std.proofs.Common.{◌≡◌, ◌<◌, refl, arith}
use Rattle.field.specs.Sums.{Codes}
use Rattle.checks.specs.CheckedRows.{row_of}
use Rattle.record.specs.Judged.{Adds, no_figure, kept, discloses, joined}
use Rattle.echelon.specs.Rows.{row_with}
use Rattle.record.specs.Records.{rec_of}
use Rattle.record.proofs.Admitting.{kept-adds}
use Rattle.record.proofs.Verdict.{stands-fixed, stands-fresh, judged-pinning, judged-free}
use Rattle.record.proofs.Views.{row-elements}
use Rattle.record.proofs.record.Record.admit.Goals as goal

pub returns-then-figure-size : goal.returns-then-figure-size
returns-then-figure-size g c = record { admitted = no_figure (omega arith) refl; count = refl }

pub take-requires : goal.take-requires
take-requires g c =
    let r = c.args.self.now in
    let codes = row-elements r c.args.row.now in
    record {
      figure = omega arith;
      joins = (row_of c.args.row.now, (codes, stands-fresh g.F.Field.model g.met.F.Field.laws r.count (rec_of r) r.reduced _ codes c.in-Fresh.fresh c.in-Fresh.ensures));
    }

pub returns-in-Fixed : goal.returns-in-Fixed
returns-in-Fixed g c =
    let M = g.F.Field.model in
    let L = g.met.F.Field.laws in
    let r = c.args.self.now in
    let figure : c.args.figure.0 < M.size = omega arith in
    let fixes = stands-fixed M L r.count (rec_of r) r.reduced (row_of c.args.row.now) (row-elements r c.args.row.now) _ c.in-Fixed.ensures in
    let adds : Adds M r.count (rec_of r) (row_with (row_of c.args.row.now) c.args.figure.0) (rec_of r) =
    kept-adds M L r.count (rec_of r) (row_with (row_of c.args.row.now) c.args.figure.0) fixes
    in
    let same : rec_of r ≡ rec_of r = refl in
    record { admitted = search (kept, figure, fixes, same, adds); count = refl }

pub returns-in-Pinning : goal.returns-in-Pinning
returns-in-Pinning g c =
    let M = g.F.Field.model in
    let L = g.met.F.Field.laws in
    let r = c.args.self.now in
    record {
      admitted =
          discloses (omega arith) _
          (judged-pinning M L r.count (rec_of r) r.reduced (row_of c.args.row.now) (row-elements r c.args.row.now) _ c.in-Pinning.ensures) refl;
      count = refl;
    }

pub returns-in-Fresh : goal.returns-in-Fresh
returns-in-Fresh g c =
    let M = g.F.Field.model in
    let L = g.met.F.Field.laws in
    let r = c.args.self.now in
    let w = row_of c.args.row.now in
    let codes : Codes M r.count w = row-elements r c.args.row.now in
    let may = stands-fresh M L r.count (rec_of r) r.reduced w codes c.in-Fresh.fresh c.in-Fresh.ensures in
    record {
      admitted =
          joined (omega arith) (judged-free M L r.count (rec_of r) r.reduced w codes c.in-Fresh.fresh c.in-Fresh.ensures)
          (c.take.ensures.fits w (codes, may)) (c.take.ensures.adds w (codes, may));
      count = c.take.ensures.count;
    }
