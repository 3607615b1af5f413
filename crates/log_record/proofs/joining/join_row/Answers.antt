-- Answers for `join_row`: what the record says of the row, in terms of the rows before.
use Rattle.std.proofs.Common.{rules}
use Rattle.checks.specs.CheckedRows.{row_of}
use Rattle.record.specs.Judged.{Judged, Admitted}
use Rattle.record.specs.Records.{rec_of}
use Rattle.record.specs.declared.judge.Judgement.TheVariants.{Fixed}
use Rattle.record.proofs.Views.{row-elements}
use Rattle.refusal.specs.declared.Refusal.TheVariants.{Discloses}
use Rattle.refusal.specs.declared.Site.TheVariants.{OfRow}
use Rattle.log_record.specs.Joins.{RefusedAfter}
use Rattle.echelon.specs.Rows.{row_with}
use Rattle.log_record.proofs.Verdicts.{pinning, fixed_otherwise, fixed_so, free-joins, admitted}
use Rattle.log_record.proofs.joining.join_row.Goals as goal

-- the refusal of a row that pins is that of the log's row
pub returns-in-Pinning-clause-refused : goal.returns-in-Pinning-clause-refused
returns-in-Pinning-clause-refused g c =
    let r = c.args.held.now in
    let discloses :
    RefusedAfter g.F.Field.model r.count c.args.number (rec_of r) (row_with (row_of c.args.row.now) c.args.figure.0) (Discloses (OfRow c.args.number)) =
    λ before B.
    pinning g.F.Field.model g.met.F.Field.laws r.count c.args.number before (rec_of r) B (row_of c.args.row.now) (row-elements r c.args.row.now) c.args.figure.0 _ c.in-Pinning.ensures
    in
    search (discloses)

pub returns-in-Fixed-clause-refused : goal.returns-in-Fixed-clause-refused
returns-in-Fixed-clause-refused g c before B =
    let r = c.args.held.now in
    let fixed : Judged g.F.Field.model r.count (rec_of r) (row_of c.args.row.now) (Fixed c.in-Fixed.known) = search (c.in-Fixed.ensures) in
    fixed_otherwise g.F.Field.model g.met.F.Field.laws r.count c.args.number before (rec_of r) B (row_of c.args.row.now) (row-elements r c.args.row.now) c.args.figure.0 c.in-Fixed.known
    fixed (λ e. search (rules, c.if-ne.ensures, e))

pub returns-in-Fixed-2-clause-joins : goal.returns-in-Fixed-2-clause-joins
returns-in-Fixed-2-clause-joins g c before B =
    let r = c.args.held.now in
    let fixed : Judged g.F.Field.model r.count (rec_of r) (row_of c.args.row.now) (Fixed c.in-Fixed.known) = search (c.in-Fixed.ensures) in
    fixed_so g.F.Field.model g.met.F.Field.laws r.count c.args.number before (rec_of r) B (row_of c.args.row.now) (row-elements r c.args.row.now) c.args.figure.0 c.in-Fixed.known
    fixed (search (rules, c.if-ne.ensures))

pub unwrap-requires : goal.unwrap-requires
unwrap-requires g c =
    let r = c.args.held.now in
    let taken : Admitted g.F.Field.model r.count (rec_of r) (row_of c.args.row.now) c.args.figure.0 (rec_of c.admit.new.self) c.admit.result =
    search (c.admit.ensures.admitted)
    in
    (admitted g.F.Field.model r.count (rec_of r) (row_of c.args.row.now) c.args.figure.0 _ _ c.requires.figure c.in-Free.ensures taken).0

pub returns-in-Free-clause-joins : goal.returns-in-Free-clause-joins
returns-in-Free-clause-joins g c before B =
    let M = g.F.Field.model in
    let r = c.args.held.now in
    let w = row_of c.args.row.now in
    let taken : Admitted M r.count (rec_of r) w c.args.figure.0 (rec_of c.admit.new.self) c.admit.result = search (c.admit.ensures.admitted) in
    let (_, fits, adds) = admitted M r.count (rec_of r) w c.args.figure.0 _ _ c.requires.figure c.in-Free.ensures taken in
    free-joins M g.met.F.Field.laws r.count c.args.number before (rec_of r) B w (row-elements r c.args.row.now) c.args.figure.0 _ c.in-Free.ensures fits adds
