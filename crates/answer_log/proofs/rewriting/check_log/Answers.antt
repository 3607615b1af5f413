-- Answers for `check_log`: row after row.
use Rattle.std.proofs.Common.{Some, None, length, ◌≤◌}
use Rattle.std.proofs.lemmas.Result.{err_from_is_err_and}
use Rattle.answer_log.specs.Entries.{HeaderCheck}
use Rattle.answer_log.specs.Logs.{bad_header, rows}
use Rattle.answer_log.proofs.Logs.{rows_done}
use Rattle.answer_log.proofs.Steps.{whole_still, count-still, step_passed, step-refused}
use Rattle.answer_log.proofs.rewriting.check_log.Goals as goal

pub returns-in_err-read_header-clause-refused : goal.returns-in_err-read_header-clause-refused
returns-in_err-read_header-clause-refused g c =
    let p = err_from_is_err_and c.from_residual.result c.from_residual.ensures.1 in
    let refused : HeaderCheck g.F.Field.model c.args.n c.args.bytes.now (Some c.in_err-read_header.field-0.0) = search (c.in_err-read_header.ensures) in
    rw (p.1, p.2) (bad_header _ refused)

pub returns-in_err-entry-clause-refused : goal.returns-in_err-entry-clause-refused
returns-in_err-entry-clause-refused g c =
    let M = g.F.Field.model in
    let bytes = c.args.bytes.now in
    let inv = c.loop-entry.invariant in
    let e = c.in_err-entry.field-0.0 in
    let header : HeaderCheck M c.args.n bytes None = search (c.in_ok-read_header.ensures) in
    let p = err_from_is_err_and c.from_residual-in_err-entry.result c.from_residual-in_err-entry.ensures.1 in
    rw (p.1, p.2)
    (rows (Some e) header
    (inv.4 (Some e) (step-refused M c.loop-entry.entry-iterator c.next.new.self _ c.in-Some.ensures.steps bytes c.args.n inv.2 inv.3 e c.in_err-entry.was)))

pub loop-entry-preserved : goal.loop-entry-preserved
loop-entry-preserved g c =
    let M = g.F.Field.model in
    let bytes = c.args.bytes.now in
    let n = c.args.n in
    let s = c.loop-entry.entry-iterator in
    let t = c.next.new.self in
    let inv = c.loop-entry.invariant in
    let step = c.in-Some.ensures.steps in (
      tt,
      tt,
      whole_still M s t _ step bytes n inv.2 inv.3,
      count-still M s t _ step bytes n inv.2 inv.3,
      λ r rest. inv.4 r (step_passed M s t _ step bytes n inv.2 inv.3 c.in_ok-entry.field-0 c.in_ok-entry.was r rest),
    )

pub returns-clause-passed : goal.returns-clause-passed
returns-clause-passed g c =
    let bytes = c.args.bytes.now in
    let s = c.loop-entry.entry-iterator in
    let inv = c.loop-entry.invariant in
    let header : HeaderCheck g.F.Field.model c.args.n bytes None = search (c.in_ok-read_header.ensures) in
    let done : length bytes ≤ s.at = rw (← inv.2) c.in-None.ensures.steps in
    rows None header (inv.4 None (rows_done g.F.Field.model c.args.n s.row bytes s.at done))
