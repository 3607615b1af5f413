use Rattle.std.proofs.Common.{rules, ◌≡◌, Ok, Result, length, subst}
use Rattle.checks.specs.CheckedRows.{row_of}
use Rattle.request.specs.declared.faults.RequestFault.{RequestFault}
use Rattle.request.specs.declared.outcome.Outcome.{Outcome}
use Rattle.request.specs.declared.outcome.Outcome.TheVariants.{Answered}
use Rattle.replay_text.specs.Handling.{Loggable}
use Rattle.replay_text.proofs.Written.{row_written}
use Rattle.replay_text.proofs.lines.note.Goals as goal

pub unwrap-requires : goal.unwrap-requires
unwrap-requires g c =
    let M = g.F.Field.model in
    let x = c.in-Ok-Answered in
    let room = length c.args.log.now in
    let all : c.args.came.now ≡ Ok (Answered x.row x.figure) = search rules in
    let can = subst (λ (r : Result (Outcome g.row.F.Denot g.F.Field) RequestFault). Loggable M room r) all c.requires in
    row_written M x.row.count (row_of x.row) x.figure.0 room c.write_row.result c.write_row.ensures.refused can
