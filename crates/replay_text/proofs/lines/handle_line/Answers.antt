use Rattle.std.proofs.Common.{ℕ, length, IfSome, sym, subst}
use Rattle.buffer.specs.Buffers.{Put}
use Rattle.answer_text.specs.AnswerLines.{Short}
use Rattle.request.specs.Carried.{outcome_told}
use Rattle.replay_text.specs.Replays.{printed}
use Rattle.replay_text.proofs.Handling.{told_short, row_loggable, line_done}
use Rattle.replay_text.proofs.lines.handle_line.Goals as goal

pub print-requires-clause-short : goal.print-requires-clause-short
print-requires-clause-short g c =
    let came = c.carry_out-came in
    subst (λ (n : ℕ). IfSome (outcome_told n came.result) Short) (sym c.count-n.ensures.members)
    (told_short c.args.session.now came.new.session c.args.line.now came.result came.ensures.law g.met.S.Over.Field.laws c.stands.ensures)

pub note-requires : goal.note-requires
note-requires g c =
    row_loggable c.args.session.now c.carry_out-came.new.session c.args.line.now c.carry_out-came.result c.carry_out-came.ensures.law
    g.met.S.Over.Field.laws c.stands.ensures (length c.args.log.now) c.requires.log

pub returns-clause-done : goal.returns-clause-done
returns-clause-done g c =
    let came = c.carry_out-came.result in
    let x = c.args.session.now in
    let answers = c.args.answers.now in
    let prints = subst (λ (n : ℕ). Put (printed c.args.number (outcome_told n came)) answers c.print.new.out c.print.result) c.count-n.ensures.members c.print.ensures in
    line_done x c.carry_out-came.new.session c.args.line.now came c.carry_out-came.ensures.law c.carry_out-came.ensures.read c.args.number answers c.args.log.now
    c.print.new.out c.note.new.log _ prints c.note.ensures
