use Rattle.std.proofs.Common.{◌≡◌, ℕ, length, sym, subst, arith}
use Rattle.buffer.specs.Buffers.{onto}
use Rattle.server.specs.Checks.{Count}
use Rattle.answer_log.specs.Rows.{header_bytes}
use Rattle.session.specs.States.{members_of}
use Rattle.replay_text.specs.Replays.{too_long, no_header}
use Rattle.replay_text.proofs.Progress.{header_before, no_line}
use Rattle.replay_text.proofs.Written.{header_refused, header_room}
use Rattle.replay_text.proofs.replays.replay.Goals as goal

pub returns-then-text-gt-LONGEST-clause-law : goal.returns-then-text-gt-LONGEST-clause-law
returns-then-text-gt-LONGEST-clause-law g c =
    no_line g.met.S.Over.Field.laws c.args.session.now c.args.text.now c.args.answers.now c.args.log.now _
    (λ σ. rw c.not_begun.ensures (too_long (omega (arith, c.if-text-gt-LONGEST.true))))

pub returns-in-Ok-clause-law : goal.returns-in-Ok-clause-law
returns-in-Ok-clause-law g c =
    let M = g.S.Over.Field.model in
    let x = c.args.session.now in
    let table = c.count.ensures.lawful in
    let log = c.args.log.now in
    let at = c.in-Ok.ensures in
    let wide = header_room c.count.result (length log) (subst Count (sym c.count.ensures.members) (table.some, table.few)) at.written in
    let written : c.write_header.new.out ≡ onto (header_bytes M (members_of x)) log =
    subst (λ (n : ℕ). c.write_header.new.out ≡ onto (header_bytes M n) log) c.count.ensures.members at.bytes.buffer in
    header_before x c.handle_lines.new.session c.args.text.now c.args.answers.now log c.write_header.new.out written wide
    (omega (arith, c.if-text-gt-LONGEST.false)) _ _ _ c.handle_lines.ensures.law

pub returns-in-Err-clause-law : goal.returns-in-Err-clause-law
returns-in-Err-clause-law g c =
    let table = c.count.ensures.lawful in
    let at = c.in-Err.ensures in
    let full = header_refused c.count.result (length c.args.log.now) (subst Count (sym c.count.ensures.members) (table.some, table.few)) c.in-Err.refusal at.refused in
    rw (c.not_begun-in-Err.ensures, full.0, at.kept)
    (no_line g.met.S.Over.Field.laws c.args.session.now c.args.text.now c.args.answers.now c.args.log.now _
    (λ σ. no_header (omega (arith, c.if-text-gt-LONGEST.false)) full.1))
