-- Answers for `print_stop`: the line fits, and the buffer is cut after it.
use Rattle.std.proofs.Common.{List, Option, ℕ, ◌^◌, ◌<◌, ◌++◌, take, sym, ap, ◌∙◌, arith}
use Rattle.refusal.specs.Numbered.{number}
use Rattle.answer_text.specs.AnswerLines.{stop_line_lem}
use Rattle.replay_text.specs.declared.outcome.Stop.{Stop}
use Rattle.survey_job.specs.Buffers.{stop_text}
use Rattle.survey_job.proofs.Pairs.{pair_fits, small_number}
use Rattle.survey_job.proofs.Buffers.{written_if, written_line, rest-length, line_after}
use Rattle.survey_job.proofs.stops.print_stop.Goals as goal

pub unwrap-length-requires : goal.unwrap-length-requires
unwrap-length-requires c =
    let x = c.in-Some.found in
    let fits : x.line < 2 ^ 64 = omega arith in
    let few = small_number x.refusal in
    let line = pair_fits 33 (number x.refusal) x.line (omega arith) fits in
    let rest = rest-length c.deref_mut.result.now c.args.answers in
    written_if _ _ c.write_stop.result c.write_stop.ensures (λ full. omega (arith, full.0, line, rest, c.requires, c.deref_mut.ensures.len))

pub returns : goal.returns
returns c =
    let a = c.args.answers in
    let x = c.in-Some.found in
    let xs = c.deref_mut.result.now in
    let done = written_line _ _ _ _ _ c.write_stop.ensures c.unwrap-length.ensures in
    let count = done.1.count in
    let rest = rest-length xs a in
    line_after _ xs _ _ _ _ (stop_line_lem (number x.refusal) x.line) a _ c.unwrap-length.result _ c.truncate-2.ensures.items (omega arith)
    (omega (arith, c.requires, c.deref_mut.ensures.len, done.0)) (omega (arith, c.requires, c.deref_mut.ensures.len)) done.1
    ∙ ap (λ (us : List ℕ). take a us ++ stop_line_lem (number x.refusal) x.line) c.deref_mut.ensures.value
    ∙ ap (λ (s : Option Stop). take a c.args.printed.now.items ++ stop_text s) (sym c.in-Some.is)
