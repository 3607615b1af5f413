-- Answers for `refuse`: the line fits, and the buffer is cut after it.
use Rattle.std.proofs.Common.{◌∙◌, arith}
use Rattle.refusal.specs.Numbered.{number, detail}
use Rattle.buffer.specs.Buffers.{Writes}
use Rattle.answer_text.specs.AnswerLines.{refusal_line_lem}
use Rattle.survey_job.proofs.Pairs.{pair_fits, small_number}
use Rattle.survey_job.proofs.Buffers.{written_if, written_line, line_alone}
use Rattle.survey_job.proofs.Zeros.{blank-length}
use Rattle.survey_job.proofs.jobs.refuse.Goals as goal

pub unwrap-length-requires : goal.unwrap-length-requires
unwrap-length-requires c =
    let e = c.args.refusal.now in
    let few = small_number e in
    let line = pair_fits 45 (number e) (detail e) (omega arith) (omega (arith, c.requires)) in
    let room = blank-length _ (c.deref_mut.ensures.value ∙ c.args.memory.blank) in
    written_if _ _ c.write_refusal.result c.write_refusal.ensures (λ full. omega (arith, full.0, line, room))

pub returns : goal.returns
returns c =
    let e = c.args.refusal.now in
    let line = refusal_line_lem (number e) (detail e) in
    let lent = c.deref_mut.result.now in
    let written : Writes line lent c.write_refusal.new.out c.write_refusal.result = search (c.write_refusal.ensures) in
    let put = (written_line line lent _ _ _ written c.unwrap-length.ensures).1 in
    record {
      printed =
          line_alone _ _ lent _ line _ c.unwrap-length.result _ c.truncate.ensures.items (omega (arith, c.deref_mut.ensures.len)) (omega arith) put;
      log = c.clear.ensures.items;
    }
