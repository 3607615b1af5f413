-- Answers for `put_elements`: one element more.
use Rattle.std.proofs.Common.{◌+◌, take, sym, arith}
use Rattle.field.specs.Sums.{weights_of}
use Rattle.server.specs.Tables.{codes}
use Rattle.buffer.proofs.Fronts.{part_length, front-put, front_as}
use Rattle.answer_text.specs.AnswerLines.{after_space, spaced}
use Rattle.answer_text.proofs.Texts.{element_more, element_more_length, elements-below}
use Rattle.answer_text.proofs.numbers.put_elements.Goals as goal

pub put_spaced-at-requires : goal.put_spaced-at-requires
put_spaced-at-requires c =
    let es = c.args.elements.now in
    let i = c.loop-element.element-index in
    let front = c.loop-element.invariant in
    let more = element_more_length es i c.loop-element-test.true in
    let below = elements-below es (i + 1) in
    let part = part_length _ _ _ _ front in
    omega (arith, front.size, c.requires)

pub loop-element-preserved : goal.loop-element-preserved
loop-element-preserved c =
    let es = c.args.elements.now in
    let i = c.loop-element.element-index in
    let front = c.loop-element.invariant in
    let more = element_more_length es i c.loop-element-test.true in
    let below = elements-below es (i + 1) in
    let next = front-put _ _ _ _ front (after_space (weights_of es i)) c.put_spaced-at.new.out c.put_spaced-at.result c.put_spaced-at.ensures (omega (arith, front.size, c.requires)) in
    front_as _ _ _ _ next (spaced (codes (take (i + 1) es))) (sym (element_more es i (record { 0 = 0 }) c.loop-element-test.true))
