-- The invariant of `put_elements`: the elements so far, and the buffer from there on.
use Rattle.server.specs.Tables.{codes}
use Rattle.std.proofs.Common.{take}
use Rattle.buffer.specs.Buffers.{Front}
use Rattle.answer_text.specs.AnswerLines.{spaced}
use Rattle.answer_text.proofs.numbers.put_elements.Given as goal

abbrev pub invariant-loop-element : goal.invariant-loop-element
invariant-loop-element l = Front l.initial.out l.out (spaced (codes (take l.element-index l.elements))) l.at
