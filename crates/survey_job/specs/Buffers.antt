-- What a job's buffers hold before it begins, and what a stop adds to the answers.
--   zeros            a buffer of 65,536 bytes, each 0
--   zeros_and_line   one of 65,580 bytes, each 0: 44 more, for the line of a stop
--   stop_text x      the line that a stop adds after the answers; nothing where there was none
-- Assumes nothing.
use Rattle.std.specs.Prelude.{ℕ, List, [], replicate, Some, None, Option}
use Rattle.refusal.specs.Numbered.{number}
use Rattle.answer_text.specs.AnswerLines.{stop_line_lem}
use Rattle.replay_text.specs.declared.outcome.Stop.{Stop}

unfoldable pub zeros : List ℕ
zeros = replicate 65536 0

unfoldable pub zeros_and_line : List ℕ
zeros_and_line = replicate 65580 0

abbrev pub stop_text : Option Stop → List ℕ
stop_text None = []
stop_text (Some x) = stop_line_lem (number x.refusal) x.line
