-- Answers for `lines_fit`: the longest line has 392 bytes.
use Rattle.std.proofs.Common.{arith}
use Rattle.answer_text.proofs.Texts.{lines_fit}
use Rattle.answer_text.proofs.laws.lines_fit.Goals as goal

pub returns : goal.returns
returns c = lines_fit _ (omega arith)
