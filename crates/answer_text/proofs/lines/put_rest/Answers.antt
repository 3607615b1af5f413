-- Answers for `put_rest`: a space, the text, a newline.
use Rattle.std.proofs.Common.{[], ◌∷◌, refl, arith}
use Rattle.buffer.proofs.Fronts.{front_byte, front-put, front-set, front_all}
use Rattle.answer_text.specs.AnswerLines.{told_text, told_of}
use Rattle.answer_text.proofs.lines.put_rest.Goals as goal

pub returns : goal.returns
returns c =
    let text = told_text (told_of c.args.answer.now) in
    let spaced = front_byte c.args.out.now 32 (omega (arith, c.requires)) in
    let written = front-put _ _ (32 ∷ []) 1 spaced text c.put_text-at.new.out c.put_text-at.result c.put_text-at.ensures (omega (arith, c.requires)) in
    front_all _ _ _ _ (front-set _ _ _ _ written 10 (omega (arith, c.requires, c.put_text-at.ensures.count))) _ refl
