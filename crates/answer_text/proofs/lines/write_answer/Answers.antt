-- Answers for `write_answer`: the number, then the rest of the line.
use Rattle.std.proofs.Common.{rules, ◌+◌, ◌≤◌, ◌∷◌, ◌++◌, length, decimal, refl, arith}
use Rattle.std.proofs.lemmas.List.{length-append}
use Rattle.buffer.proofs.Fronts.{front_of_put, front-put, front_all}
use Rattle.answer_text.specs.AnswerLines.{told_text, newline, answer_line, told_of}
use Rattle.answer_text.proofs.Texts.{line-length}
use Rattle.answer_text.proofs.lines.write_answer.Goals as goal

pub returns : goal.returns
returns c =
    let k = c.args.line in
    let o = c.args.out.now in
    let told = told_of c.args.answer.now in
    let room : length (decimal k) + 2 + length (told_text told) ≤ length o = search rules in
    let all = line-length k told in
    let rest = length-append (told_text told) newline in
    let number = front_of_put o _ (decimal k) _ c.put_number-at.ensures (omega arith) in
    let whole = front-put _ _ _ _ number (32 ∷ (told_text told ++ newline)) c.put_rest.new.out c.put_rest.result c.put_rest.ensures (omega (arith, number.size)) in
    (omega arith, front_all _ _ _ _ whole (answer_line k told) refl)
