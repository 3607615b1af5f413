-- Answers for `write`: no room, or the pair and a newline.
use Rattle.std.proofs.Common.{◌+◌, ◌≤◌, [], ◌∷◌, length, refl, arith}
use Rattle.std.proofs.lemmas.List.{length-append}
use Rattle.buffer.proofs.Fronts.{front_of_put, front-set, front_all}
use Rattle.answer_text.specs.AnswerLines.{spaced, newline}
use Rattle.answer_text.proofs.pairs.Pair.write.Goals as goal

pub returns : goal.returns
returns c =
    let text = c.args.self.mark ∷ spaced (c.args.self.first ∷ c.args.self.second ∷ []) in
    let o = c.args.out.now in
    let all = length-append text newline in
    let long : length text + 1 ≤ length o = omega (arith, c.length.ensures.is) in
    let put = c.put-at.ensures in
    let front = front_of_put o _ text _ put (omega arith) in
    (omega arith, front_all _ _ _ _ (front-set _ _ _ _ front 10 (omega (arith, put.count))) _ refl)
