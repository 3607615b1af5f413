-- Answers for `put`: the mark, then the numbers.
use Rattle.std.proofs.Common.{[], ◌∷◌, ◌++◌, decimal, sym, ap, arith}
use Rattle.std.proofs.lemmas.List.{append-nil}
use Rattle.buffer.proofs.Fronts.{front_byte, front-put, front_all}
use Rattle.answer_text.specs.AnswerLines.{after_space, spaced}
use Rattle.answer_text.proofs.Texts.{two_length}
use Rattle.answer_text.proofs.pairs.Pair.put.Goals as goal

pub returns : goal.returns
returns c =
    let two = two_length c.args.self.first c.args.self.second in
    let marked = front_byte c.args.out.now c.args.self.mark (omega (arith, c.requires)) in
    let half = front-put _ _ _ 1 marked (after_space c.args.self.first) c.put_spaced-at.new.out c.put_spaced-at.result c.put_spaced-at.ensures (omega (arith, c.requires)) in
    let whole = front-put _ _ _ _ half (after_space c.args.self.second) c.put_spaced.new.out c.put_spaced.result c.put_spaced.ensures (omega (arith, c.requires, c.put_spaced-at.ensures.count)) in
    front_all _ _ _ _ whole (c.args.self.mark ∷ spaced (c.args.self.first ∷ c.args.self.second ∷ []))
    (ap (λ us. c.args.self.mark ∷ 32 ∷ (decimal c.args.self.first ++ (32 ∷ us))) (sym (append-nil (decimal c.args.self.second))))
