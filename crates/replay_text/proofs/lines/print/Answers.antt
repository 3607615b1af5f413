use Rattle.std.proofs.Common.{rules, ℕ, ◌<◌, ◌≤◌, length, arith}
use Rattle.std.proofs.lemmas.Bool.{some_since}
use Rattle.answer_text.specs.AnswerLines.{Short, told_of, answer_line}
use Rattle.answer_text.proofs.Texts.{lines_fit}
use Rattle.replay_text.proofs.lines.print.Goals as goal
use Rattle.replay_text.proofs.lines.print.Goals.{in-Ok-Answered, in-Ok-Granted, in-Ok-Filled, in-Err}

pub unwrap-requires : goal.unwrap-requires
unwrap-requires g c =
    let told = told_of c.match-came.answer in
    let short : Short told = elim c.match-came.branch [ in-Ok-Answered w ↦ search rules | in-Ok-Granted w ↦ search rules | in-Ok-Filled w ↦ search rules | in-Err w ↦ search rules ] in
    let fits : (k : ℕ) → k < 100000 → length (answer_line k told) ≤ 392 = λ k small. lines_fit 392 (omega arith) k told small short in
    some_since _ _ _ c.write_answer.ensures (λ small. omega (arith, small.0, fits))
