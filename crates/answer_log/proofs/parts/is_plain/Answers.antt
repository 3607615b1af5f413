-- Answers for `is_plain`: a weight above 1, or none.
use Rattle.std.proofs.Common.{ℕ, ◌<◌, ◌≤◌, length, rules}
use Rattle.std.specs.Bool.{Decides}
use Rattle.std.proofs.lemmas.Bool.Decides.{same_from_decides}
use Rattle.std.proofs.iter.runs.Made.{chains}
use Rattle.field.specs.Sums.{weights_of}
use Rattle.answer_log.proofs.Weights.{plain_tells}
use Rattle.answer_log.proofs.parts.is_plain.Goals as goal

pub returns : goal.returns
returns c =
    let ws = c.args.weights.now in
    let all : Decides c.all.result ((m : ℕ) → m < length ws → weights_of ws m ≤ 1) = search (rules, chains) in
    same_from_decides _ _ all (plain_tells (weights_of ws) (length ws))
