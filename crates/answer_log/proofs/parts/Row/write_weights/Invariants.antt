-- The invariant of `write_weights`: the bytes of the weights so far, and the buffer from there on.
use Rattle.std.proofs.Common.{◌≡◌, ◌++◌, length, drop}
use Rattle.field.specs.Sums.{weights_of}
use Rattle.answer_log.specs.Rows.{weight_bytes}
use Rattle.answer_log.proofs.parts.Row.write_weights.Given as goal

abbrev pub invariant-loop-weight : goal.invariant-loop-weight
invariant-loop-weight g l =
    let done = weight_bytes g.F.Field.model (weights_of l.self.weights.now) l.weight-index in
    (l.at ≡ length done) × (l.out ≡ done ++ drop l.at l.initial.out)
