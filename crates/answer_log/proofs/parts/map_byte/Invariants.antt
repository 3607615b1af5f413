-- The invariant of `map_byte`: the bits passed so far.
use Rattle.std.proofs.Common.{◌≡◌, ◌+◌, ◌*◌}
use Rattle.field.specs.Sums.{weights_of}
use Rattle.answer_log.specs.Rows.{names, bits}
use Rattle.answer_log.proofs.parts.map_byte.Given as goal

abbrev pub invariant-loop-b : goal.invariant-loop-b
invariant-loop-b l = l.byte ≡ bits (λ b. names (weights_of l.weights) (8 * l.k + b)) l.b
