-- The invariant of `write_map`: the map's bytes so far, and the buffer from there on.
use Rattle.std.proofs.Common.{◌≡◌, ◌++◌, length, take, drop}
use Rattle.field.specs.Sums.{weights_of}
use Rattle.answer_log.specs.Rows.{map_bytes}
use Rattle.answer_log.proofs.parts.Row.write_map.Given as goal

abbrev pub invariant-loop-k : goal.invariant-loop-k
invariant-loop-k g l = l.map ≡ take l.k (map_bytes (weights_of l.self.weights.now) (length l.self.weights.now)) ++ drop l.k l.initial.map
