-- The invariant of `read_weights`: no member passed so far is faulty, and their weights are taken.
use Rattle.std.proofs.Common.{◌≡◌, ℕ, ◌<◌, ◌≤◌, length}
use Rattle.field.specs.Sums.{weights_of}
use Rattle.answer_log.specs.Entries.{row_weight, Faulty}
use Rattle.answer_log.proofs.reading.RowBytes.read_weights.Given as goal

abbrev pub invariant-loop-m : goal.invariant-loop-m
invariant-loop-m g l =
    let M = g.F.Field.model in
    (length l.weights ≡ 64)
    × ((k : ℕ) → k < l.m → Faulty M l.self.count l.self.bytes.now k → ⊥)
    × ((k : ℕ) → k < l.m → weights_of l.weights k ≡ row_weight M l.self.count l.self.bytes.now k)
    × ((k : ℕ) → l.m ≤ k → weights_of l.weights k ≡ 0)
