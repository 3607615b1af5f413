use Rattle.std.proofs.Common.{◌≡◌, ℕ, ◌+◌, ◌<◌, ◌≤◌}
use Rattle.field.specs.Sums.{weights_of}
use Rattle.record.proofs.rows.FiguredRow.take_away.Given as goal

abbrev pub invariant-loop-k : goal.invariant-loop-k
invariant-loop-k g l =
    let M = g.F.Field.model in
    ((k : ℕ) → k < l.k → weights_of l.weight-items k < M.size)
    × ((k : ℕ) → k < l.k → weights_of l.weight-items k ≡ M.plus (weights_of l.initial.weight-items k) (M.times l.opposite.0 (weights_of l.by.row.weights (l.pivot + k))))
    × ((k : ℕ) → l.k ≤ k → weights_of l.weight-items k ≡ weights_of l.initial.weight-items k)
