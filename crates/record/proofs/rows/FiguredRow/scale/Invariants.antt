use Rattle.std.proofs.Common.{◌≡◌, ℕ, ◌<◌, ◌≤◌}
use Rattle.field.specs.Sums.{weights_of}
use Rattle.record.proofs.rows.FiguredRow.scale.Given as goal

abbrev pub invariant-loop-weight : goal.invariant-loop-weight
invariant-loop-weight g l =
    let M = g.F.Field.model in
    ((k : ℕ) → k < l.weight-index → weights_of l.weight-items k < M.size)
    × ((k : ℕ) → k < l.weight-index → weights_of l.weight-items k ≡ M.times l.factor.0 (weights_of l.initial.weight-items k))
    × ((k : ℕ) → l.weight-index ≤ k → weights_of l.weight-items k ≡ weights_of l.initial.weight-items k)
