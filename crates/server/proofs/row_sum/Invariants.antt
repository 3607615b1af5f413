use Rattle.std.proofs.Common.{◌≡◌, ◌<◌, ◌≤◌}
use Rattle.field.specs.Sums.{sum, weights_of}
use Rattle.server.specs.Tables.{value_at}
use Rattle.server.proofs.row_sum.Given as goal

abbrev pub invariant-loop-weight : goal.invariant-loop-weight
invariant-loop-weight g l =
    let M = g.S.Over.Field.model in
    (l.member ≡ l.weight-index) × (l.member ≤ l.members) × (l.total.0 < M.size)
    × (l.total.0 ≡ sum M l.member (weights_of l.row) (value_at (g.S.Server.table l.server)))
