use Rattle.std.proofs.Common.{◌≡◌, ℕ, ◌<◌, ◌≤◌}
use Rattle.echelon.specs.Reduced.{at}
use Rattle.echelon.specs.Elimination.{pivot_cleared}
use Rattle.record.specs.Rows.{pivoted, all_pivoted, SamePivoted}
use Rattle.record.proofs.record.clear_rows.Given as goal

abbrev pub invariant-loop-row : goal.invariant-loop-row
invariant-loop-row g l =
    let now = all_pivoted l.row-items in
    let before = all_pivoted l.initial.row-items in
    ((b : ℕ) → b < l.row-index → SamePivoted l.n (at now b) (pivot_cleared g.F.Field.model (pivoted l.by) (at before b)))
    × ((b : ℕ) → l.row-index ≤ b → at now b ≡ at before b)
