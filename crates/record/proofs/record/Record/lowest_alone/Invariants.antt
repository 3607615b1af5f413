use Rattle.std.proofs.Common.{ℕ, ◌<◌}
use Rattle.echelon.specs.Reduced.{at, Alone}
use Rattle.echelon.specs.Elimination.{pivot_cleared}
use Rattle.record.specs.Rows.{pivoted}
use Rattle.record.specs.Records.{rec_of}
use Rattle.record.proofs.record.Record.lowest_alone.Given as goal

abbrev pub invariant-loop-row : goal.invariant-loop-row
invariant-loop-row g l =
    let rec = rec_of l.self in
    (b : ℕ) → b < l.row-index
    → Alone l.self.count (pivot_cleared g.F.Field.model (pivoted l.fresh) (at rec b)).weights (at rec b).pivot → ⊥
