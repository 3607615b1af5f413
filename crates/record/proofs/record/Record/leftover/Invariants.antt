use Rattle.std.proofs.Common.{take}
use Rattle.echelon.specs.Rows.{CodedRow}
use Rattle.echelon.specs.Elimination.{leftover}
use Rattle.record.specs.Rows.{figured_row, SameRow}
use Rattle.record.specs.Records.{rec_of}
use Rattle.record.proofs.record.Record.leftover.Given as goal

abbrev pub invariant-loop-by : goal.invariant-loop-by
invariant-loop-by g l =
    let M = g.F.Field.model in
    SameRow l.self.count (figured_row l.left) (leftover M (take l.by-index (rec_of l.self)) (figured_row l.initial.left))
    × CodedRow M l.self.count (figured_row l.left)
