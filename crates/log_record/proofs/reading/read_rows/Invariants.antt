-- The invariant of `read_rows`: the record stands for the rows so far, and what holds of the rows that are left holds of all.
use Rattle.std.proofs.Common.{◌≡◌, List, [], drop, Option}
use Rattle.std.specs.Iterator.Adapters.{enumerate_source, enumerate_count}
use Rattle.refusal.specs.declared.Refusal.{Refusal}
use Rattle.echelon.specs.Rows.{Figured}
use Rattle.record.specs.Records.{rec_of}
use Rattle.log_record.specs.Joins.{RowsJoin, Recorded}
use Rattle.log_record.proofs.reading.read_rows.Given as goal

abbrev pub invariant-loop-row : goal.invariant-loop-row
invariant-loop-row g l =
    let M = g.F.Field.model in
    let rest = enumerate_source l.row-iterator in
    (goal.iterator-loop-row g).can_next l.row-iterator × (goal.iterator-loop-row g).is_finite l.row-iterator
    × (rest.bytes.now ≡ l.log) × (rest.n ≡ l.n) × (enumerate_count l.row-iterator ≡ rest.row)
    × (l.held.count ≡ l.n)
    × ((before : List Figured) × Recorded M l.n before (rec_of l.held)
    × ((r : Option Refusal) (goal : List Figured) → RowsJoin M l.n rest.row before (drop rest.at l.log) r goal → RowsJoin M l.n 0 [] (drop 2 l.log) r goal))
