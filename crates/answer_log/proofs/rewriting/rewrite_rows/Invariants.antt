-- The invariant of `rewrite_rows`: the bytes up to the place stand in the buffer, and the rows that are left are in order.
use Rattle.std.proofs.Common.{◌≡◌, ◌≤◌, length, take, drop, None}
use Rattle.buffer.specs.Buffers.{Front}
use Rattle.answer_log.specs.Logs.{RowsCheck}
use Rattle.answer_log.proofs.rewriting.rewrite_rows.Given as goal

abbrev pub invariant-loop-entry : goal.invariant-loop-entry
invariant-loop-entry g l =
    let M = g.F.Field.model in
    let rest = l.entry-iterator in
    (goal.iterator-loop-entry g).can_next rest × (goal.iterator-loop-entry g).is_finite rest
    × (rest.bytes.now ≡ l.bytes) × (rest.n ≡ l.n) × (rest.at ≡ l.at) × (l.at ≤ length l.bytes)
    × Front l.initial.out l.out (take l.at l.bytes) l.at
    × RowsCheck M l.n rest.row (drop l.at l.bytes) None
