-- The invariant of `check_log`: what holds of the rows that are left holds of all.
use Rattle.std.proofs.Common.{◌≡◌, drop, Option}
use Rattle.refusal.specs.declared.Refusal.{Refusal}
use Rattle.answer_log.specs.Logs.{RowsCheck}
use Rattle.answer_log.proofs.rewriting.check_log.Given as goal

abbrev pub invariant-loop-entry : goal.invariant-loop-entry
invariant-loop-entry g l =
    let M = g.F.Field.model in
    let rest = l.entry-iterator in
    (goal.iterator-loop-entry g).can_next rest × (goal.iterator-loop-entry g).is_finite rest
    × (rest.bytes.now ≡ l.bytes) × (rest.n ≡ l.n)
    × ((r : Option Refusal) → RowsCheck M l.n rest.row (drop rest.at l.bytes) r → RowsCheck M l.n 0 (drop 2 l.bytes) r)
