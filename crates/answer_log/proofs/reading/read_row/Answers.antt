-- Answers for `read_row`: the row at the place.
use Rattle.std.proofs.Common.{ℕ, List, drop, subst, arith}
use Rattle.std.proofs.lemmas.Bool.Decides.{not_from_Decides}
use Rattle.checks.specs.CheckedRows.{row_of}
use Rattle.answer_log.specs.Entries.{wrong_count, Reads}
use Rattle.answer_log.proofs.Readers.{rest_is, row_at}
use Rattle.answer_log.proofs.reading.read_row.Goals as goal

pub returns-then-not-is_count-clause-refused : goal.returns-then-not-is_count-clause-refused
returns-then-not-is_count-clause-refused g c = wrong_count (not_from_Decides c.is_count.result c.is_count.ensures c.if-not-is_count.true)

pub returns-clause-row : goal.returns-clause-row
returns-clause-row g c =
    let M = g.F.Field.model in
    let n = c.args.n in
    let row = c.args.row in
    let bytes = c.args.bytes.now in
    let at = c.args.at in
    let entry = c.in_ok-entry.entry in
    let rest = rest_is M n row bytes at _ c.min.ensures in
    let reads : Reads M n row (drop at bytes) (row_of entry.row) entry.figure.0 entry.next =
    subst (λ (bs : List ℕ). Reads M n row bs (row_of entry.row) entry.figure.0 entry.next) rest c.in_ok-entry.ensures.row in
    row_at M n row bytes at (row_of entry.row) entry.figure.0 entry.next (λ i. (c.type_inv.bytes i).fits) _ (omega arith) reads
