-- Answers for `write_row`: which check failed, or the row, which is read back.
use Rattle.std.proofs.Common.{◌≡◌, ◌<◌, length, refl, ap, ◌∙◌, arith}
use Rattle.field.specs.Sums.{Codes, weights_of}
use Rattle.checks.specs.CheckedRows.{row_of}
use Rattle.checks.proofs.Made.{listed-row}
use Rattle.answer_log.specs.Writes.{no_figure, log_full, accepted}
use Rattle.answer_log.proofs.Writers.{checked_row, row_written}
use Rattle.answer_log.proofs.writing.write_row.Goals as goal

pub returns-then-figure-size : goal.returns-then-figure-size
returns-then-figure-size g c = record { written = tt; bytes = tt; reads = tt; refused = no_figure (omega (arith, c.size.ensures)); kept = refl }

pub returns-then-out-length-clause-refused : goal.returns-then-out-length-clause-refused
returns-then-out-length-clause-refused g c =
    let r = c.args.row.now in
    let ws = c.weights.result.now in
    let listed : weights_of ws ≡ row_of r = ap weights_of c.weights.ensures.list ∙ listed-row r in
    let size = c.length-length.ensures ∙ ap length (checked_row g.F.Field.model r.count (row_of r) ws c.weights.ensures.length listed c.args.figure.0) in
    log_full (omega (arith, c.size.ensures)) (omega arith)

pub returns : goal.returns
returns g c =
    let M = g.F.Field.model in
    let r = c.args.row.now in
    let ws = c.weights.result.now in
    let f = c.args.figure.0 in
    let below : f < M.size = omega (arith, c.size.ensures) in
    let listed : weights_of ws ≡ row_of r = ap weights_of c.weights.ensures.list ∙ listed-row r in
    let size = c.length-length.ensures in
    let room = size ∙ ap length (checked_row M r.count (row_of r) ws c.weights.ensures.length listed f) in
    let codes : Codes M r.count (row_of r) = λ m h. r.elements m (omega (arith, r.members)) in
    let out =
    row_written M r.count (row_of r) ws c.weights.ensures.length listed r.members codes r.none_past r.some_named f below
    c.args.out.now c.put.new.out c.length-length.result size c.put.ensures
    in
    record { written = accepted below (omega arith); bytes = out.0; reads = out.1; refused = tt; kept = tt }
