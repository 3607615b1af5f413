-- Answers for `write_header`: which check failed, or the two bytes.
use Rattle.std.proofs.lemmas.Bool.Decides.{not_from_Decides}
use Rattle.buffer.specs.Buffers.{Writes}
use Rattle.answer_log.specs.Rows.{header_bytes}
use Rattle.answer_log.specs.Writes.{wrong_count}
use Rattle.answer_log.proofs.Writers.{header_written}
use Rattle.answer_log.proofs.writing.write_header.Goals as goal

pub returns-then-not-is_count-clause-refused : goal.returns-then-not-is_count-clause-refused
returns-then-not-is_count-clause-refused g c =
    wrong_count (not_from_Decides c.is_count.result c.is_count.ensures c.if-not-is_count.true)

pub returns : goal.returns
returns g c =
    let M = g.F.Field.model in
    let count = c.is_count.ensures.0 c.if-not-is_count.false in
    let put = rw c.kind.ensures at c.put_bytes.ensures in
    let wrote : Writes (header_bytes M c.args.n) c.args.out.now c.put_bytes.new.out c.put_bytes.result = search (put) in
    let (done, bytes, refused, kept) = header_written M c.args.n count c.args.out.now c.put_bytes.new.out c.put_bytes.result wrote in
    rw c.ok_or.ensures.value (record { written = done; bytes = bytes; refused = refused; kept = kept })
