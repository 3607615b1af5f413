-- Answers for `rewrite`: which check failed, or the log.
use Rattle.std.proofs.Common.{arith}
use Rattle.std.proofs.lemmas.Result.{err_from_is_err_and}
use Rattle.buffer.specs.Buffers.{Put}
use Rattle.answer_log.specs.Rows.{header_bytes}
use Rattle.answer_log.specs.Logs.{bad_log, log_full, accepted}
use Rattle.answer_log.proofs.Logs.{header_of, rows_of, header_long, count_accepted, write_excluded, header-front, header-kept, log_put}
use Rattle.answer_log.proofs.rewriting.rewrite.Goals as goal

pub returns-in_err-check_log-clause-refused : goal.returns-in_err-check_log-clause-refused
returns-in_err-check_log-clause-refused g c =
    let p = err_from_is_err_and c.from_residual.result c.from_residual.ensures.1 in
    rw (p.1, p.2) (bad_log _ c.in_err-check_log.ensures.refused)

pub returns-then-out-bytes-clause-refused : goal.returns-then-out-bytes-clause-refused
returns-then-out-bytes-clause-refused g c = log_full c.in_ok-check_log.ensures.passed (omega arith)

pub returns-in_err-write_header : goal.returns-in_err-write_header
returns-in_err-write_header g c =
    let M = g.F.Field.model in
    let header = header_of M c.args.n c.args.bytes.now c.in_ok-check_log.ensures.passed in
    let long = header_long M c.args.n c.args.bytes.now header in
    let count = count_accepted M c.args.n c.args.bytes.now header in
    absurd (write_excluded _ _ _ (omega (arith, count)) (omega arith) c.in_err-write_header.ensures.refused)

pub rewrite_rows-requires : goal.rewrite_rows-requires
rewrite_rows-requires g c =
    let M = g.F.Field.model in
    let n = c.args.n in
    let bytes = c.args.bytes.now in
    let header = header_of M n bytes c.in_ok-check_log.ensures.passed in
    let put : Put (header_bytes M n) c.args.out.now c.write_header.new.out c.in_ok-write_header.field-0 = c.in_ok-write_header.ensures.bytes in
    record {
      rows = rows_of M n bytes c.in_ok-check_log.ensures.passed;
      header = header-front M n bytes header c.args.out.now c.write_header.new.out _ put c.if-out-bytes.false;
      room = omega (arith, header-kept M n bytes header c.args.out.now c.write_header.new.out _ put c.if-out-bytes.false);
    }

pub returns-clause-written : goal.returns-clause-written
returns-clause-written g c = accepted c.in_ok-check_log.ensures.passed c.if-out-bytes.false

pub returns-clause-bytes : goal.returns-clause-bytes
returns-clause-bytes g c =
    let M = g.F.Field.model in
    let n = c.args.n in
    let bytes = c.args.bytes.now in
    let header = header_of M n bytes c.in_ok-check_log.ensures.passed in
    let put : Put (header_bytes M n) c.args.out.now c.write_header.new.out c.in_ok-write_header.field-0 = c.in_ok-write_header.ensures.bytes in
    log_put M n bytes header c.args.out.now c.write_header.new.out _ put c.if-out-bytes.false c.rewrite_rows.new.out c.rewrite_rows.ensures
