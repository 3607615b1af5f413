-- Answers for `read_log`: the header, then the rows.
use Rattle.std.proofs.Common.{◌≡◌, ℕ, [], drop, Some, ◌∙◌, subst, OnOk, IfErr}
use Rattle.std.proofs.lemmas.Result.{err_from_is_err_and}
use Rattle.record.specs.Records.{rec_of}
use Rattle.log_record.specs.Joins.{RowsJoin, bad_header, RowsRead}
use Rattle.log_record.proofs.Forwards.{header-count, log_read, log_refused}
use Rattle.log_record.proofs.reading.read_log.Goals as goal

pub returns-in_err-read_header : goal.returns-in_err-read_header
returns-in_err-read_header g c =
    let p = err_from_is_err_and c.from_residual.result c.from_residual.ensures.1 in
    rw (p.1, p.2) (record { count = c.requires.count; log = tt; refused = bad_header _ c.in_err-read_header.ensures })

pub returns : goal.returns
returns g c =
    let M = g.F.Field.model in
    let bytes = c.args.log.now in
    let n = c.args.n in
    let header = c.in_ok-read_header.ensures in
    let size : c.args.held.now.count ≡ n = c.requires.count ∙ header-count M n bytes header in
    let after = rec_of c.read_rows.new.held in
    record {
      count = c.read_rows.ensures.count ∙ c.requires.count;
      log = log_read M n bytes header after c.read_rows.result (subst (λ (m : ℕ). OnOk c.read_rows.result (RowsRead M m bytes after)) size c.read_rows.ensures.joins);
      refused =
          log_refused M n bytes header c.read_rows.result
          (subst (λ (m : ℕ). IfErr c.read_rows.result (λ e. RowsJoin M m 0 [] (drop 2 bytes) (Some e) [])) size c.read_rows.ensures.refused);
    }
