-- Answers for `open`: the header's answer, and that an accepted file means its table.
use Rattle.std.proofs.Common.{rules}
use Rattle.table_file.proofs.Verdicts.{header_refused, means}
use Rattle.table_file.proofs.table_file.TableFile.open.Goals as goal

pub returns-in_err-header_count : goal.returns-in_err-header_count
returns-in_err-header_count g c =
    let refused = header_refused g.F.Field.model c.args.bytes.now _ c.in_err-header_count.ensures in search rules

pub returns : goal.returns
returns g c =
    let fine = c.in_ok-check_values.ensures in
    record { accepted = fine; table = means g.F.Field.model c.args.bytes.now g.met.F.Field.laws fine; refused = tt }
