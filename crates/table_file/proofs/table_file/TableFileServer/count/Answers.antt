-- Answers for `count`: the length of a table, which the view always means.
use Rattle.std.proofs.Common.{◌≡◌, sym, ◌∙◌, arith}
use Rattle.server.specs.Tables.{bounded}
use Rattle.server.proofs.Listed.{listed-length, listed-table}
use Rattle.table_file.specs.Files.{count_of, file_value}
use Rattle.table_file.proofs.table_file.TableFileServer.count.Goals as goal

pub returns : goal.returns
returns g c =
    let M = g.F.Field.model in
    let bs = c.args.self.now.bytes.now in
    let counted : c.bounded_count.result ≡ bounded (count_of bs) = omega (arith, c.bounded_count.ensures, c.from.ensures, c.count_byte.ensures) in
    record {
      is = counted ∙ sym (listed-length M (count_of bs) (file_value M bs));
      lawful = listed-table M (count_of bs) (file_value M bs) g.met.F.Field.laws;
    }
