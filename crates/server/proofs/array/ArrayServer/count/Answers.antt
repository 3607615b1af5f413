use Rattle.std.proofs.Common.{◌≡◌, length, sym, ap, ◌∙◌, arith}
use lib.ListN.{length-map}
use Rattle.server.specs.Tables.{value_at, codes, bounded}
use Rattle.server.proofs.Listed.{listed-length, listed-table}
use Rattle.server.proofs.array.ArrayServer.count.Goals as goal

pub returns : goal.returns
returns g c =
    let M = g.F.Field.model in
    let es = codes c.args.self.now.elements.now in
    let counted : c.bounded_count.result ≡ bounded (length c.args.self.now.elements.now) = omega (arith, c.bounded_count.ensures) in
    record {
      is = counted ∙ ap bounded (sym (length-map _ _)) ∙ sym (listed-length M (length es) (value_at es));
      lawful = listed-table M (length es) (value_at es) g.met.F.Field.laws;
    }
