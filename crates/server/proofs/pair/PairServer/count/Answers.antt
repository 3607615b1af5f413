use Rattle.std.proofs.Common.{◌≡◌, min, length, sym, ◌∙◌, arith}
use Rattle.server.specs.Tables.{Table}
use Rattle.server.proofs.Pairs.{sums-length, sums-table}
use Rattle.server.proofs.pair.PairServer.count.Goals as goal

pub returns : goal.returns
returns g c =
    let M = g.L.Over.Field.model in
    let t = g.L.Server.table c.args.self.now.left in
    let u = g.R.Server.table c.args.self.now.right in
    let lesser : c.min.result ≡ min (length t) (length u) = omega (arith, c.min.ensures, c.count.ensures.is, c.count-2.ensures.is) in
    let of_right : Table M u = search (c.count-2.ensures.lawful) in
    record {
      is = lesser ∙ sym (sums-length M t u);
      lawful = sums-table M t u g.met.L.Over.Field.laws c.count.ensures.lawful of_right;
    }
