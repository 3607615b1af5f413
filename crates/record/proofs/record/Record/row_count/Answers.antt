use Rattle.std.proofs.Common.{vec_items, arith}
use Rattle.record.proofs.Views.{rows-length}
use Rattle.record.proofs.record.Record.row_count.Goals as goal

pub returns : goal.returns
returns g c = omega (arith, c.len.ensures, c.args.self.now.rows.ok.0, rows-length (vec_items c.args.self.now.rows))
