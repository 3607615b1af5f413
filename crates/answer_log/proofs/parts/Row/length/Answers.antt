-- Answers for `length`: the parts of a row.
use Rattle.std.proofs.Common.{length, arith}
use Rattle.field.specs.Sums.{weights_of}
use Rattle.answer_log.proofs.Buffers.{row-size}
use Rattle.answer_log.proofs.parts.Row.length.Goals as goal

pub returns : goal.returns
returns g c =
    let ws = c.args.self.now.weights.now in
    let all = row-size g.F.Field.model (length ws) (weights_of ws) c.args.self.now.figure.0 in
    omega (arith, c.map_length-map.ensures, c.stored_length.ensures.is, c.element_width.ensures)
