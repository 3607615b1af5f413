-- Answers for `value`: the element of a member of the view.
use Rattle.std.proofs.Common.{◌≡◌, ap, ◌∙◌, arith}
use Rattle.server.specs.Tables.{element_or_zero_lem}
use Rattle.server.proofs.Listed.{answered}
use Rattle.table_file.specs.Files.{count_of, file_value}
use Rattle.table_file.proofs.table_file.TableFileServer.value.Goals as goal

pub returns : goal.returns
returns g c =
    let M = g.F.Field.model in
    let bs = c.args.self.now.bytes.now in
    let m = c.args.m.0 in
    let stored : c.stored_code.result.0 ≡ file_value M bs m = search (c.stored_code.ensures) in
    answered M (count_of bs) (file_value M bs) m _ (omega (arith, c.count.ensures.is)) (c.element_or_zero.ensures ∙ ap (element_or_zero_lem M) stored)
