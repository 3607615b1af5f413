-- Answers for `named_weight`: the stored weight, or 1.
use Rattle.std.proofs.Common.{◌≡◌, ◌+◌, ◌*◌, sym, ap, ◌∙◌, ap₂, arith}
use Rattle.field.specs.Bytes.{code_at}
use Rattle.member_map.specs.Maps.{named_below}
use Rattle.answer_log.specs.Entries.{map_of, weight_place}
use Rattle.answer_log.proofs.Again.{stored_weight, unstored_weight}
use Rattle.field.proofs.Widths.{narrow}
use Rattle.member_map.proofs.Counts.{few_bytes}
use Rattle.answer_log.proofs.Readers.{count_is, is_weighted, not_weighted}
use Rattle.answer_log.proofs.reading.RowBytes.named_weight.Goals as goal

pub returns-then-mark-ne1 : goal.returns-then-mark-ne1
returns-then-mark-ne1 g c =
    let bs = c.args.self.now.bytes.now in
    sym (unstored_weight g.F.Field.model c.args.self.now.count bs c.args.m c.requires.bit (not_weighted bs _ c.mark.ensures c.if-mark-ne1.true))

pub overflow_mul-at : goal.overflow_mul-at
overflow_mul-at g c = omega (arith, few_bytes _ _ _ _ (narrow g.F.Field.model _ c.element_width.ensures) c.named_count-named.ensures)

pub overflow_add-at-2 : goal.overflow_add-at-2
overflow_add-at-2 g c =
    omega (arith, c.map_length.ensures, few_bytes _ _ _ _ (narrow g.F.Field.model _ c.element_width.ensures) c.named_count-named.ensures)

pub returns : goal.returns
returns g c =
    let M = g.F.Field.model in
    let bs = c.args.self.now.bytes.now in
    let n = c.args.self.now.count in
    let m = c.args.m in
    let before : c.named_count-named.result ≡ named_below (map_of bs) m = search (count_is bs n, c.named_count-named.ensures) in
    let place : 1 + c.map_length.result + c.element_width.result * c.named_count-named.result ≡ weight_place M n bs m =
    ap₂ (λ x y. 1 + x + y) c.map_length.ensures (ap₂ (λ x y. x * y) c.element_width.ensures before) in
    c.decode.ensures ∙ ap (code_at M bs) place
    ∙ sym (stored_weight M n bs m c.requires.bit (is_weighted bs _ c.mark.ensures c.if-mark-ne1.false))
