-- Answers for `check_frame`: which check of the map and the length failed.
use Rattle.std.proofs.Common.{sym, ap, ◌∙◌, arith}
use Rattle.table_file.specs.Files.{value_place, map_cut, stray_bit, wrong_length}
use Rattle.table_file.proofs.table_file.TableFile.check_frame.Goals as goal

pub returns-then-self-map_length : goal.returns-then-self-map_length
returns-then-self-map_length g c = map_cut c.requires (omega arith)

pub returns-in-Some : goal.returns-in-Some
returns-in-Some g c =
    let low = rw (c.map.ensures, c.count_byte-n.ensures) at c.in-Some.ensures in
    stray_bit (record { headed = c.requires; whole = omega arith }) c.in-Some.b.0 (record { holds = low.0; none_below = low.1 })

pub returns-then-self-value_place : goal.returns-then-self-value_place
returns-then-self-value_place g c =
    let M = g.F.Field.model in
    let bs = c.args.self.now.bytes.now in
    let none = rw (c.map.ensures, c.count_byte-n.ensures) at c.in_default.ensures in
    wrong_length (record { headed = c.requires; whole = omega arith }) none
    (λ e. c.if-self-value_place.true (e ∙ sym (c.value_place.ensures ∙ ap (value_place M bs) c.count_byte-n.ensures)))
