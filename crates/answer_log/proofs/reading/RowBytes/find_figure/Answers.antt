-- Answers for `find_figure`: the place that mark and map call for, and no sum that wraps.
use Rattle.std.proofs.Common.{◌≡◌, ◌+◌, ◌*◌, ◌≤◌, ◌∙◌, arith}
use Rattle.answer_log.specs.Entries.{figure_place, row_length_lem, rest_cut}
use Rattle.field.proofs.Widths.{narrow}
use Rattle.member_map.proofs.Counts.{few_bytes}
use Rattle.answer_log.proofs.Readers.{is_weighted, not_weighted, figure_stored, figure_unstored}
use Rattle.answer_log.proofs.reading.RowBytes.find_figure.Goals as goal
use Rattle.answer_log.proofs.reading.RowBytes.find_figure.Goals.{then-mark-eq1, else-mark-eq1}

pub overflow_mul-place : goal.overflow_mul-place
overflow_mul-place g c =
    omega (arith, few_bytes _ _ _ _ (narrow g.F.Field.model _ c.element_width.ensures) c.in_ok-named.ensures.count)

pub overflow_add-place-then-mark-eq1 : goal.overflow_add-place-then-mark-eq1
overflow_add-place-then-mark-eq1 g c =
    omega (arith, c.map_length-place.ensures, few_bytes _ _ _ _ (narrow g.F.Field.model _ c.element_width.ensures) c.in_ok-named.ensures.count)

pub overflow_add-place-2 : goal.overflow_add-place-2
overflow_add-place-2 g c =
    let M = g.F.Field.model in
    let few : c.if-mark-eq1.place ≤ 1 + c.map_length-place.result + 2 * c.args.self.now.count =
    elim c.if-mark-eq1.branch [
      | then-mark-eq1 v ↦ omega (arith, v.place-is, few_bytes _ _ _ _ (narrow M _ v.element_width.ensures) c.in_ok-named.ensures.count)
      | else-mark-eq1 v ↦ omega (arith, v.place-is)
    ]
    in omega (arith, c.map_length-place.ensures, narrow M _ c.element_width-2.ensures)

pub returns-then-self-place-clause-refused : goal.returns-then-self-place-clause-refused
unfolding row_length_lem
returns-then-self-place-clause-refused g c =
    let M = g.F.Field.model in
    let bs = c.args.self.now.bytes.now in
    let place : c.if-mark-eq1.place ≡ figure_place M c.args.self.now.count bs =
    elim c.if-mark-eq1.branch [
      | then-mark-eq1 v ↦
          v.place-is
          ∙ figure_stored M c.args.self.now.count bs _ _ _ (is_weighted bs _ c.mark.ensures v.if-mark-eq1.true) c.map_length-place.ensures v.element_width.ensures c.in_ok-named.ensures.count
      | else-mark-eq1 v ↦
          v.place-is
          ∙ figure_unstored M c.args.self.now.count bs _ (not_weighted bs _ c.mark.ensures v.if-mark-eq1.false) c.map_length-place.ensures
    ]
    in rest_cut c.in_ok-named.ensures.named (omega (arith, c.element_width-2.ensures))

pub returns : goal.returns
unfolding row_length_lem
returns g c =
    let M = g.F.Field.model in
    let bs = c.args.self.now.bytes.now in
    let place : c.if-mark-eq1.place ≡ figure_place M c.args.self.now.count bs =
    elim c.if-mark-eq1.branch [
      | then-mark-eq1 v ↦
          v.place-is
          ∙ figure_stored M c.args.self.now.count bs _ _ _ (is_weighted bs _ c.mark.ensures v.if-mark-eq1.true) c.map_length-place.ensures v.element_width.ensures c.in_ok-named.ensures.count
      | else-mark-eq1 v ↦
          v.place-is
          ∙ figure_unstored M c.args.self.now.count bs _ (not_weighted bs _ c.mark.ensures v.if-mark-eq1.false) c.map_length-place.ensures
    ]
    in record { framed = record { named = c.in_ok-named.ensures.named; rest = omega (arith, c.element_width-2.ensures) }; place = place; refused = tt }
