-- Answers for `value_place`: no sum that wraps.
use Rattle.std.proofs.Common.{arith}
use Rattle.field.proofs.Widths.{narrow}
use Rattle.member_map.proofs.Counts.{few_bytes}
use Rattle.table_file.proofs.table_file.TableFile.value_place.Goals as goal

pub overflow_mul-result : goal.overflow_mul-result
overflow_mul-result g c = omega (arith, few_bytes _ _ _ _ (narrow g.F.Field.model _ c.element_width.ensures) c.named_count.ensures)

pub overflow_add-result-2 : goal.overflow_add-result-2
overflow_add-result-2 g c =
    omega (arith, c.map_length.ensures, few_bytes _ _ _ _ (narrow g.F.Field.model _ c.element_width.ensures) c.named_count.ensures)
