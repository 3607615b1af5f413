-- What comes with the refusal of a table file is small. Assumes nothing.
use Rattle.std.proofs.Common.{ℕ, ◌≤◌, List, Some, None, Option, arith}
use Rattle.refusal.specs.declared.Refusal.{Refusal}
use Rattle.refusal.specs.Numbered.{detail}
use Rattle.field.specs.Model.{FieldModel}
use Rattle.table_file.specs.Files.{FileCheck, no_header, wrong_kind, wrong_count, map_cut, stray_bit, wrong_length, not_an_element, stored_zero, accepted}

abbrev pub Small : Option Refusal → Type 0
Small None = Unit {0}
Small (Some e) = detail e ≤ 255

pub small_detail : (M : FieldModel) (bs : List ℕ) (r : Option Refusal) → FileCheck M bs r → Small r
small_detail M bs _ (no_header h) = omega arith
small_detail M bs _ (wrong_kind h k) = omega arith
small_detail M bs _ (wrong_count h k n) = omega arith
small_detail M bs _ (map_cut h k) = omega arith
small_detail M bs _ (stray_bit h b low) = omega (arith, h.headed.count.1, low.holds.1)
small_detail M bs _ (wrong_length h n k) = omega arith
small_detail M bs _ (not_an_element h m low k) = omega (arith, h.mapped.headed.count.1, low.holds.0)
small_detail M bs _ (stored_zero h m low k) = omega (arith, h.mapped.headed.count.1, low.holds.0)
small_detail M bs _ (accepted h k) = tt
