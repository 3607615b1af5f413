-- The field that the kind byte of a table file chooses: 2 is ticks, and any other kind, or none, is amounts.
--   chosen_field table   that field's model
-- Assumes nothing.
use Rattle.std.specs.Prelude.{ℕ, true, false, List, ◌==◌, slice_index}
use Rattle.field.specs.Model.{FieldModel}
use Rattle.amounts.specs.Prime.{amounts}
use Rattle.ticks.specs.Polynomials.{ticks_field}

abbrev pub chosen_field : List ℕ → FieldModel
chosen_field table = elim (slice_index table 0 == 2) [ true ↦ ticks_field | false ↦ amounts ]
