-- A row in memory that passed its checks.
--   row_members r   how many members it is of
--   row_of r        its weights by member number, 0 from its count on
--   listed_row r    its weights as a list, one for each member
-- Assumes nothing.
use Rattle.std.specs.Prelude.{ℕ, List, take}
use Rattle.field.specs.declared.Element.{Element}
use Rattle.field.specs.declared.Field.{Ghosts}
use Rattle.field.specs.Sums.{Vector, weights_of}
use Rattle.checks.specs.declared.row.CheckedRow.{CheckedRow}

abbrev pub row_members : {F : Type 0} {G : Ghosts F} → CheckedRow F G → ℕ
row_members r = r.count

abbrev pub row_of : {F : Type 0} {G : Ghosts F} → CheckedRow F G → Vector
row_of r = weights_of r.weights

abbrev pub listed_row : {F : Type 0} {G : Ghosts F} → CheckedRow F G → List Element
listed_row r = take r.count r.weights
