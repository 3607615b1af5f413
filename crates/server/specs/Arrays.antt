-- What an array means: the elements of its slice.
--   array_table M a   the table of those elements
-- Assumes nothing.
use Rattle.std.specs.Prelude.{ℕ, List, length}
use Rattle.field.specs.Model.{FieldModel}
use Rattle.server.specs.Tables.{listed, value_at, codes}
use Rattle.server.specs.declared.array.Array.{Array}

abbrev pub array_table : {F : Type 0} → FieldModel → Array F → List ℕ
array_table M a = let es = codes a.elements.now in listed M (length es) (value_at es)
