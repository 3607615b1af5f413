-- A row that is written, part by part.
--   weights_in r, members_in r    its weights, and how many members they are of
--   named_in M r                  the bytes of the weights of its named members
--   stored_in M r                 those bytes where they are stored, none for a plain row
--   bytes_in M r                  all bytes of the row
-- Assumes nothing.
use Rattle.std.specs.Prelude.{ℕ, List, length}
use Rattle.field.specs.Model.{FieldModel}
use Rattle.field.specs.Sums.{Vector, weights_of}
use Rattle.field.specs.declared.Field.{Ghosts}
use Rattle.answer_log.specs.declared.parts.Row.{Row}
use Rattle.answer_log.specs.Rows.{weight_bytes, stored_bytes, row_bytes}

abbrev pub weights_in : {F : Type 0} {G : Ghosts F} → Row F G → Vector
weights_in r = weights_of r.weights.now

abbrev pub members_in : {F : Type 0} {G : Ghosts F} → Row F G → ℕ
members_in r = length r.weights.now

abbrev pub named_in : {F : Type 0} {G : Ghosts F} → FieldModel → Row F G → List ℕ
named_in M r = weight_bytes M (weights_in r) (members_in r)

abbrev pub stored_in : {F : Type 0} {G : Ghosts F} → FieldModel → Row F G → List ℕ
stored_in M r = stored_bytes M (weights_in r) (members_in r)

abbrev pub bytes_in : {F : Type 0} {G : Ghosts F} → FieldModel → Row F G → List ℕ
bytes_in M r = row_bytes M (members_in r) (weights_in r) r.figure.0
