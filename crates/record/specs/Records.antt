-- A record in memory, as a record of the theory.
--   record_members r     over how many members it is
--   rec_of r             its rows
--   AloneBeside r e i    member i stands alone in a row of r cleared by e, or in e
--   MayTake r w x        x was worked out of the row w, and may join the rows of r
--   JoinFits, JoinAdds r w f r'   r' is r with the row w of figure f: by the tables that fit it, and as a reduced form
--   Along M n rec j t w  w is the table B of rec, moved by t along N(j)
-- Assumes nothing.
use Rattle.std.specs.Prelude.{◌≡◌, ℕ, ◌<◌, List, vec_items}
use Rattle.field.specs.declared.Field.{Ghosts}
use Rattle.field.specs.Model.{FieldModel}
use Rattle.field.specs.Sums.{Vector, Codes}
use Rattle.echelon.specs.Rows.{row_with}
use Rattle.echelon.specs.Reduced.{Pivoted}
use Rattle.echelon.specs.Elimination.{AloneWith}
use Rattle.echelon.specs.Witness.{base, direction}
use Rattle.record.specs.declared.record.Record.{Record}
use Rattle.record.specs.declared.rows.FreshRow.{FreshRow}
use Rattle.record.specs.Rows.{all_pivoted}
use Rattle.record.specs.Judged.{Adds, FitsBoth}
use Rattle.record.specs.Standings.{MayJoin}

abbrev pub record_members : {F : Type 0} {G : Ghosts F} → Record F G → ℕ
record_members r = r.count

abbrev pub rec_of : {F : Type 0} {G : Ghosts F} → Record F G → List Pivoted
rec_of r = all_pivoted (vec_items r.rows)

abbrev pub AloneBeside : {F : Type 0} {G : Ghosts F} → Record F G → Pivoted → ℕ → Type 0
AloneBeside {G = G} r e i = AloneWith G.model r.count (rec_of r) e i

abbrev pub MayTake : {F : Type 0} {G : Ghosts F} → Record F G → Vector → FreshRow → Type 0
MayTake {G = G} r w x = Codes G.model r.count w × MayJoin G.model r.count (rec_of r) w x

abbrev pub JoinFits : {F : Type 0} {G : Ghosts F} → Record F G → Vector → ℕ → Record F G → Type 0
JoinFits {G = G} r w f r' = FitsBoth G.model (record_members r) (rec_of r) (row_with w f) (rec_of r')

abbrev pub JoinAdds : {F : Type 0} {G : Ghosts F} → Record F G → Vector → ℕ → Record F G → Type 0
JoinAdds {G = G} r w f r' = Adds G.model (record_members r) (rec_of r) (row_with w f) (rec_of r')

abbrev pub Along : FieldModel → ℕ → List Pivoted → ℕ → ℕ → Vector → Type 0
Along M n rec j t w = (m : ℕ) → m < n → w m ≡ M.plus (base rec m) (M.times t (direction M rec j m))
