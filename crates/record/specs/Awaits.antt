-- What an audit keeps of the row that is open.
--   Awaits M n rec r o     o is kept of the row r: nothing where rec fixes r, else the row that would join
--   Awaited M n rec p      the same of the open row, where there is one
--   Awaited-prop           there is one proof of that at most, so that it may stand in the type of an audit
-- Assumes nothing.
use Rattle.std.specs.Prelude.{ℕ, List, Some, None, Option}
use Rattle.std.specs.Coded.{Coded-set, coded_ℕ, le_prop, Unit-prop}
use Rattle.field.specs.declared.Field.{Ghosts}
use Rattle.field.specs.Model.{FieldModel}
use Rattle.field.specs.Sums.{Vector}
use Rattle.checks.specs.CheckedRows.{row_of}
use Rattle.echelon.specs.Rows.{Fixes}
use Rattle.echelon.specs.Reduced.{Pivoted, record_rows}
use Rattle.record.specs.Standings.{MayJoin}
use Rattle.record.specs.declared.rows.FreshRow.{FreshRow}
use Rattle.record.specs.declared.audit.OpenRow.{OpenRow}

abbrev pub Awaits : FieldModel → ℕ → List Pivoted → Vector → Option FreshRow → Type 0
Awaits M n rec r None = Fixes M n (record_rows rec) r
Awaits M n rec r (Some x) = MayJoin M n rec r x

abbrev pub Awaited : {F : Type 0} {G : Ghosts F} → FieldModel → ℕ → List Pivoted → Option (OpenRow F G) → Type 0
Awaited M n rec None = Unit {0}
Awaited M n rec (Some p) = Awaits M n rec (row_of p.row) p.fresh

Awaits-prop : (M : FieldModel) (n : ℕ) (rec : List Pivoted) (r : Vector) (o : Option FreshRow) → IsProp (Awaits M n rec r o)
Awaits-prop M n rec r None = hlevel (Coded-set coded_ℕ, le_prop)
Awaits-prop M n rec r (Some x) = hlevel (Coded-set coded_ℕ, le_prop)

pub Awaited-prop :
    {F : Type 0} {G : Ghosts F} (M : FieldModel) (n : ℕ) (rec : List Pivoted) (p : Option (OpenRow F G)) → IsProp (Awaited M n rec p)
Awaited-prop M n rec None = Unit-prop
Awaited-prop M n rec (Some p) = Awaits-prop M n rec (row_of p.row) p.fresh
