-- Memory for the rows of a record, as clauses see it.
--   room_rows m       the rows in it
--   room_capacity m   how many it has room for
-- Assumes nothing.
use Rattle.std.specs.Prelude.{ℕ, List, vec_items, vec_capacity}
use Rattle.record.specs.declared.rows.RecordRow.{RecordRow}
use Rattle.record.specs.declared.room.Room.{Room}

abbrev pub room_rows : Room → List RecordRow
room_rows m = vec_items m.rows

abbrev pub room_capacity : Room → ℕ
room_capacity m = vec_capacity m.rows
