-- The memory of a job, as clauses see it.
--   room_for_answers m   the bytes for what is printed
--   room_for_log m       the bytes for the log
-- Assumes nothing.
use Rattle.std.specs.Prelude.{ℕ, List, vec_items}
use Rattle.survey_job.specs.declared.memory.JobMemory.{JobMemory}

abbrev pub room_for_answers : JobMemory → List ℕ
room_for_answers m = vec_items m.printed

abbrev pub room_for_log : JobMemory → List ℕ
room_for_log m = vec_items m.log
