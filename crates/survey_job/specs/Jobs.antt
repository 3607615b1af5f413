-- The job of the program `replay`: a table file and a query text go in, what is printed and the log come out.
--   Replays M T text out log      a new session on the table T, and the replay of the text over it: `out` is printed, `log` logged,
--                                 and all that is promised of a run holds of the events of its calls
--   ReplaysOver GS GV server text job    the same of a server's table, and of what the job holds then
--   Printed M table text out log  the same of a table file; a refused one prints its refusal, and logs nothing
-- Assumes nothing.
use Rattle.std.specs.Prelude.{ℕ, List, [], ◌++◌, take, Some, None}
use Rattle.refusal.specs.declared.Refusal.{Refusal}
use Rattle.refusal.specs.Numbered.{number, detail}
use Rattle.field.specs.Model.{FieldModel}
use Rattle.field.specs.declared.Field as field
use Rattle.server.specs.declared.Server as server
use Rattle.table_file.specs.Files.{file_table, FileCheck}
use Rattle.law.specs.States.{State, new_state, Event}
use Rattle.law.specs.Promises.{NewlyAssured}
use Rattle.answer_text.specs.AnswerLines.{refusal_line_lem}
use Rattle.replay_text.specs.declared.outcome.Replay.{Replay}
use Rattle.replay_text.specs.Replays.{Replayed}
use Rattle.survey_job.specs.declared.replays.Job.{Job}
use Rattle.survey_job.specs.Buffers.{zeros, stop_text}

pub data Replays (M : FieldModel) (T text : List ℕ) : List ℕ → List ℕ → Type 0 where
  over_new_session :
      (r : Replay) (es : List Event) (τ : State) (answers log : List ℕ)
      → Replayed M (new_state T) text zeros zeros r es τ answers log
      → NewlyAssured M T es τ
      → Replays M T text (take r.answers answers ++ stop_text r.stop) (take r.log log)

abbrev pub ReplaysOver : {S V : Type 0} → server.Ghosts S V → field.Ghosts V → S → List ℕ → Job → Type 0
ReplaysOver GS GV server text job = Replays GV.model (GS.table server) text job.printed.items job.log.items

pub data Printed (M : FieldModel) (table text : List ℕ) : List ℕ → List ℕ → Type 0 where
  refused : (e : Refusal) → FileCheck M table (Some e) → Printed M table text (refusal_line_lem (number e) (detail e)) []
  replayed :
      FileCheck M table None → (out log : List ℕ) → Replays M (file_table M table) text out log → Printed M table text out log
