-- A replay on a session in memory.
--   Loggable M room came     the row that was answered, if any, can be logged in so much room
--   logged_bytes M came      the bytes of that row
--   LineDone x k line answers log x' answers' log' used   the line is handled by the law, printed and logged
--   Replays x text answers log r answers' log' x'   in every state that x stands for the text is replayed by the law, the run of
--                            its events is assured, and x' stands for the state that they lead to
-- Assumes nothing.
use Rattle.std.specs.Prelude.{ℕ, List, [], length, None, Ok, Option, Result}
use Rattle.field.specs.declared.Field as field
use Rattle.server.specs.declared.Server as server
use Rattle.field.specs.Model.{FieldModel}
use Rattle.buffer.specs.Buffers.{Put}
use Rattle.law.specs.States.{State, Event, answered_by}
use Rattle.law.specs.Promises.{Assured}
use Rattle.session.specs.States.{Holds, Leads}
use Rattle.session.specs.declared.session.Session.{Session}
use Rattle.checks.specs.CheckedRows.{row_of}
use Rattle.answer_log.specs.Rows.{row_bytes}
use Rattle.answer_log.specs.Writes.{RowWrite}
use Rattle.log_record.specs.Joins.{rows_bytes}
use Rattle.answer_text.specs.AnswerLines.{Told}
use Rattle.request.specs.Requests.{Handled}
use Rattle.request.specs.declared.faults.RequestFault.{RequestFault}
use Rattle.request.specs.declared.outcome.Outcome.{Outcome}
use Rattle.request.specs.declared.outcome.Outcome.TheVariants.{Answered}
use Rattle.replay_text.specs.declared.lines.Used.{Used}
use Rattle.replay_text.specs.declared.outcome.Replay.{Replay}
use Rattle.replay_text.specs.Replays.{printed, Replayed}

-- the row that was answered, if any, can be logged in so much room
abbrev pub Loggable : {V : Type 0} {GV : field.Ghosts V} → FieldModel → ℕ → Result (Outcome V GV) RequestFault → Type 0
Loggable M room (Ok (Answered r v)) = RowWrite M r.count (row_of r) v.0 room None
Loggable M room _ = Unit {0}

-- the bytes of that row
abbrev pub logged_bytes : {V : Type 0} {GV : field.Ghosts V} → FieldModel → Result (Outcome V GV) RequestFault → List ℕ
logged_bytes M (Ok (Answered r v)) = row_bytes M r.count (row_of r) v.0
logged_bytes M _ = []

abbrev pub LineDone :
    {S V : Type 0} {GS : server.Ghosts S V} {GV : field.Ghosts V} → Session S V GS GV → ℕ → List ℕ → List ℕ → List ℕ → Session S V GS GV → List ℕ → List ℕ → Used → Type 0
LineDone {GV = GV} x k line answers log x' answers' log' used =
    Leads x
    (λ σ es.
    (a : Option Told) × Handled GV.model (length σ.table) line a es × Put (printed k a) answers answers' used.answers
    × Put (rows_bytes GV.model (length σ.table) (answered_by σ es)) log log' used.log)
    x'

abbrev pub Replays :
    {S V : Type 0} {GS : server.Ghosts S V} {GV : field.Ghosts V} → Session S V GS GV → List ℕ → List ℕ → List ℕ → Replay → List ℕ → List ℕ → Session S V GS GV → Type 0
Replays {GV = GV} x text answers log r answers' log' x' =
    (σ : State) → Holds σ x
    → (es : List Event) × (τ : State) × Replayed GV.model σ text answers log r es τ answers' log' × Assured GV.model σ es τ × Holds τ x'
