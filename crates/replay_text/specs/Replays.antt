-- A replay of query text: what it prints and logs, and where it stops.
--   NoNewline bs             no byte is a newline
--   printed k a              what line k prints: nothing for a remark
--   logged M σ es            the log of the rows that the events es answer, from the state σ on
--   Lines M σ room log_room k text es τ out   the text is k whole lines, each handled in turn with room enough before it;
--                            the events es of their calls lead from the state σ to τ, and `out` is printed
--   FirstLine rest room log_room line after   the rest begins with the line, `after` follows its newline, and there is room for the line
--   Stops rest room log_room e   why no line of the rest is handled, where so many bytes are left: a stop, or none at the text's end
--   stop_number_lem, stop_line_lem   a stop as two numbers, both 0 where there is none
--   Replayed M σ text answers log r es τ answers' log'   what the replay of a text answers and leaves, in the state σ
--   nothing_done e           the answer of a replay that did not begin
-- Assumes nothing.
use Rattle.std.specs.Prelude.{◌≡◌, ℕ, ◌+◌, ◌-◌, ◌<◌, ◌≤◌, ◌≢◌, List, [], ◌∷◌, ◌++◌, length, Some, None, Option}
use Rattle.std.specs.List.{AllByRecursion}
use Rattle.refusal.specs.declared.Refusal.{Refusal}
use Rattle.refusal.specs.declared.Refusal.TheVariants.{AnswersFull, LogFull, LineNotEnded, TextTooLong}
use Rattle.refusal.specs.Numbered.{number}
use Rattle.field.specs.Model.{FieldModel}
use Rattle.buffer.specs.Buffers.{onto}
use Rattle.law.specs.States.{State, Event, answered_by}
use Rattle.law.specs.Law.{Lawful}
use Rattle.log_record.specs.Joins.{log_bytes}
use Rattle.request.specs.Requests.{Handled}
use Rattle.answer_text.specs.AnswerLines.{Told, answer_line}
use Rattle.replay_text.specs.declared.outcome.Replay.{Replay}
use Rattle.replay_text.specs.declared.outcome.Stop.{Stop}

-- 10 is the newline
abbrev pub NoNewline : List ℕ → Type 0
NoNewline bs = AllByRecursion (λ b. b ≢ 10) bs

abbrev pub printed : ℕ → Option Told → List ℕ
printed k None = []
printed k (Some a) = answer_line k a

abbrev pub logged : FieldModel → State → List Event → List ℕ
logged M σ es = log_bytes M (length σ.table) (answered_by σ es)

pub data Lines (M : FieldModel) (σ : State) (room log_room : ℕ) : ℕ → List ℕ → List Event → State → List ℕ → Type 0 where
  none_yet : Lines M σ room log_room 0 [] [] σ []
  one_more :
      (k : ℕ) (text : List ℕ) (es : List Event) (τ : State) (out : List ℕ) → Lines M σ room log_room k text es τ out
      → length out + 392 ≤ room → length (logged M σ es) + 139 ≤ log_room
      → (line : List ℕ) → NoNewline line → (a : Option Told) (new : List Event) (τ' : State)
      → Handled M (length τ.table) line a new → Lawful M τ new τ'
      → Lines M σ room log_room (k + 1) (text ++ (line ++ (10 ∷ []))) (es ++ new) τ' (out ++ printed (k + 1) a)

abbrev pub FirstLine : (rest : List ℕ) (room log_room : ℕ) (line after : List ℕ) → Type 0
FirstLine rest room log_room line after =
    (392 ≤ room) × (139 ≤ log_room) × NoNewline line × (rest ≡ line ++ (10 ∷ after))

pub data Stops (rest : List ℕ) (room log_room : ℕ) : Option Refusal → Type 0 where
  at_the_end : length rest ≡ 0 → Stops rest room log_room None
  answers_full : 1 ≤ length rest → room < 392 → Stops rest room log_room (Some AnswersFull)
  log_full : 1 ≤ length rest → 392 ≤ room → log_room < 139 → Stops rest room log_room (Some LogFull)
  not_ended : 1 ≤ length rest → 392 ≤ room → 139 ≤ log_room → NoNewline rest → Stops rest room log_room (Some LineNotEnded)

-- a stop before a line
abbrev pub stopped : ℕ → Option Refusal → Option Stop
stopped k None = None
stopped k (Some e) = Some (record { refusal = e; line = k })

abbrev pub stop_number_lem : Option Stop → ℕ
stop_number_lem None = 0
stop_number_lem (Some x) = number x.refusal

abbrev pub stop_line_lem : Option Stop → ℕ
stop_line_lem None = 0
stop_line_lem (Some x) = x.line

-- nothing was handled or written
abbrev pub nothing_done : Refusal → Replay
nothing_done e = record { lines = 0; answers = 0; log = 0; stop = stopped 0 (Some e) }

pub data Replayed (M : FieldModel) (σ : State) (text answers log : List ℕ) :
    Replay → List Event → State → List ℕ → List ℕ → Type 0 where
  too_long : 65536 < length text → Replayed M σ text answers log (nothing_done TextTooLong) [] σ answers log
  no_header : length text ≤ 65536 → length log < 2 → Replayed M σ text answers log (nothing_done LogFull) [] σ answers log
  replayed :
      length text ≤ 65536 → 2 ≤ length log
      → (k : ℕ) (done rest : List ℕ) (es : List Event) (τ : State) (out : List ℕ) → text ≡ done ++ rest
      → Lines M σ (length answers) (length log) k done es τ out
      → (e : Option Refusal) → Stops rest (length answers - length out) (length log - length (logged M σ es)) e
      → Replayed M σ text answers log
      (record { lines = k; answers = length out; log = length (logged M σ es); stop = stopped (k + 1) e }) es τ (onto out answers)
      (onto (logged M σ es) log)
