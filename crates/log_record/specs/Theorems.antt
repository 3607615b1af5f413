-- What holds of logs, over every field and count.
--   Bytes bs             each is below 256
--   InOrder M n given    each row given is fine, pins nobody with those before it, and contradicts none of them
--   AcceptedIsWritten, AcceptedIsInOrder, WrittenIsAccepted   the accepted logs are exactly those that rows in order write
--   ReadIsWritten        apart from what the record refuses, the logs read are exactly those that fine rows write
--   AnsweredIsAccepted   what a new session answered makes an accepted log
--   OneAnswer            a log has one answer
--   LogIsSound           a session resumed from a log begins in a sound state
--   WitnessAfterALog, WitnessesFitTheLog, PossibleAfterALog   every value stays possible after a log
-- Assumes nothing.
use Rattle.std.specs.Prelude.{◌≡◌, ℕ, ◌<◌, List, [], ◌∷◌, length, None, Option, slice_index}
use Rattle.refusal.specs.declared.Refusal.{Refusal}
use Rattle.field.specs.Model.{FieldModel, FieldLaws}
use Rattle.field.specs.Sums.{Codes}
use Rattle.server.specs.Checks.{Count}
use Rattle.server.specs.Tables.{Table, value_at}
use Rattle.echelon.specs.Rows.{Figured, Fits}
use Rattle.echelon.specs.Reduced.{FitsGiven}
use Rattle.law.specs.States.{State, new_state, log_state, witnesses, Event, witnessed, call_of}
use Rattle.law.specs.Law.{Due, Lawful}
use Rattle.law.specs.Sound.{RowFine, AllFine, Sound}
use Rattle.law.specs.Promises.{IsWitness}
use Rattle.answer_log.specs.Logs.{LogCheck}
use Rattle.log_record.specs.Joins.{log_bytes, PinsWith, Contradicts, LogRecord}

abbrev pub Bytes : List ℕ → Type 0
Bytes bs = (i : ℕ) → slice_index bs i < 256

abbrev pub InOrder : FieldModel → ℕ → List Figured → Type 0
InOrder M n [] = Unit {0}
InOrder M n (g ∷ before) =
    RowFine M n g × ((i : ℕ) → PinsWith M n before g i → ⊥) × (Contradicts M n before g → ⊥) × InOrder M n before

-- An accepted log is exactly what its rows write.
abbrev pub AcceptedIsWritten : Type 0
AcceptedIsWritten =
    (M : FieldModel) (n : ℕ) (bs : List ℕ) → Bytes bs → (given : List Figured) → LogRecord M n bs None given
    → bs ≡ log_bytes M n given

-- Rows that are in order are read back as they were written.
abbrev pub WrittenIsAccepted : Type 0
WrittenIsAccepted =
    (M : FieldModel) (n : ℕ) → Count n → (given : List Figured) → InOrder M n given
    → LogRecord M n (log_bytes M n given) None given

-- The rows of an accepted log are in order: with the two theorems above, a log is accepted exactly where such rows write it.
abbrev pub AcceptedIsInOrder : Type 0
AcceptedIsInOrder =
    (M : FieldModel) → FieldLaws M → (n : ℕ) (bs : List ℕ) (given : List Figured) → LogRecord M n bs None given
    → Count n × InOrder M n given

-- Apart from what the record refuses, reading takes exactly the logs that some rows write.
pub record ReadIsWritten : Type 0 where
  pub read :
      (M : FieldModel) → FieldLaws M → (n : ℕ) (bs : List ℕ) → Bytes bs → LogCheck M n bs None
      → Count n × ((given : List Figured) × AllFine M n given × (bs ≡ log_bytes M n given))
  pub written :
      (M : FieldModel) (n : ℕ) → Count n → (given : List Figured) → AllFine M n given
      → LogCheck M n (log_bytes M n given) None

-- A log of all that a new session answered, in order, is accepted, and gives the answered rows back.
abbrev pub AnsweredIsAccepted : Type 0
AnsweredIsAccepted =
    (M : FieldModel) → FieldLaws M → (T : List ℕ) → Table M T → (τ : State) (es : List Event) → Lawful M (new_state T) es τ
    → LogRecord M (length T) (log_bytes M (length T) τ.given) None τ.given

-- A session that is resumed from a log begins in a sound state, whether or not the log is accepted.
abbrev pub LogIsSound : Type 0
LogIsSound =
    (M : FieldModel) → FieldLaws M → (T : List ℕ) → Table M T → (bs : List ℕ) (r : Option Refusal) (given : List Figured)
    → LogRecord M (length T) bs r given → Sound M (log_state T r given)

-- A log has one answer, and holds one list of rows.
abbrev pub OneAnswer : Type 0
OneAnswer =
    (M : FieldModel) → FieldLaws M → (n : ℕ) (bs : List ℕ) (r r' : Option Refusal) (given given' : List Figured)
    → LogRecord M n bs r given → LogRecord M n bs r' given' → (r ≡ r') × (given ≡ given')

-- For every member and element there is a witness that has each figure of the log as its sum.
abbrev pub WitnessAfterALog : Type 0
WitnessAfterALog =
    (M : FieldModel) → FieldLaws M → (bs : List ℕ) (log : List Figured) (σ τ : State) (es : List Event) → Sound M σ
    → LogRecord M (length σ.table) bs None log → σ.given ≡ log → Lawful M σ es τ
    → (i a : ℕ) → i < length τ.table → a < M.size
    → (w : List ℕ) × IsWitness M τ i a w × Fits M (length τ.table) log (value_at w)

-- And what is due to a witness call after a log is such a table, over any table and whatever permits were issued.
abbrev pub WitnessesFitTheLog : Type 0
WitnessesFitTheLog =
    (M : FieldModel) → FieldLaws M → (bs : List ℕ) (log : List Figured) (σ τ : State) (es : List Event)
    → LogRecord M (length σ.table) bs None log → σ.given ≡ log → Lawful M σ es τ
    → (i a : ℕ) → i < length τ.table → a < M.size
    → (e : Event) → call_of e ≡ witnesses i a (length τ.table) → Due M τ e
    → (w : List ℕ) × (e ≡ witnessed i a (length τ.table) w) × (value_at w i ≡ a) × Codes M (length τ.table) (value_at w)
    × Fits M (length τ.table) log (value_at w) × FitsGiven M (length τ.table) τ.given (value_at w)

-- Every value stays possible after a log, whether or not the table fits it.
abbrev pub PossibleAfterALog : Type 0
PossibleAfterALog = WitnessAfterALog × WitnessesFitTheLog
