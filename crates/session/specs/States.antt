-- A session in memory, and the states of the law that it stands for.
--   server_of, table_of, members_of x   its server; the server's table; how many members it has
--   held_record x           its record, whole
--   record_of, issued_of x  the rows of its record; how many permits it issued
--   open_permit, open_row_of x   the number of the open permit; the row that is open
--   IsOpenRow x k ws        the row of the weights ws is open, under the permit k
--   state_of x given        the state of the session, where those rows were given
--   Holds σ x               the session x stands for the state σ
--   StandsForSome x         it stands for some state
--   Follows x e x'          in every state that x stands for the event e is due, and x' stands for the state after it
--   Leads x P x'            from every state that x stands for a lawful run of events, of which P tells, leads to a state that
--                           x' stands for
--   submit_event, grant_event, answer_event, withdraw_event, witness_event   what a call answers, as an event
-- Assumes nothing.
use Rattle.std.specs.Prelude.{◌≡◌, ℕ, List, length, Some, None, Ok, Err, Option, Result, option_map}
use Rattle.refusal.specs.declared.Refusal.{Refusal}
use Rattle.field.specs.declared.Field as field
use Rattle.server.specs.declared.Server as server
use Rattle.field.specs.Sums.{weights_of}
use Rattle.field.specs.declared.Element.{Element}
use Rattle.echelon.specs.Rows.{Figured}
use Rattle.echelon.specs.Reduced.{Pivoted, ReducedForm}
use Rattle.checks.specs.declared.row.CheckedRow.{CheckedRow}
use Rattle.checks.specs.CheckedRows.{row_of}
use Rattle.record.specs.declared.record.Record.{Record}
use Rattle.record.specs.Records.{rec_of}
use Rattle.record.specs.Audits.{opened}
use Rattle.law.specs.States as states
use Rattle.law.specs.States.{State, Event, submits, answers, withdraws, witnesses, refused, permitted, answered, withdrew, witnessed, after}
use Rattle.law.specs.Law.{Due, Lawful}
use Rattle.law.specs.Sound.{Sound}
use Rattle.session.specs.declared.permit.Permit.{Permit}
use Rattle.session.specs.declared.session.Session.{Session}

abbrev pub server_of : {S V : Type 0} {GS : server.Ghosts S V} {GV : field.Ghosts V} → Session S V GS GV → S
server_of x = x.server

abbrev pub table_of : {S V : Type 0} {GS : server.Ghosts S V} {GV : field.Ghosts V} → Session S V GS GV → List ℕ
table_of {GS = GS} x = GS.table x.server

abbrev pub members_of : {S V : Type 0} {GS : server.Ghosts S V} {GV : field.Ghosts V} → Session S V GS GV → ℕ
members_of {GS = GS} x = length (GS.table x.server)

abbrev pub held_record : {S V : Type 0} {GS : server.Ghosts S V} {GV : field.Ghosts V} → Session S V GS GV → Record V GV
held_record x = x.audit.«record»

abbrev pub record_of : {S V : Type 0} {GS : server.Ghosts S V} {GV : field.Ghosts V} → Session S V GS GV → List Pivoted
record_of x = rec_of x.audit.«record»

abbrev pub issued_of : {S V : Type 0} {GS : server.Ghosts S V} {GV : field.Ghosts V} → Session S V GS GV → ℕ
issued_of x = x.issued

abbrev pub open_permit : {S V : Type 0} {GS : server.Ghosts S V} {GV : field.Ghosts V} → Session S V GS GV → Option ℕ
open_permit x = option_map (λ p. p.0) (opened x.audit)

abbrev pub open_row_of : {S V : Type 0} {GS : server.Ghosts S V} {GV : field.Ghosts V} → Session S V GS GV → Option (CheckedRow V GV)
open_row_of x = option_map (λ p. p.1) (opened x.audit)

pub record IsOpenRow {S V : Type 0} {GS : server.Ghosts S V} {GV : field.Ghosts V} (x : Session S V GS GV) (k : ℕ) (ws : List Element) : Type 0 where
  pub row : CheckedRow V GV
  pub is : opened x.audit ≡ Some (k, row)
  pub weights : row_of row ≡ weights_of ws
  pub members : row.count ≡ members_of x

-- the open row in memory, as the law has it
abbrev pub open_of : {V : Type 0} {GV : field.Ghosts V} → Option (ℕ × CheckedRow V GV) → Option states.OpenRow
open_of None = None
open_of (Some p) = Some (record { permit = p.0; row = row_of p.1 })

abbrev pub state_of : {S V : Type 0} {GS : server.Ghosts S V} {GV : field.Ghosts V} → Session S V GS GV → List Figured → State
state_of {GS = GS} x given = record { table = GS.table x.server; given = given; pending = open_of (opened x.audit); issued = x.issued }

pub record Holds {S V : Type 0} {GS : server.Ghosts S V} {GV : field.Ghosts V} (σ : State) (x : Session S V GS GV) : Type 0 where
  pub is : σ ≡ state_of x σ.given
  pub sound : Sound GV.model σ
  pub form : ReducedForm GV.model (length σ.table) σ.given (rec_of x.audit.«record»)

abbrev pub StandsForSome : {S V : Type 0} {GS : server.Ghosts S V} {GV : field.Ghosts V} → Session S V GS GV → Type 0
StandsForSome x = (σ : State) × Holds σ x

abbrev pub Follows : {S V : Type 0} {GS : server.Ghosts S V} {GV : field.Ghosts V} → Session S V GS GV → Event → Session S V GS GV → Type 0
Follows {GV = GV} x e x' = (σ : State) → Holds σ x → Due GV.model σ e × Holds (after σ e) x'

abbrev pub Leads : {S V : Type 0} {GS : server.Ghosts S V} {GV : field.Ghosts V} → Session S V GS GV → (State → List Event → Type 0) → Session S V GS GV → Type 0
Leads {GV = GV} x P x' =
    (σ : State) → Holds σ x → (es : List Event) × (τ : State) × Lawful GV.model σ es τ × P σ es × Holds τ x'

abbrev pub grant_event : List Element → Result ℕ Refusal → Event
grant_event ws (Ok k) = permitted ws k
grant_event ws (Err e) = refused (submits ws) e

abbrev pub submit_event : List Element → Result Permit Refusal → Event
submit_event ws (Ok p) = permitted ws p.number
submit_event ws (Err e) = refused (submits ws) e

abbrev pub answer_event : ℕ → Result Element Refusal → Event
answer_event k (Ok v) = answered k v.0
answer_event k (Err e) = refused (answers k) e

abbrev pub withdraw_event : {T : Type 0} → ℕ → Result T Refusal → Event
withdraw_event k (Ok x) = withdrew k
withdraw_event k (Err e) = refused (withdraws k) e

-- the buffer had l places before, and has the codes w after
abbrev pub witness_event : {T : Type 0} → ℕ → ℕ → ℕ → Result T Refusal → List ℕ → Event
witness_event i a l (Ok x) w = witnessed i a l w
witness_event i a l (Err e) w = refused (witnesses i a l) e
