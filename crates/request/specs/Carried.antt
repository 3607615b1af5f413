-- A line carried out on a session in memory.
--   asked_told, tried_told r  what a line is told that asks for a row, and that tries one
--   IsThatRow r ws n         the checked row r has the weights ws, over n members
--   asked_rows r             the row that was answered, with its figure
--   AsksRow, TriesRow x ws r x'   the row ws is asked for, or tried, in any state that x stands for, by the law; r is what comes of it
--   MakesWitness x i a r     a witness call with a buffer of the table's length has the answer r, by the law
--   outcome_told n r         what a line is told: the last answer to its calls, or the refusal of its text; nothing by a remark
--   outcome_rows r           the row that was answered, with its figure
--   CarriedOut x bytes r x'  the line's calls, made in any state that x stands for, are lawful and end in a state that x' stands
--                            for; the line is told what r says
--   ReadAs M n bytes r       what the text of the line was read as
-- Assumes nothing.
use Rattle.std.specs.Prelude.{◌≡◌, ℕ, ◌≤◌, List, [], ◌∷◌, length, take, Some, None, Ok, Err, Option, Result}
use Rattle.refusal.specs.declared.Member.{Member}
use Rattle.refusal.specs.declared.Refusal.{Refusal}
use Rattle.field.specs.declared.Field as field
use Rattle.server.specs.declared.Server as server
use Rattle.field.specs.Model.{FieldModel}
use Rattle.field.specs.Sums.{weights_of}
use Rattle.field.specs.declared.Element.{Element}
use Rattle.server.specs.Tables.{codes}
use Rattle.echelon.specs.Rows.{Figured, row_with}
use Rattle.checks.specs.declared.row.CheckedRow.{CheckedRow}
use Rattle.checks.specs.CheckedRows.{row_of}
use Rattle.law.specs.States as law
use Rattle.law.specs.States.{Event, witnesses, witnessed, answered_by}
use Rattle.session.specs.States.{members_of, Follows, Leads}
use Rattle.session.specs.declared.session.Session.{Session}
use Rattle.query.specs.declared.items.Weights.{Weights}
use Rattle.query.specs.declared.lines.Request.{Request}
use Rattle.query.specs.declared.lines.Request.TheVariants.{Ask, Try, Witness, Remark}
use Rattle.query.specs.Lines.{limits, reading}
use Rattle.answer_text.specs.AnswerLines.{Told, figure, granted, table, refused}
use Rattle.request.specs.declared.faults.RequestFault.{RequestFault}
use Rattle.request.specs.declared.faults.RequestFault.TheVariants.{Line, Call}
use Rattle.request.specs.declared.outcome.Outcome.{Outcome}
use Rattle.request.specs.declared.outcome.Outcome.TheVariants.{Skipped, Answered, Granted, Filled}
use Rattle.request.specs.Requests.{fault_refusal, row, Asked, Tried, Handled}

-- the checked row r has the weights ws, over n members
pub record IsThatRow {V : Type 0} {GV : field.Ghosts V} (r : CheckedRow V GV) (ws : List Element) (n : ℕ) : Type 0 where
  pub weights : row_of r ≡ weights_of ws
  pub members : r.count ≡ n

abbrev pub asked_told : {V : Type 0} {GV : field.Ghosts V} → Result (CheckedRow V GV × Element) Refusal → Told
asked_told (Ok a) = figure a.1.0
asked_told (Err e) = refused e

abbrev pub asked_rows : {V : Type 0} {GV : field.Ghosts V} → Result (CheckedRow V GV × Element) Refusal → List Figured
asked_rows (Ok a) = row_with (row_of a.0) a.1.0 ∷ []
asked_rows (Err e) = []

abbrev pub AsksRow : {S V : Type 0} {GS : server.Ghosts S V} {GV : field.Ghosts V} → Session S V GS GV → List Element → Result (CheckedRow V GV × Element) Refusal → Session S V GS GV → Type 0
AsksRow x ws r x' = Leads x (λ σ es. Asked ws (asked_told r) es × (answered_by σ es ≡ asked_rows r)) x'

abbrev pub tried_told : {T : Type 0} → Result T Refusal → Told
tried_told (Ok x) = granted
tried_told (Err e) = refused e

abbrev pub TriesRow : {S V T : Type 0} {GS : server.Ghosts S V} {GV : field.Ghosts V} → Session S V GS GV → List Element → Result T Refusal → Session S V GS GV → Type 0
TriesRow x ws r x' = Leads x (λ σ es. Tried ws (tried_told r) es × (answered_by σ es ≡ [])) x'

abbrev pub table_event : ℕ → ℕ → ℕ → Result (List Element) Refusal → Event
table_event n i a (Ok t) = witnessed i a n (codes (take n t))
table_event n i a (Err e) = law.refused (witnesses i a n) e

abbrev pub MakesWitness : {S V : Type 0} {GS : server.Ghosts S V} {GV : field.Ghosts V} → Session S V GS GV → ℕ → ℕ → Result (List Element) Refusal → Type 0
MakesWitness x i a r = Follows x (table_event (members_of x) i a r) x

abbrev pub outcome_told : {V : Type 0} {GV : field.Ghosts V} → ℕ → Result (Outcome V GV) RequestFault → Option Told
outcome_told n (Ok Skipped) = None
outcome_told n (Ok (Answered r v)) = Some (figure v.0)
outcome_told n (Ok Granted) = Some granted
outcome_told n (Ok (Filled t)) = Some (table (codes (take n t)))
outcome_told n (Err f) = Some (refused (fault_refusal f))

abbrev pub outcome_rows : {V : Type 0} {GV : field.Ghosts V} → Result (Outcome V GV) RequestFault → List Figured
outcome_rows (Ok (Answered r v)) = row_with (row_of r) v.0 ∷ []
outcome_rows _ = []

abbrev pub CarriedOut : {S V : Type 0} {GS : server.Ghosts S V} {GV : field.Ghosts V} → Session S V GS GV → List ℕ → Result (Outcome V GV) RequestFault → Session S V GS GV → Type 0
CarriedOut {GV = GV} x bytes r x' =
    Leads x
    (λ σ es.
    Handled GV.model (length σ.table) bytes (outcome_told (members_of x) r) es × (answered_by σ es ≡ outcome_rows r))
    x'

-- what the text of the line was read as; a table is 0 from the count on
abbrev pub ReadAs : {V : Type 0} {GV : field.Ghosts V} → FieldModel → ℕ → List ℕ → Result (Outcome V GV) RequestFault → Type 0
ReadAs M n bytes (Ok Skipped) = reading (limits M n) bytes ≡ Ok Remark
ReadAs M n bytes (Ok (Answered r v)) = (w : Weights) × (reading (limits M n) bytes ≡ Ok (Ask w)) × IsThatRow r (row n w) n
ReadAs M n bytes (Ok Granted) = (w : Weights) × (reading (limits M n) bytes ≡ Ok (Try w))
ReadAs M n bytes (Ok (Filled t)) =
    ((i : Member) × (a : Element) × (reading (limits M n) bytes ≡ Ok (Witness i a))) × ((m : ℕ) → n ≤ m → weights_of t m ≡ 0)
ReadAs M n bytes (Err (Line f)) = reading (limits M n) bytes ≡ Err f
ReadAs M n bytes (Err (Call e)) = (q : Request) × (reading (limits M n) bytes ≡ Ok q)
