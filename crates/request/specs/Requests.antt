-- What a line of query text asks of a session, and what it is told.
--   fault_refusal            the refusal that a fault counts as
--   row n w                  the row of n weights that a line names
--   Asked ws a es            where the row ws is submitted and answered, the events are es, and the line is told a
--   Tried ws a es            where it is submitted and withdrawn
--   Served n q a es          the same for a request
--   Handled M n line a es    the same for a line; a remark is told nothing
-- That the events are due is said of each run of them, by the law. Assumes nothing.
use Rattle.std.specs.Prelude.{◌≡◌, ℕ, List, [], ◌∷◌, take, Some, None, Ok, Err, Option}
use Rattle.refusal.specs.declared.Refusal.{Refusal}
use Rattle.refusal.specs.declared.Member.{Member}
use Rattle.field.specs.Model.{FieldModel}
use Rattle.field.specs.declared.Element.{Element}
use Rattle.law.specs.States.{Event, submits, witnesses, refused, permitted, answered, withdrew, witnessed}
use Rattle.query.specs.declared.items.Weights.{Weights}
use Rattle.query.specs.declared.faults.LineFault.{LineFault}
use Rattle.query.specs.declared.lines.Request.{Request}
use Rattle.query.specs.declared.lines.Request.TheVariants.{Ask, Try, Witness, Remark}
use Rattle.query.specs.Lines.{limits, reading}
use Rattle.query.specs.Refusals.{line_refusal}
use Rattle.answer_text.specs.AnswerLines as line
use Rattle.answer_text.specs.AnswerLines.{Told, figure, granted, table}
use Rattle.request.specs.declared.faults.RequestFault.{RequestFault}
use Rattle.request.specs.declared.faults.RequestFault.TheVariants as fault

abbrev pub fault_refusal : RequestFault → Refusal
fault_refusal (fault.Line f) = line_refusal f
fault_refusal (fault.Call e) = e

abbrev pub row : ℕ → Weights → List Element
row n w = take n w.0

pub data Asked (ws : List Element) : Told → List Event → Type 0 where
  ask_refused : (e : Refusal) → Asked ws (line.refused e) (refused (submits ws) e ∷ [])
  ask_answered : (k v : ℕ) → Asked ws (figure v) (permitted ws k ∷ answered k v ∷ [])

pub data Tried (ws : List Element) : Told → List Event → Type 0 where
  try_refused : (e : Refusal) → Tried ws (line.refused e) (refused (submits ws) e ∷ [])
  try_granted : (k : ℕ) → Tried ws granted (permitted ws k ∷ withdrew k ∷ [])

pub data Served (n : ℕ) : Request → Told → List Event → Type 0 where
  ask : (w : Weights) (a : Told) (es : List Event) → Asked (row n w) a es → Served n (Ask w) a es
  try : (w : Weights) (a : Told) (es : List Event) → Tried (row n w) a es → Served n (Try w) a es
  witness_refused : (i : Member) (a : Element) (e : Refusal) → Served n (Witness i a) (line.refused e) (refused (witnesses i.0 a.0 n) e ∷ [])
  witness_filled : (i : Member) (a : Element) (w : List ℕ) → Served n (Witness i a) (table w) (witnessed i.0 a.0 n w ∷ [])

pub data Handled (M : FieldModel) (n : ℕ) (bytes : List ℕ) : Option Told → List Event → Type 0 where
  remark : reading (limits M n) bytes ≡ Ok Remark → Handled M n bytes None []
  faulty : (f : LineFault) → reading (limits M n) bytes ≡ Err f → Handled M n bytes (Some (line.refused (line_refusal f))) []
  served :
      (q : Request) (a : Told) (es : List Event) → reading (limits M n) bytes ≡ Ok q → Served n q a es
      → Handled M n bytes (Some a) es
