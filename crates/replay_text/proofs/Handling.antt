-- A line carried out on a session: what it is told is short, and the row that it has answered can be logged. Assumes nothing.
use Rattle.std.proofs.Common.{◌≡◌, ℕ, ◌≤◌, List, length, Ok, Err, Result, IfSome, sym, refl, ap, ap₂, ◌∙◌, subst, arith}
use Rattle.std.specs.List.{AllByRecursion}
use Rattle.field.specs.declared.Field as field
use Rattle.server.specs.declared.Server as server
use Rattle.field.specs.Model.{FieldLaws}
use Rattle.buffer.specs.Buffers.{Put}
use Rattle.law.specs.States.{Event, answered_by}
use Rattle.session.specs.States.{StandsForSome, members_of}
use Rattle.session.specs.declared.session.Session.{Session}
use Rattle.log_record.specs.Joins.{rows_bytes}
use Rattle.answer_text.specs.AnswerLines.{Short}
use Rattle.request.specs.Requests.{Handled}
use Rattle.checks.specs.CheckedRows.{row_of}
use Rattle.answer_log.specs.Rows.{row_bytes}
use Rattle.answer_log.specs.Writes.{accepted}
use Rattle.request.specs.Carried.{outcome_told, outcome_rows, CarriedOut, ReadAs}
use Rattle.request.specs.declared.faults.RequestFault.{RequestFault}
use Rattle.request.specs.declared.outcome.Outcome.{Outcome}
use Rattle.request.specs.declared.outcome.Outcome.TheVariants.{Skipped, Answered, Granted, Filled}
use Rattle.replay_text.specs.declared.lines.Used.{Used}
use Rattle.replay_text.specs.Replays.{printed}
use Rattle.replay_text.specs.Handling.{Loggable, logged_bytes, LineDone}
use Rattle.replay_text.proofs.Brief.{Fine, each_fine, handled_brief, handled_code}
use Rattle.replay_text.proofs.Rooms.{row_fits}

-- what was answered can be logged
loggable_so :
    {V : Type 0} {GV : field.Ghosts V} (L : FieldLaws GV.model) (n : ℕ) (line : List ℕ) (es : List Event) (r : Result (Outcome V GV) RequestFault)
    → Handled GV.model n line (outcome_told n r) es → AllByRecursion (Fine GV.model n) es → (room : ℕ) → 139 ≤ room → Loggable GV.model room r
loggable_so {GV = GV} L n line es (Ok (Answered w v)) handled fine room wide =
    let fits = row_fits GV.model (row_of w) w.count v.0 w.members.1 in
    accepted (handled_code GV.model L n line _ es v.0 handled refl fine) (omega arith)
loggable_so L n line es (Ok Skipped) handled fine room wide = tt
loggable_so L n line es (Ok Granted) handled fine room wide = tt
loggable_so L n line es (Ok (Filled t)) handled fine room wide = tt
loggable_so L n line es (Err f) handled fine room wide = tt

-- the bytes of the rows answered are those of the row that was logged
bytes_so :
    {V : Type 0} {GV : field.Ghosts V} (n : ℕ) (line : List ℕ) (r : Result (Outcome V GV) RequestFault) → ReadAs GV.model n line r
    → logged_bytes GV.model r ≡ rows_bytes GV.model n (outcome_rows r)
bytes_so {GV = GV} n line (Ok (Answered w v)) read = ap (λ k. row_bytes GV.model k (row_of w) v.0) read.2.members
bytes_so n line (Ok Skipped) read = refl
bytes_so n line (Ok Granted) read = refl
bytes_so n line (Ok (Filled t)) read = refl
bytes_so n line (Err f) read = refl

module _ {S V : Type 0} {GS : server.Ghosts S V} {GV : field.Ghosts V} (x x' : Session S V GS GV) (line : List ℕ) (came : Result (Outcome V GV) RequestFault)
    (carried : CarriedOut x line came x') where
  -- in any one state that the session stands for
  module _ (L : FieldLaws GV.model) (stands : StandsForSome x) where
    pub told_short : IfSome (outcome_told (members_of x) came) Short
    told_short =
        let (σ, H) = stands in
        let (es, τ, run, (handled, rows), last) = carried σ H in
        handled_brief GV.model L (length σ.table) line _ es handled (each_fine L _ refl H.sound run)

    pub row_loggable : (room : ℕ) → 139 ≤ room → Loggable GV.model room came
    row_loggable =
        let (σ, H) = stands in
        let (es, τ, run, (handled, rows), last) = carried σ H in
        let size : length σ.table ≡ members_of x = ap (λ s. length s.table) H.is in
        loggable_so L (members_of x) line es came
        (subst (λ (n : ℕ). Handled GV.model n line (outcome_told (members_of x) came) es) size handled) (each_fine L _ size H.sound run)

  pub line_done :
      ReadAs GV.model (members_of x) line came → (k : ℕ) (answers log answers' log' : List ℕ) (used : Used)
      → Put (printed k (outcome_told (members_of x) came)) answers answers' used.answers → Put (logged_bytes GV.model came) log log' used.log
      → LineDone x k line answers log x' answers' log' used
  line_done read k answers log answers' log' used prints logs σ H =
      let (es, τ, run, (handled, rows), last) = carried σ H in
      let size : members_of x ≡ length σ.table = sym (ap (λ s. length s.table) H.is) in
      let here : logged_bytes GV.model came ≡ rows_bytes GV.model (length σ.table) (answered_by σ es) =
      bytes_so (members_of x) line came read ∙ ap₂ (rows_bytes GV.model) size (sym rows) in
      (es, τ, run, (outcome_told (members_of x) came, handled, prints, subst (λ (bs : List ℕ). Put bs log log' used.log) here logs), last)
