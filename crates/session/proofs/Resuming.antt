-- A session that is resumed stands for the state after its log. Assumes nothing.
use Rattle.std.proofs.Common.{◌≡◌, ℕ, ◌≢◌, List, [], length, Some, None, Option, sym, ap₂, subst}
use Rattle.refusal.specs.declared.Refusal.{Refusal}
use Rattle.field.specs.declared.Field as field
use Rattle.server.specs.declared.Server as server
use Rattle.field.specs.Model.{FieldLaws}
use Rattle.server.specs.Tables.{Table}
use Rattle.echelon.specs.Rows.{Figured}
use Rattle.echelon.specs.Reduced.{ReducedForm}
use Rattle.echelon.proofs.Unique.{one_form}
use Rattle.record.specs.Records.{rec_of}
use Rattle.record.specs.Audits.{opened}
use Rattle.law.specs.States.{log_state}
use Rattle.log_record.specs.Joins.{LogRecord, log_bytes}
use Rattle.log_record.proofs.Answered.{answered_is_accepted_lem}
use Rattle.log_record.proofs.Once.{some_none, one_answer}
use Rattle.log_record.proofs.Sound.{log_is_sound_lem}
use Rattle.log_record.proofs.Verdicts.{empty_form}
use Rattle.session.specs.States.{open_of, Holds}
use Rattle.session.specs.Resumes.{issued_after_log, Resumes, Own}
use Rattle.session.specs.declared.session.Session.{Session}

module _ {S V : Type 0} {GS : server.Ghosts S V} {GV : field.Ghosts V} (L : FieldLaws GV.model) (x : Session S V GS GV) (none_open : opened x.audit ≡ None)
    (table : Table GV.model (GS.table x.server)) where
  pub resumed_state :
      (bs : List ℕ) (r : Option Refusal) (given : List Figured) → LogRecord GV.model (length (GS.table x.server)) bs r given
      → ReducedForm GV.model (length (GS.table x.server)) given (rec_of x.audit.«record») → (r ≢ None → rec_of x.audit.«record» ≡ [])
      → x.issued ≡ issued_after_log r → Holds (log_state (GS.table x.server) r given) x
  resumed_state bs None given log form empty issued = record {
    is = ap₂ (λ o k. record { table = GS.table x.server; given = given; pending = open_of o; issued = k }) (sym none_open) (sym issued);
    sound = log_is_sound_lem GV.model L (GS.table x.server) table bs None given log;
    form = form;
  }
  resumed_state bs (Some e) given log form empty issued = record {
    is = ap₂ (λ o k. record { table = GS.table x.server; given = []; pending = open_of o; issued = k }) (sym none_open) (sym issued);
    sound = log_is_sound_lem GV.model L (GS.table x.server) table bs (Some e) given log;
    form = subst (ReducedForm GV.model (length (GS.table x.server)) []) (sym (empty (some_none e))) (empty_form GV.model (length (GS.table x.server)));
  }

  -- a log of what a new session answered
  pub own_log : (bs : List ℕ) (r : Option Refusal) → Resumes x bs r → Own x bs r
  own_log bs r (given, log, holds) T known same τ es run is =
      let n = length (GS.table x.server) in
      let accepted : LogRecord GV.model n bs None τ.given =
      subst (λ (us : List ℕ). LogRecord GV.model n us None τ.given) (sym is)
      (subst (λ (k : ℕ). LogRecord GV.model k (log_bytes GV.model k τ.given) None τ.given) same (answered_is_accepted_lem GV.model L T known τ es run)) in
      let (fine, equal) = one_answer GV.model L n bs r None given τ.given log accepted in
      let here : Holds (log_state (GS.table x.server) None τ.given) x =
      subst (λ (all : List Figured). Holds (log_state (GS.table x.server) None all) x) equal
      (subst (λ (o : Option Refusal). Holds (log_state (GS.table x.server) o given) x) fine holds) in
      (fine, here, λ rec form. one_form GV.model L n τ.given (rec_of x.audit.«record») rec here.form form)
