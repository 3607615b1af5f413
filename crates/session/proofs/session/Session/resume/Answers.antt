-- Answers for `resume`: the session stands for the state after the log.
use Rattle.std.proofs.Common.{◌≡◌, ℕ, ◌≢◌, List, [], length, None, sym, ap, ◌∙◌, subst}
use Rattle.echelon.specs.Rows.{Figured}
use Rattle.echelon.specs.Reduced.{ReducedForm}
use Rattle.record.specs.Records.{rec_of}
use Rattle.log_record.specs.Joins.{LogRecord}
use Rattle.log_record.proofs.Possible.{possible_after_a_log_lem}
use Rattle.log_record.proofs.Written.{accepted_is_written_lem}
use Rattle.session.proofs.Resuming.{resumed_state, own_log}
use Rattle.session.proofs.session.Session.resume.Goals as goal
use Rattle.session.proofs.session.Session.resume.Goals.{After-new}

-- the log's answer, its rows, and the record as their reduced form
read_so :
    (g : _) (c : After-new g)
    → (given : List Figured) × LogRecord g.S.Over.Field.model (length (g.S.Server.table c.args.server)) c.args.log.now c.read_record-record.result.refusal given
    × ReducedForm g.S.Over.Field.model (length (g.S.Server.table c.args.server)) given (rec_of c.new.result.«record»)
read_so g c =
    let M = g.S.Over.Field.model in
    let read = c.read_record-record.result in
    let (given, log, form) =
    subst (λ (n : ℕ). (given : List Figured) × LogRecord M n c.args.log.now read.refusal given × ReducedForm M n given (rec_of read.record))
    c.count-count.ensures.is c.read_record-record.ensures.log
    in
    (given, log, subst (ReducedForm M (length (g.S.Server.table c.args.server)) given) (sym (ap rec_of c.new.ensures.«record»)) form)

emptied : (g : _) (c : After-new g) → c.read_record-record.result.refusal ≢ None → rec_of c.new.result.«record» ≡ []
emptied g c refused = ap rec_of c.new.ensures.«record» ∙ c.read_record-record.ensures.empty refused

pub returns-clause-resumes : goal.returns-clause-resumes
returns-clause-resumes g c =
    let here = (goal.at.returns-clause-resumes g c).After-new in
    let (given, log, form) = read_so g here in (
      given,
      log,
      resumed_state g.met.S.Over.Field.laws _ c.new.ensures.none c.count-count.ensures.lawful c.args.log.now c.read_record-record.result.refusal given log form
          (emptied g here) c.issued_after.ensures,
    )

pub returns-clause-empty : goal.returns-clause-empty
returns-clause-empty g c = emptied g (goal.at.returns-clause-empty g c).After-new

pub returns-clause-written : goal.returns-clause-written
returns-clause-written g c given log =
    accepted_is_written_lem g.S.Over.Field.model (length (g.S.Server.table c.args.server)) c.args.log.now (λ i. (c.type_inv.log i).fits) given log

pub returns-clause-own : goal.returns-clause-own
returns-clause-own g c =
    let here = (goal.at.returns-clause-own g c).After-new in
    let (given, log, form) = read_so g here in
    own_log g.met.S.Over.Field.laws _ c.new.ensures.none c.count-count.ensures.lawful c.args.log.now c.read_record-record.result.refusal (
      given,
      log,
      resumed_state g.met.S.Over.Field.laws _ c.new.ensures.none c.count-count.ensures.lawful c.args.log.now c.read_record-record.result.refusal given log form
          (emptied g here) c.issued_after.ensures,
    )

pub returns-clause-possible : goal.returns-clause-possible
returns-clause-possible g c = possible_after_a_log_lem
