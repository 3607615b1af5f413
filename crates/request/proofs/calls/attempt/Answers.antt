use Rattle.std.proofs.Common.{Result, subst}
use Rattle.std.proofs.lemmas.Result.{err_from_is_err_and}
use Rattle.refusal.specs.declared.Refusal.{Refusal}
use Rattle.law.specs.States.{withdrew}
use Rattle.session.specs.States.{Follows, withdraw_event}
use Rattle.request.proofs.Made.{open_number, not_refused, try_refused_so, try_granted_so}
use Rattle.request.proofs.calls.attempt.Goals as goal

pub returns-in_err-permit : goal.returns-in_err-permit
returns-in_err-permit g c =
    let at = c.in_err-permit.ensures in
    let p = err_from_is_err_and c.from_residual.result c.from_residual.ensures.1 in
    rw (p.1, p.2)
    (record {
      server = at.server;
      refused = at.refused;
      law = try_refused_so c.args.session.now c.submit.new.self c.args.row.now (Unit {0}) c.in_err-permit.field-0.0 at.law;
    })

pub unwrap-requires : goal.unwrap-requires
unwrap-requires g c = not_refused c.withdraw.result _ _ c.withdraw.ensures.not_open (open_number c.submit.new.self _ c.args.row.now c.in_ok-permit.ensures.opens)

pub returns-clause-law : goal.returns-clause-law
returns-clause-law g c =
    let k = c.in_ok-permit.permit.number in
    let step : Follows c.submit.new.self (withdrew k) c.withdraw.new.self =
    subst (λ (r : Result (Unit {0}) Refusal). Follows c.submit.new.self (withdraw_event k r) c.withdraw.new.self) c.unwrap.ensures c.withdraw.ensures.law in
    try_granted_so c.args.session.now c.submit.new.self c.args.row.now k c.in_ok-permit.ensures.law c.withdraw.new.self (tt {0}) step
