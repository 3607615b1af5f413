use Rattle.std.proofs.Common.{Result, is_some, sym, ap, ◌∙◌, subst, arith}
use Rattle.std.proofs.lemmas.Result.{err_from_is_err_and}
use Rattle.refusal.specs.declared.Refusal.{Refusal}
use Rattle.field.specs.declared.Element.{Element}
use Rattle.law.specs.States.{answered}
use Rattle.session.specs.States.{members_of, Follows, answer_event}
use Rattle.request.specs.Carried.{IsThatRow}
use Rattle.request.proofs.Made.{open_number, not_refused, ask_refused_so, opened_some, opened_row, ask_answered_so}
use Rattle.request.proofs.calls.ask.Goals as goal
use Rattle.request.proofs.calls.ask.Goals.{After-unwrap-asked}

pub returns-in_err-permit : goal.returns-in_err-permit
returns-in_err-permit g c =
    let at = c.in_err-permit.ensures in
    let p = err_from_is_err_and c.from_residual.result c.from_residual.ensures.1 in
    rw (p.1, p.2)
    (record {
      server = at.server;
      refused = at.refused;
      row = tt;
      law = ask_refused_so c.args.session.now c.submit.new.self c.args.row.now c.in_err-permit.field-0.0 at.law;
    })

pub unwrap-asked-requires : goal.unwrap-asked-requires
unwrap-asked-requires g c =
    ap is_some c.opened.ensures ∙ opened_some c.args.session.now c.submit.new.self c.args.row.now c.in_ok-permit.permit.number c.in_ok-permit.ensures.opens

-- the row that was open is the one that was submitted
that_row : (g : _) (c : After-unwrap-asked g) → IsThatRow c.unwrap-asked.result c.args.row.now (members_of c.args.session.now)
that_row g c =
    opened_row c.args.session.now c.submit.new.self c.args.row.now c.in_ok-permit.permit.number c.in_ok-permit.ensures.opens c.unwrap-asked.result
    (sym c.opened.ensures ∙ c.unwrap-asked.ensures) c.in_ok-permit.ensures.server

pub unwrap-figure-requires : goal.unwrap-figure-requires
unwrap-figure-requires g c =
    not_refused c.answer.result _ _ c.answer.ensures.not_open (open_number c.submit.new.self _ c.args.row.now c.in_ok-permit.ensures.opens)

pub returns-clause-row : goal.returns-clause-row
returns-clause-row g c = that_row g (goal.at.returns-clause-row g c).After-unwrap-asked

pub returns-clause-law : goal.returns-clause-law
returns-clause-law g c =
    let k = c.in_ok-permit.permit.number in
    let v = c.unwrap-figure.result in
    let step : Follows c.submit.new.self (answered k v.0) c.answer.new.self =
    subst (λ (r : Result Element Refusal). Follows c.submit.new.self (answer_event k r) c.answer.new.self) c.unwrap-figure.ensures c.answer.ensures.law in
    ask_answered_so c.args.session.now c.submit.new.self c.args.row.now k c.in_ok-permit.ensures.law c.answer.new.self c.unwrap-asked.result
    (that_row g (goal.at.returns-clause-law g c).After-unwrap-asked).weights _ v (omega arith) step
