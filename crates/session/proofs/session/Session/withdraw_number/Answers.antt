use Rattle.std.proofs.Common.{◌≡◌, ◌≢◌, Some, sym, refl, ap}
use Rattle.std.proofs.lemmas.Result.{err_from_is_err_and}
use Rattle.record.specs.Audits.{opened}
use Rattle.session.specs.States.{open_of, open_permit}
use Rattle.session.proofs.Followed.{withdrawal_refused, withdrawn}
use Rattle.session.proofs.session.Session.withdraw_number.Goals as goal

pub returns-in_err-open_row : goal.returns-in_err-open_row
returns-in_err-open_row g c =
    let x = c.args.self.now in
    let p = err_from_is_err_and c.from_residual.result c.from_residual.ensures.1 in
    let at = c.in_err-open_row.ensures in
    let not_open : open_permit x ≢ Some c.args.number = search (at.not_open) in
    rw (p.1, p.2, at.refused)
    (record {
      server = refl;
      «record» = refl;
      rows = refl;
      issued = refl;
      refused = refl;
      not_open = not_open;
      law = withdrawal_refused g.met.S.Over.Field.laws x c.args.number not_open;
    })

pub returns-clause-law : goal.returns-clause-law
returns-clause-law g c =
    let x = c.args.self.now in
    let is : opened x.audit ≡ Some (c.args.number, c.in_ok-open_row.field-0) = search (c.in_ok-open_row.ensures.row) in
    withdrawn g.met.S.Over.Field.laws x c.args.number _ _ is refl
    (λ given. ap (λ o. record { table = g.S.Server.table x.server; given = given; pending = open_of o; issued = x.issued }) (sym c.close.ensures.none))
    c.close.ensures.«record»
