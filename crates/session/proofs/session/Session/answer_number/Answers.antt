use Rattle.std.proofs.Common.{◌≡◌, ℕ, true, List, length, is_ok, arith, sym, refl, ap, ◌∙◌, subst}
use Rattle.std.proofs.lemmas.Result.{err_from_is_err_and}
use Rattle.field.specs.Sums.{Vector, sum, weights_of}
use Rattle.field.specs.declared.Element.{Element}
use Rattle.server.specs.Tables.{value_at}
use Rattle.echelon.specs.Rows.{row_with}
use Rattle.checks.specs.CheckedRows.{row_of}
use Rattle.record.specs.Judged.{Adds}
use Rattle.record.specs.Records.{rec_of}
use Rattle.record.specs.Audits.{opened, Answered}
use Rattle.law.specs.States.{with_figure}
use Rattle.session.specs.States.{open_of}
use Rattle.session.proofs.Rows.{answered_ok, listed_is, closed_so}
use Rattle.session.proofs.Followed.{answer_refused, answered_with}
use Rattle.session.proofs.session.Session.answer_number.Goals as goal
use Rattle.session.proofs.session.Session.answer_number.Goals.{After-answer}

pub returns-in_err-row : goal.returns-in_err-row
returns-in_err-row g c =
    let x = c.args.self.now in
    let p = err_from_is_err_and c.from_residual.result c.from_residual.ensures.1 in
    let at = c.in_err-row.ensures in
    rw (p.1, p.2, at.refused)
    (record {
      server = refl;
      issued = refl;
      refused = refl;
      not_open = at.not_open;
      law = answer_refused g.met.S.Over.Field.laws x c.args.number at.not_open;
    })

-- the open row joins with its figure, or is fixed already
went_in :
    (g : _) (c : After-answer g)
    → (is_ok c.answer.result ≡ true)
    × Adds g.S.Over.Field.model (length (g.S.Server.table c.args.self.now.server)) (rec_of c.args.self.now.audit.«record»)
    (row_with (row_of c.in_ok-row.row) c.row_sum-figure.result.0) (rec_of c.answer.new.self.«record»)
went_in g c =
    let M = g.S.Over.Field.model in
    let x = c.args.self.now in
    let rec = rec_of c.answer.new.self.«record» in
    let answered : Answered M x.audit.«record».count (rec_of x.audit.«record») (opened x.audit) c.row_sum-figure.result.0 rec c.answer.result =
    search (c.answer.ensures.answered) in
    let (fine, adds) = answered_ok M _ _ _ _ _ _ answered (c.args.number, c.in_ok-row.row) c.in_ok-row.ensures.row c.row_sum-figure.ensures.within in
    (fine, subst (λ (n : ℕ). Adds M n (rec_of x.audit.«record») (row_with (row_of c.in_ok-row.row) c.row_sum-figure.result.0) (rec_of c.answer.new.self.«record»)) x.counted adds)

pub unwrap-requires : goal.unwrap-requires
unwrap-requires g c = (went_in g (goal.at.unwrap-requires g c).After-answer).0

pub returns-clause-law : goal.returns-clause-law
returns-clause-law g c =
    let M = g.S.Over.Field.model in
    let x = c.args.self.now in
    let T = g.S.Server.table x.server in
    let row = c.in_ok-row.row in
    let here = (goal.at.returns-clause-law g c).After-answer in
    let done = went_in g here in
    let asked : c.row_sum-figure.result.0 ≡ sum M (length T) (weights_of c.weights.result.now) (value_at T) = search (c.row_sum-figure.ensures.is) in
    let figure : c.row_sum-figure.result.0 ≡ sum M (length T) (row_of row) (value_at T) =
    asked ∙ ap (λ (ws : List Element). sum M (length T) (weights_of ws) (value_at T)) c.weights.ensures.list
    ∙ ap (λ (w : Vector). sum M (length T) w (value_at T)) (listed_is row) in
    answered_with g.met.S.Over.Field.laws x c.args.number _ c.row_sum-figure.result.0 (omega arith) (c.args.number, row) _
    c.in_ok-row.ensures.row refl figure done.1
    (λ given. ap (λ o. record {
      table = T;
      given = with_figure (open_of (opened x.audit)) c.row_sum-figure.result.0 given;
      pending = open_of o;
      issued = x.issued;
    }) (sym (closed_so c.answer.result _ done.0 c.answer.ensures.closed)))
