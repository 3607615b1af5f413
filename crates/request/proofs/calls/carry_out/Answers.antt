use Rattle.std.proofs.Common.{◌≡◌, ℕ, take, Ok, Err, sym, refl, ap, ◌∙◌, subst, arith}
use Rattle.std.proofs.lemmas.Result.{err_from_is_err_and}
use Rattle.session.specs.States.{members_of}
use Rattle.query.specs.Lines.{limits, reading}
use Rattle.request.specs.Carried.{IsThatRow, AsksRow, TriesRow, MakesWitness}
use Rattle.request.proofs.Lines.{read_as, remark-line, faulty-line, asked-line, ask_refused-line, tried-line, try_refused-line, witness-line, witness_refused-line}
use Rattle.request.proofs.calls.carry_out.Goals as goal

pub returns-in_err-weights : goal.returns-in_err-weights
returns-in_err-weights g c =
    let M = g.S.Over.Field.model in
    let x = c.args.session.now in
    let line = c.args.line.now in
    let is : reading (limits M (members_of x)) line ≡ Err c.in_err-weights.field-0.0 =
    ap (λ n. reading (limits M n) line) (sym c.count-n.ensures.members) ∙ sym c.in_err-weights.ensures.is in
    let p = err_from_is_err_and c.from_residual.result c.from_residual.ensures.1 in
    rw (p.1, p.2) (record { server = refl; refused = refl; read = is; law = faulty-line x x line _ is })

pub returns-in-Remark : goal.returns-in-Remark
returns-in-Remark g c =
    let x = c.args.session.now in
    let line = c.args.line.now in
    let is = read_as g.S.Over.Field.model line c.count-n.ensures.members c.in_ok-weights.ensures.is c.in-Remark.is in
    record { server = refl; refused = tt; read = is; law = remark-line x x line is }

pub returns-in_err-row-in-Ask : goal.returns-in_err-row-in-Ask
returns-in_err-row-in-Ask g c =
    let x = c.args.session.now in
    let x' = c.ask.new.session in
    let line = c.args.line.now in
    let w = c.in-Ask.weights in
    let e = c.in_err-row-in-Ask.field-0.0 in
    let is = read_as g.S.Over.Field.model line c.count-n.ensures.members c.in_ok-weights.ensures.is c.in-Ask.is in
    let size : c.count-n.result ≡ members_of x = omega (arith, c.count-n.ensures.members) in
    let at = c.in_err-row-in-Ask.ensures in
    let asked : AsksRow x (take c.count-n.result w.0) (Err e) x' = search (at.law) in
    let leads = subst (λ (k : ℕ). AsksRow x (take k w.0) (Err e) x') size asked in
    let p = err_from_is_err_and c.from_residual-in_err-row-in-Ask.result c.from_residual-in_err-row-in-Ask.ensures.1 in
    rw (p.1, p.2) (record { server = at.server; refused = at.refused; read = (_, is); law = ask_refused-line x x' line w e is leads })

pub returns-in_ok-row-in-Ask : goal.returns-in_ok-row-in-Ask
returns-in_ok-row-in-Ask g c =
    let x = c.args.session.now in
    let x' = c.ask.new.session in
    let line = c.args.line.now in
    let w = c.in-Ask.weights in
    let r = c.in_ok-row-in-Ask.row in
    let v = c.in_ok-row-in-Ask.figure in
    let is = read_as g.S.Over.Field.model line c.count-n.ensures.members c.in_ok-weights.ensures.is c.in-Ask.is in
    let size : c.count-n.result ≡ members_of x = omega (arith, c.count-n.ensures.members) in
    let at = c.in_ok-row-in-Ask.ensures in
    let asked : AsksRow x (take c.count-n.result w.0) (Ok (r, v)) x' = search (at.law) in
    let leads = subst (λ (k : ℕ). AsksRow x (take k w.0) (Ok (r, v)) x') size asked in
    let that : IsThatRow r (take c.count-n.result w.0) (members_of x) = search (at.row) in
    record {
      server = at.server;
      refused = tt;
      read = (w, is, subst (λ (k : ℕ). IsThatRow r (take k w.0) (members_of x)) size that);
      law = asked-line x x' line w r v is leads;
    }

pub returns-in_err-attempt-in-Try : goal.returns-in_err-attempt-in-Try
returns-in_err-attempt-in-Try g c =
    let x = c.args.session.now in
    let x' = c.attempt.new.session in
    let line = c.args.line.now in
    let w = c.in-Try.weights in
    let e = c.in_err-attempt-in-Try.field-0.0 in
    let is = read_as g.S.Over.Field.model line c.count-n.ensures.members c.in_ok-weights.ensures.is c.in-Try.is in
    let size : c.count-n.result ≡ members_of x = omega (arith, c.count-n.ensures.members) in
    let at = c.in_err-attempt-in-Try.ensures in
    let tried : TriesRow {T = Unit {0}} x (take c.count-n.result w.0) (Err e) x' = search (at.law) in
    let leads = subst (λ (k : ℕ). TriesRow {T = Unit {0}} x (take k w.0) (Err e) x') size tried in
    let p = err_from_is_err_and c.from_residual-in_err-attempt-in-Try.result c.from_residual-in_err-attempt-in-Try.ensures.1 in
    rw (p.1, p.2) (record { server = at.server; refused = at.refused; read = (_, is); law = try_refused-line x x' line (Unit {0}) w e is leads })

pub returns-in_ok-attempt-in-Try : goal.returns-in_ok-attempt-in-Try
returns-in_ok-attempt-in-Try g c =
    let x = c.args.session.now in
    let x' = c.attempt.new.session in
    let line = c.args.line.now in
    let w = c.in-Try.weights in
    let is = read_as g.S.Over.Field.model line c.count-n.ensures.members c.in_ok-weights.ensures.is c.in-Try.is in
    let size : c.count-n.result ≡ members_of x = omega (arith, c.count-n.ensures.members) in
    let at = c.in_ok-attempt-in-Try.ensures in
    let tried : TriesRow {T = Unit {0}} x (take c.count-n.result w.0) (Ok (tt {0})) x' = search (at.law) in
    let leads = subst (λ (k : ℕ). TriesRow {T = Unit {0}} x (take k w.0) (Ok (tt {0})) x') size tried in
    record { server = at.server; refused = tt; read = search (is); law = tried-line x x' line w (tt {0}) is leads }

pub returns-in_ok-table-in-Witness : goal.returns-in_ok-table-in-Witness
returns-in_ok-table-in-Witness g c =
    let x = c.args.session.now in
    let line = c.args.line.now in
    let i = c.in-Witness.member in
    let a = c.in-Witness.element in
    let t = c.in_ok-table-in-Witness.table in
    let is = read_as g.S.Over.Field.model line c.count-n.ensures.members c.in_ok-weights.ensures.is c.in-Witness.is in
    let at = c.in_ok-table-in-Witness.ensures in
    let made : MakesWitness x i.0 a.0 (Ok t) = search (at.law) in
    record { server = refl; refused = tt; read = ((i, a, is), at.zero); law = witness-line x x line i a t is made }

pub returns-in_err-table-in-Witness : goal.returns-in_err-table-in-Witness
returns-in_err-table-in-Witness g c =
    let x = c.args.session.now in
    let line = c.args.line.now in
    let i = c.in-Witness.member in
    let a = c.in-Witness.element in
    let e = c.in_err-table-in-Witness.field-0.0 in
    let is = read_as g.S.Over.Field.model line c.count-n.ensures.members c.in_ok-weights.ensures.is c.in-Witness.is in
    let made : MakesWitness x i.0 a.0 (Err e) = search (c.in_err-table-in-Witness.ensures.law) in
    let p = err_from_is_err_and c.from_residual-in_err-table-in-Witness.result c.from_residual-in_err-table-in-Witness.ensures.1 in
    rw (p.1, p.2) (record { server = refl; refused = refl; read = (_, is); law = witness_refused-line x x line i a e is made })
