use Rattle.std.proofs.Common.{sym, ◌∙◌, arith}
use Rattle.std.proofs.lemmas.Result.{err_from_is_err_and}
use Rattle.query.proofs.ItemChecks.{spaced_moves, item_fault, item_repeated, item_weighed, weighed-plain, weighed_fault, weighed_more}
use Rattle.query.proofs.reader.Reader.read_item.Goals as goal

pub returns-in_err-found : goal.returns-in_err-found
returns-in_err-found c =
    let p = err_from_is_err_and c.from_residual.result c.from_residual.ensures.1 in
    let q1 = p.2 in
    rw (p.1, p.2)
    (sym (item_fault _ _ c.args.self.now.line.now c.args.at.0 _ (sym c.read_spaced.ensures ∙ c.in_err-found.was)))

pub names-requires : goal.names-requires
names-requires c =
    let m = spaced_moves c.args.self.now.limits.members c.args.self.now.line.now c.args.at.0 _ (sym c.read_spaced.ensures ∙ c.in_ok-found.was) in
    let h = m.2 in let few = c.args.self.now.few in omega arith

pub returns-then-names : goal.returns-then-names
returns-then-names c =
    sym (item_repeated _ _ c.args.self.now.line.now c.args.at.0 _ (search) (sym c.read_spaced.ensures ∙ c.in_ok-found.was) (sym c.names.ensures ∙ c.if-names.true))

pub returns-then-not-stands : goal.returns-then-not-stands
returns-then-not-stands c =
    sym (item_weighed _ _ c.args.self.now.line.now c.args.at.0 c.in_ok-found.found (sym c.read_spaced.ensures ∙ c.in_ok-found.was)
    (sym c.names.ensures ∙ c.if-names.false)
    ∙ weighed-plain c.args.self.now.limits c.args.self.now.line.now c.in_ok-found.found (search) (sym c.stands.ensures ∙ c.if-not-stands.true))

pub returns : goal.returns
returns c =
    sym (item_weighed _ _ c.args.self.now.line.now c.args.at.0 c.in_ok-found.found (sym c.read_spaced.ensures ∙ c.in_ok-found.was)
    (sym c.names.ensures ∙ c.if-names.false)
    ∙ weighed_more c.args.self.now.limits c.args.self.now.line.now c.in_ok-found.found _ (search) (sym c.stands.ensures ∙ c.if-not-stands.false)
    (sym c.read_number.ensures ∙ c.in_ok-weight.was))

pub returns-in_err-weight : goal.returns-in_err-weight
returns-in_err-weight c =
    let p = err_from_is_err_and c.from_residual-in_err-weight.result c.from_residual-in_err-weight.ensures.1 in
    rw (p.1, p.2)
    (sym (item_weighed _ _ c.args.self.now.line.now c.args.at.0 c.in_ok-found.found (sym c.read_spaced.ensures ∙ c.in_ok-found.was)
    (sym c.names.ensures ∙ c.if-names.false)
    ∙ weighed_fault c.args.self.now.limits c.args.self.now.line.now c.in_ok-found.found _ (search) (sym c.stands.ensures ∙ c.if-not-stands.false)
    (sym c.read_number.ensures ∙ c.in_err-weight.was)))
