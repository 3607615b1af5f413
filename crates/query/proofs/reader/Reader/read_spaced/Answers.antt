use Rattle.std.proofs.Common.{sym, ap, ◌∙◌}
use Rattle.std.proofs.lemmas.Result.{err_from_is_err_and}
use Rattle.query.specs.Items.{of_item}
use Rattle.query.proofs.ItemChecks.{spaced_none, spaced-some}
use Rattle.query.proofs.reader.Reader.read_spaced.Goals as goal

pub returns-then-not-stands : goal.returns-then-not-stands
returns-then-not-stands c =
    sym (spaced_none _ c.args.self.now.line.now c.args.at.0 (sym c.stands.ensures ∙ c.if-not-stands.true))

pub returns-in_err-read_number : goal.returns-in_err-read_number
returns-in_err-read_number c =
    let p = err_from_is_err_and c.from_residual.result c.from_residual.ensures.1 in
    rw (p.1, p.2)
    (sym (spaced-some c.args.limit c.args.self.now.line.now c.args.at.0 (sym c.stands.ensures ∙ c.if-not-stands.false)
    ∙ ap of_item (sym c.read_number.ensures ∙ c.in_err-read_number.was)))

pub returns : goal.returns
returns c =
    sym (spaced-some c.args.limit c.args.self.now.line.now c.args.at.0 (sym c.stands.ensures ∙ c.if-not-stands.false)
    ∙ ap of_item (sym c.read_number.ensures ∙ c.in_ok-read_number.was))
