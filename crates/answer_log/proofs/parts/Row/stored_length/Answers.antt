-- Answers for `stored_length`: a width for each named member.
use Rattle.std.proofs.Common.{◌≡◌, ◌*◌, not, eqb, length, sym, ap, ◌∙◌, ap₂, rules}
use Rattle.std.specs.List.{count_by}
use Rattle.std.proofs.iter.runs.Made.{chains}
use Rattle.std.proofs.lemmas.Bool.{cond-false}
use Rattle.answer_log.proofs.Weights.{length-weights}
use Rattle.answer_log.proofs.parts.Row.stored_length.Goals as goal

pub returns-clause-is : goal.returns-clause-is
returns-clause-is g c =
    let ws = c.args.self.now.weights.now in
    let count : c.count.result ≡ count_by (λ e. not (eqb e.0 0)) ws = search (rules, chains) in
    ap₂ (λ x y. x * y) count c.element_width.ensures
    ∙ sym (length-weights g.F.Field.model ws)
    ∙ sym (ap length (cond-false _ _ _ (sym c.is_plain.ensures ∙ c.if-is_plain.false)))
