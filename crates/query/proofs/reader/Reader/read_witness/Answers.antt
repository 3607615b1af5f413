use Rattle.std.proofs.Common.{sym, ◌∙◌, arith}
use Rattle.std.proofs.lemmas.Result.{err_from_is_err_and}
use Rattle.query.proofs.LineChecks.{witness_fault, witness_element_fault, witness_long, witness_fine}
use Rattle.query.proofs.reader.Reader.read_witness.Goals as goal

pub returns-in_err-member : goal.returns-in_err-member
returns-in_err-member c =
    let p = err_from_is_err_and c.from_residual.result c.from_residual.ensures.1 in
    rw (p.1, p.2)
    (sym (witness_fault c.args.self.now.limits c.args.self.now.line.now c.args.start.0 _ (sym c.read_spaced.ensures ∙ c.in_err-member.was)))

pub returns : goal.returns
returns c =
    sym (witness_fine c.args.self.now.limits c.args.self.now.line.now c.args.start.0 _ (sym c.read_spaced.ensures ∙ c.in_ok-member.was)
    _ (search) (sym c.read_spaced-2.ensures ∙ c.in_ok-element.was) (omega arith))

pub returns-then-element-self : goal.returns-then-element-self
returns-then-element-self c =
    sym (witness_long c.args.self.now.limits c.args.self.now.line.now c.args.start.0 _ (sym c.read_spaced.ensures ∙ c.in_ok-member.was)
    _ (search) (sym c.read_spaced-2.ensures ∙ c.in_ok-element.was) (omega arith))

pub returns-in_err-element : goal.returns-in_err-element
returns-in_err-element c =
    let p = err_from_is_err_and c.from_residual-in_err-element.result c.from_residual-in_err-element.ensures.1 in
    rw (p.1, p.2)
    (sym (witness_element_fault c.args.self.now.limits c.args.self.now.line.now c.args.start.0 _ (sym c.read_spaced.ensures ∙ c.in_ok-member.was)
    _ (search) (sym c.read_spaced-2.ensures ∙ c.in_err-element.was)))
