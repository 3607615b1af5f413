use Rattle.std.proofs.Common.{sym, ap, ◌∙◌}
use Rattle.field.proofs.Zero.{zero_right, times_zero}
use Rattle.record.proofs.rows.added.Goals as goal

pub returns-then-weight-eq0-clause-is : goal.returns-then-weight-eq0-clause-is
returns-then-weight-eq0-clause-is g c =
    let M = g.F.Field.model in
    let L = g.met.F.Field.laws in
    let to = c.args.to.0 in
    let factor = c.args.factor.0 in
    sym
    (ap (λ w. M.plus to (M.times factor w)) c.if-weight-eq0.true ∙ ap (M.plus to) (times_zero M L factor c.requires.factor)
    ∙ zero_right M L to c.requires.to)
