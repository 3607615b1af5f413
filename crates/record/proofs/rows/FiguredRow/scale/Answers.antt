use Rattle.std.proofs.Common.{◌≡◌, ◌<◌, ◌≤◌, length, sym, ap, ◌∙◌, subst, arith}
use Rattle.field.specs.Sums.{weights_of}
use Rattle.field.proofs.Zero.{zero-code}
use Rattle.echelon.proofs.Values.{times_nothing}
use Rattle.record.proofs.Parts.{part_was, after_part}
use Rattle.record.proofs.rows.FiguredRow.scale.Goals as goal

-- below `from` the row is 0, as it was
pub returns-clause-is : goal.returns-clause-is
returns-clause-is g c =
    let M = g.F.Field.model in
    let L = g.met.F.Field.laws in
    let n = c.args.n in
    let p = c.args.from.0 in
    let factor = c.args.factor.0 in
    let xs = c.args.self.now.weights in
    let ys = c.loop-weight.weight-items in
    let end : n ≤ length xs = omega (arith, c.requires.few) in
    let figure : c.mul-self.result.0 ≡ M.times factor c.args.self.now.figure.0 = search (c.mul-self.ensures.is) in
    record {
      rows =
          after_part p n xs ys c.requires.from end c.loop-weight.auto.weight-items (λ m x. x ≡ M.times factor (weights_of xs m))
          (λ m h. c.requires.zero m h ∙ sym (ap (M.times factor) (c.requires.zero m h) ∙ times_nothing M L n _ c.requires.factor))
          (λ i h.
          c.loop-weight.invariant.1 i (omega (arith, c.loop-weight-test.false))
          ∙ ap (M.times factor) (part_was p n xs ys c.requires.from end c.loop-weight.auto.weight-items i h));
      figures = figure;
    }

pub returns-clause-coded : goal.returns-clause-coded
returns-clause-coded g c =
    let M = g.F.Field.model in (
      after_part c.args.from.0 c.args.n c.args.self.now.weights c.loop-weight.weight-items c.requires.from (omega (arith, c.requires.few))
          c.loop-weight.auto.weight-items (λ m x. x < M.size)
          (λ m h. subst (λ x. x < M.size) (sym (c.requires.zero m h)) (zero-code M g.met.F.Field.laws))
          (λ i h. c.loop-weight.invariant.0 i (omega (arith, c.loop-weight-test.false))),
      c.mul-self.ensures.within,
    )
