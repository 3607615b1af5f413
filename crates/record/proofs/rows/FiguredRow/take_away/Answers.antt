use Rattle.std.proofs.Common.{◌≡◌, ◌+◌, ◌<◌, ◌≤◌, length, sym, ap, ◌∙◌, ap₂, inr, arith}
use Rattle.field.specs.Sums.{weights_of}
use Rattle.echelon.specs.Elimination.{cleared}
use Rattle.echelon.proofs.Values.{less_none, plus_opposite_times}
use Rattle.record.specs.Rows.{figured_row, pivoted}
use Rattle.record.proofs.Parts.{part_was, after_part}
use Rattle.record.proofs.rows.FiguredRow.take_away.Goals as goal

-- below the pivot of `by` nothing is added, and from it on a multiple of `by`
pub returns-clause-is : goal.returns-clause-is
returns-clause-is g c =
    let M = g.F.Field.model in
    let L = g.met.F.Field.laws in
    let n = c.args.n in
    let row = figured_row c.args.self.now in
    let by = c.args.by.now in
    let p = by.pivot.0 in
    let own = c.requires.coded in
    let other = c.requires.by_coded in
    let factor = own.0 p c.requires.pivot in
    let opposite = c.neg-opposite.ensures.is in
    let xs = c.args.self.now.weights in
    let ys = c.loop-k.weight-items in
    let start : p ≤ n = omega (arith, c.requires.pivot) in
    let end : n ≤ length xs = omega (arith, c.requires.few) in
    let figure : c.mul_add-self.result.0 ≡ M.plus row.figure (M.times c.neg-opposite.result.0 by.row.figure.0) =
    search (c.mul_add-self.ensures.is) in
    record {
      rows =
          after_part p n xs ys start end c.loop-k.auto.weight-items (λ m x. x ≡ (cleared M (pivoted by) row).row m)
          (λ m h.
          let b : m < n = omega arith in
          sym (less_none M L n _ _ _ (own.0 m b) factor (other.0 m b) (inr (c.requires.by_lowest m h))))
          (λ i h.
          let b : p + i < n = omega arith in
          c.loop-k.invariant.1 i (omega (arith, c.loop-k-test.false))
          ∙ ap₂ (λ x k. M.plus x (M.times k (weights_of by.row.weights (p + i)))) (part_was p n xs ys start end c.loop-k.auto.weight-items i h) opposite
          ∙ plus_opposite_times M L n _ _ _ (own.0 _ b) factor (other.0 _ b));
      figures =
          figure ∙ ap (λ k. M.plus row.figure (M.times k by.row.figure.0)) opposite
          ∙ plus_opposite_times M L n _ _ _ own.1 factor other.1;
    }

pub returns-clause-coded : goal.returns-clause-coded
returns-clause-coded g c =
    let M = g.F.Field.model in
    let own = c.requires.coded in (
      after_part c.args.by.now.pivot.0 c.args.n c.args.self.now.weights c.loop-k.weight-items (omega (arith, c.requires.pivot)) (omega (arith, c.requires.few))
          c.loop-k.auto.weight-items (λ m x. x < M.size) (λ m h. own.0 m (omega (arith, c.requires.pivot)))
          (λ i h. c.loop-k.invariant.0 i (omega (arith, c.loop-k-test.false))),
      c.mul_add-self.ensures.within,
    )
