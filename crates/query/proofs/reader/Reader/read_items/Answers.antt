use Rattle.std.proofs.Common.{sym, ◌∙◌, arith, rules}
use Rattle.std.proofs.lemmas.Result.{err_from_is_err_and}
use Rattle.std.proofs.lemmas.List.{length-set}
use Rattle.query.proofs.ItemChecks.{item_moves, items_fault, items_last, items_more}
use Rattle.query.proofs.reader.Reader.read_items.Goals as goal

pub returns-in_err-item : goal.returns-in_err-item
returns-in_err-item c =
    let p = err_from_is_err_and c.from_residual.result c.from_residual.ensures.1 in
    let e =
    items_fault c.args.self.now.limits c.loop-item.weights.0 c.args.self.now.line.now c.loop-item.at.0 _
    (sym c.read_item.ensures ∙ c.in_err-item.was) in
    rw (p.1, p.2) (sym e ∙ c.loop-item.invariant.0)

pub offset_bounds-weights-item : goal.offset_bounds-weights-item
offset_bounds-weights-item c =
    let m =
    (item_moves c.args.self.now.limits c.loop-item.weights.0 c.args.self.now.line.now c.loop-item.at.0 c.in_ok-item.item
    (sym c.read_item.ensures ∙ c.in_ok-item.was)).2 in
    let few = c.args.self.now.few in search rules

pub bounds-weights-item : goal.bounds-weights-item
bounds-weights-item c =
    let m =
    (item_moves c.args.self.now.limits c.loop-item.weights.0 c.args.self.now.line.now c.loop-item.at.0 c.in_ok-item.item
    (sym c.read_item.ensures ∙ c.in_ok-item.was)).2 in
    let few = c.args.self.now.few in omega arith

pub returns-then-at-self : goal.returns-then-at-self
returns-then-at-self c =
    sym (items_last c.args.self.now.limits c.loop-item.weights.0 c.args.self.now.line.now c.loop-item.at.0 c.in_ok-item.item
    (sym c.read_item.ensures ∙ c.in_ok-item.was) c.if-at-self.true) ∙ c.loop-item.invariant.0

pub loop-item-smaller : goal.loop-item-smaller
loop-item-smaller c =
    let m =
    item_moves c.args.self.now.limits c.loop-item.weights.0 c.args.self.now.line.now c.loop-item.at.0 c.in_ok-item.item
    (sym c.read_item.ensures ∙ c.in_ok-item.was) in
    omega (arith, m.0, m.1)

pub loop-item-preserved : goal.loop-item-preserved
loop-item-preserved c = (
  sym (items_more c.args.self.now.limits c.loop-item.weights.0 c.args.self.now.line.now c.loop-item.at.0 c.in_ok-item.item
      (sym c.read_item.ensures ∙ c.in_ok-item.was) c.if-at-self.false) ∙ c.loop-item.invariant.0,
  length-set c.loop-item.weights.0 _ _ ∙ c.loop-item.invariant.1,
)
