-- Answers for `read_weights`: the lowest fault, or none, and the weights.
use Rattle.std.proofs.Common.{◌≡◌, ℕ, ◌<◌, ◌≢◌, length, set, sym, refl, ap, ◌∙◌, arith, length-set, below_more, rules}
use Rattle.field.specs.Sums.{weights_of}
use Rattle.checks.proofs.Weights.{written, unwritten, zeros}
use Rattle.answer_log.proofs.Again.{unnamed_weight}
use Rattle.answer_log.proofs.Readers.{bit_is, no_fault, unnamed_no_fault, value_refused}
use Rattle.answer_log.proofs.reading.RowBytes.read_weights.Goals as goal
use Rattle.answer_log.proofs.reading.RowBytes.read_weights.Goals.{then-is_named+in_ok-weights, else-is_named}

pub loop-m-init : goal.loop-m-init
loop-m-init g c = (refl, λ k h. absurd (omega arith), λ k h. absurd (omega arith), λ k h. zeros 64 k)

pub returns-in_err-weights-clause-refused : goal.returns-in_err-weights-clause-refused
returns-in_err-weights-clause-refused g c =
    let M = g.F.Field.model in
    let bs = c.args.self.now.bytes.now in
    let n = c.args.self.now.count in
    let m = c.loop-m.m in
    let bit = bit_is bs n m _ _ c.from.ensures c.is_named.ensures ∙ c.if-is_named.true in
    let refused = value_refused M n bs c.requires c.args.self.now.row m _ c.loop-m-test.true bit c.named_weight-weight.ensures
    c.loop-m.invariant.1 _ c.in_err-weights.ensures in
    search rules

pub loop-m-preserved : goal.loop-m-preserved
loop-m-preserved g c =
    let M = g.F.Field.model in
    let bs = c.args.self.now.bytes.now in
    let n = c.args.self.now.count in
    let m = c.loop-m.m in
    let inv = c.loop-m.invariant in
    let old = c.loop-m.weights in
    let new = c.if-is_named.weights in
    elim c.if-is_named.branch [
      | then-is_named+in_ok-weights v ↦
          let code = v.named_weight-weight.ensures in
          let fine = v.in_ok-weights.ensures in
          let is = v.weights-is ∙ ap (λ i. set old i v.in_ok-weights.field-0) c.from.ensures in
          let same = ap (λ e. e.0) fine.1 ∙ code in
          let room : m < length old = omega (arith, inv.0, c.requires.named.mapped.count) in
          let other : (k : ℕ) → k ≢ m → weights_of new k ≡ weights_of old k =
          λ k ne. ap (λ ws. weights_of ws k) is ∙ unwritten old m k _ ne in (
            ap length is ∙ length-set old m v.in_ok-weights.field-0 ∙ inv.0,
            below_more _ _ inv.1 (no_fault M n bs m _ _ code fine.0),
            below_more _ _ (λ k h. other k (omega arith) ∙ inv.2 k h) (ap (λ ws. weights_of ws m) is ∙ written old m _ room ∙ same),
            λ k h. other k (omega arith) ∙ inv.3 k (omega arith),
          )
      | else-is_named v ↦
          let bit = bit_is bs n m _ _ c.from.ensures c.is_named.ensures ∙ v.if-is_named.false in
          let kept : (k : ℕ) → weights_of new k ≡ weights_of old k = λ k. ap (λ ws. weights_of ws k) v.weights-is in (
            ap length v.weights-is ∙ inv.0,
            below_more _ _ inv.1 (unnamed_no_fault M n bs m bit),
            below_more _ _ (λ k h. kept k ∙ inv.2 k h) (kept m ∙ inv.3 m (omega arith) ∙ sym (unnamed_weight M n bs m bit)),
            λ k h. kept k ∙ inv.3 k (omega arith),
          )
    ]
