use Rattle.std.proofs.Common.{◌≡◌, ℕ, ◌+◌, ◌-◌, ◌<◌, ◌≤◌, length, get_or, sym, refl, ap, ap₂, ◌∙◌, arith}
use Rattle.std.proofs.lemmas.List.{get_or_past}
use Rattle.field.specs.Sums.{sum, weights_of}
use Rattle.field.proofs.Zero.{zero-code}
use Rattle.server.specs.Tables.{value_at}
use Rattle.server.proofs.Sums.{sum_more, sum_unnamed, sum_past}
use Rattle.server.proofs.row_sum.Goals as goal
use Rattle.server.proofs.row_sum.Goals.{then-weight-ne0+in-Some, then-weight-ne0+in_default, else-weight-ne0}

pub loop-weight-init : goal.loop-weight-init
unfolding sum
loop-weight-init g c = (refl, omega arith, zero-code _ g.met.S.Over.Field.laws, refl)

pub loop-weight-preserved : goal.loop-weight-preserved
loop-weight-preserved g c =
    let M = g.S.Over.Field.model in
    let L = g.met.S.Over.Field.laws in
    let row = c.args.row.now in
    let i = c.loop-weight.weight-index in
    let m = c.loop-weight.member in
    let inv = c.loop-weight.invariant in
    let w = weights_of row in
    let t = value_at (g.S.Server.table c.args.server.now) in
    let table = c.count-members.ensures.lawful in
    let more : m + 1 ≤ c.count-members.result = omega arith in
    let below : m < length (g.S.Server.table c.args.server.now) = omega (arith, c.count-members.ensures.is) in
    let weight : w m ≡ (get_or row i (record { 0 = 0 })).0 = ap w inv.0 in
    let value : t m < M.size = table.elements m below in
    elim c.if-weight-ne0.branch [
      | then-weight-ne0+in-Some v ↦
          let is = v.total-is in
          let within : c.if-weight-ne0.total.0 < M.size = rw is v.add-total.ensures.within in
          let added : c.if-weight-ne0.total.0 ≡ M.plus (sum M m w t) (M.times (w m) (t m)) =
          ap (λ e. e.0) is ∙ v.add-total.ensures.is
          ∙ ap (λ x. M.plus x v.mul.result.0) inv.3
          ∙ ap (M.plus (sum M m w t)) (v.mul.ensures.is ∙ ap₂ M.times (sym weight) (search (v.in-Some.ensures.1)))
          in (omega arith, more, within, added ∙ sym (sum_more M L w t m))
      | then-weight-ne0+in_default v ↦ absurd (omega (arith, v.in_default.ensures))
      | else-weight-ne0 v ↦
          let unnamed : w m ≡ 0 = weight ∙ v.if-weight-ne0.false in
          let is : c.if-weight-ne0.total.0 ≡ sum M m w t = ap (λ e. e.0) v.total-is ∙ inv.3 in
          let within : sum M m w t < M.size = rw (← inv.3) inv.2 in
          (omega arith, more, rw is within, is ∙ sym (sum_unnamed M L w t m within value unnamed))
    ]

pub returns-then-member-members : goal.returns-then-member-members
returns-then-member-members g c =
    let M = g.S.Over.Field.model in
    let w = weights_of c.args.row.now in
    let t = value_at (g.S.Server.table c.args.server.now) in
    record {
      is = c.loop-weight.invariant.3 ∙ ap (λ n. sum M n w t) (c.if-member-members.true ∙ c.count-members.ensures.is);
      within = c.loop-weight.invariant.2;
    }

pub returns-after-loop-weight : goal.returns-after-loop-weight
returns-after-loop-weight g c =
    let M = g.S.Over.Field.model in
    let L = g.met.S.Over.Field.laws in
    let row = c.args.row.now in
    let w = weights_of row in
    let t = value_at (g.S.Server.table c.args.server.now) in
    let n = length (g.S.Server.table c.args.server.now) in
    let m = c.loop-weight.member in
    let inv = c.loop-weight.invariant in
    let within : sum M m w t < M.size = rw (← inv.3) inv.2 in
    let rest : m + (n - m) ≡ n = omega (arith, c.count-members.ensures.is) in
    let past : (k : ℕ) → m ≤ k → w k ≡ 0 = λ k h. ap (λ e. e.0) (get_or_past row k (record { 0 = 0 }) (omega arith)) in
    let values = c.count-members.ensures.lawful.elements in
    record {
      is = inv.3 ∙ sym (sum_past M L w t m (n - m) within past (λ k h. values k (omega arith))) ∙ ap (λ k. sum M k w t) rest;
      within = inv.2;
    }
