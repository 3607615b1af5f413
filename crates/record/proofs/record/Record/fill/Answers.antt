use Rattle.std.proofs.Common.{◌≡◌, ℕ, ◌-◌, ◌<◌, ◌≤◌, length, get_or, set, sym, ap, ◌∙◌, arith, length-set}
use native.Mathlib.Decide.{ℕ_discrete, dec_lt}
use lib.ListN.{length-map}
use Rattle.field.specs.Sums.{weights_of}
use Rattle.echelon.specs.Reduced.{at}
use Rattle.record.specs.Records.{rec_of}
use Rattle.record.proofs.Views.{facts_of, no_record_row}
use Rattle.checks.proofs.Weights.{written, unwritten}
use Rattle.echelon.proofs.Witnessing.{target, target_pivot, target_self, target_other, target_all, apart}
use Rattle.record.proofs.record.Record.fill.Goals as goal

pub loop-row-init : goal.loop-row-init
loop-row-init g c =
    let M = g.F.Field.model in
    let L = g.met.F.Field.laws in
    let r = c.args.self.now in
    let R = r.reduced in
    let out = c.fill.new.self in
    let j = c.args.free.0 in
    let t = c.args.factor in
    let filled : (m : ℕ) → m < length out → weights_of out m ≡ 0 =
    λ m h.
    elim (dec_lt m (length out - 1)) [
      | yes b ↦ ap (λ e. e.0) (c.fill.ensures.clones_before_last m (record { 0 = 0 }) (omega arith) (omega (arith, c.fill.ensures.len)))
      | no b ↦
          let last : m ≡ length out - 1 = omega arith in
          ap (weights_of out) (last ∙ ap (λ k. k - 1) c.fill.ensures.len) ∙ ap (λ e. e.0) (c.fill.ensures.last (omega (arith, c.fill.ensures.len)) (record { 0 = 0 }))
    ] in
    let sized : length out ≡ r.count = omega (arith, c.requires.length, c.fill.ensures.len) in
    let inside : j < length out = let below = c.requires.below in omega arith in (
      length-set out j t ∙ sized,
      λ b h. absurd (omega arith),
      λ m h free.
          elim (ℕ_discrete m j) [
            | yes same ↦
                ap (weights_of (set out j t)) same ∙ written out j t inside ∙ sym (target_self M L r.count (rec_of r) R t.0 j c.requires.factor c.requires.free)
                ∙ ap (target M L r.count (rec_of r) R t.0 j) (sym same)
            | no ne ↦
                let short : m < length out = rw (← length-set out j t) h in
                unwritten out j m t ne ∙ filled m (omega (arith, short)) ∙ sym (target_other M L r.count (rec_of r) R t.0 j m c.requires.factor free ne)
          ],
    )

pub bounds-out-row : goal.bounds-out-row
bounds-out-row g c =
    let r = c.args.self.now in
    let here = facts_of r c.as_slice-row-items.result.now c.as_slice-row-items.ensures.value c.loop-row.row-index c.loop-row-test.true in
    let below = here.pivot in
    omega (arith, c.loop-row.invariant.0)

pub offset_bounds-out-row : goal.offset_bounds-out-row
offset_bounds-out-row g c =
    let r = c.args.self.now in
    let here = facts_of r c.as_slice-row-items.result.now c.as_slice-row-items.ensures.value c.loop-row.row-index c.loop-row-test.true in
    let below = here.pivot in
    let few = r.members.1 in
    omega arith

pub loop-row-preserved : goal.loop-row-preserved
loop-row-preserved g c =
    let M = g.F.Field.model in
    let L = g.met.F.Field.laws in
    let r = c.args.self.now in
    let R = r.reduced in
    let out = c.loop-row.out in
    let a = c.loop-row.row-index in
    let j = c.args.free.0 in
    let t = c.args.factor in
    let sl = c.as_slice-row-items.result.now in
    let x = get_or sl a no_record_row in
    let here = facts_of r sl c.as_slice-row-items.ensures.value a c.loop-row-test.true in
    let pivot : (at (rec_of r) a).pivot ≡ x.pivot.0 = ap (λ p. p.pivot) here.is in
    let inside : x.pivot.0 < length out = let below = here.pivot in omega (arith, c.loop-row.invariant.0) in
    let value : c.add.result.0 ≡ target M L r.count (rec_of r) R t.0 j (at (rec_of r) a).pivot =
    c.add.ensures.is
    ∙ ap (M.plus x.row.figure.0) (c.mul.ensures.is ∙ ap (M.times t.0) c.neg-step.ensures.is)
    ∙ ap (λ p. M.plus p.figure (M.times t.0 (M.opposite (p.weights j)))) (sym here.is)
    ∙ sym (target_pivot M L r.count (rec_of r) R t.0 j a here.below) in (
      length-set out x.pivot.0 c.add.result ∙ c.loop-row.invariant.0,
      λ b h.
          elim (ℕ_discrete b a) [
            | yes same ↦
                ap (λ k. weights_of (set out x.pivot.0 c.add.result) (at (rec_of r) k).pivot) same
                ∙ ap (weights_of (set out x.pivot.0 c.add.result)) pivot
                ∙ written out x.pivot.0 c.add.result inside ∙ value
                ∙ ap (λ k. target M L r.count (rec_of r) R t.0 j (at (rec_of r) k).pivot) (sym same)
            | no ne ↦
                unwritten out x.pivot.0 (at (rec_of r) b).pivot c.add.result
                (λ z. apart M L r.count (rec_of r) R a b here.below (omega arith) (z ∙ sym pivot)) ∙ c.loop-row.invariant.1 b (omega arith)
          ],
      λ m h free.
          let short : m < length out = rw (← length-set out x.pivot.0 c.add.result) h in
          unwritten out x.pivot.0 m c.add.result (λ z. free a here.below (pivot ∙ sym z)) ∙ c.loop-row.invariant.2 m short free,
    )

pub returns : goal.returns
returns g c =
    let M = g.F.Field.model in
    let L = g.met.F.Field.laws in
    let r = c.args.self.now in
    let R = r.reduced in
    let all : length (rec_of r) ≤ c.loop-row.row-index = simp length-map (omega (arith, c.as_slice-row-items.ensures.len)) in
    target_all M L r.count (rec_of r) R c.args.factor.0 c.args.free.0 (weights_of c.loop-row.out)
    (λ a h. c.loop-row.invariant.1 a (omega arith)) (λ m h free. c.loop-row.invariant.2 m (omega (arith, c.loop-row.invariant.0)) free)
