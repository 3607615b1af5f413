-- Answers for `map_byte`: one bit more.
use Rattle.std.proofs.Common.{◌≡◌, ℕ, ◌+◌, ◌*◌, ◌^◌, ◌≤◌, Bool, sym, refl, ◌∙◌, ap₂, arith, pow_mono}
use Rattle.std.proofs.lemmas.Nat.{one_shl}
use Rattle.field.specs.Sums.{weights_of}
use Rattle.answer_log.specs.Rows.{names, bits}
use Rattle.answer_log.proofs.Bits.{pow_next, bits_below, bits-stands, bits_clear}
use Rattle.answer_log.proofs.parts.map_byte.Goals as goal
use Rattle.answer_log.proofs.parts.map_byte.Goals.{then-is_named, else-is_named}

pub loop-b-init : goal.loop-b-init
unfolding bits
loop-b-init c = refl

pub overflow_add-byte : goal.overflow_add-byte
overflow_add-byte c =
    let b = c.loop-b.b in
    let stands : ℕ → Bool = λ i. names (weights_of c.args.weights.now) (8 * c.args.k + i) in
    let one = one_shl b 8 c.loop-b-test.true in
    let low = bits_below stands b in
    let next = pow_next b in
    let last : b + 1 ≤ 8 = omega (arith, c.loop-b-test.true) in
    let top : 2 ^ (b + 1) ≤ 2 ^ 8 = pow_mono last in
    let so : c.loop-b.byte ≡ bits stands b = c.loop-b.invariant in
    omega arith

pub loop-b-preserved : goal.loop-b-preserved
loop-b-preserved c =
    let b = c.loop-b.b in
    let stands : ℕ → Bool = λ i. names (weights_of c.args.weights.now) (8 * c.args.k + i) in
    elim c.if-is_named.branch [
      | then-is_named w ↦
          let one = one_shl b 8 c.loop-b-test.true in
          let more = bits-stands stands b (sym c.is_named.ensures ∙ w.if-is_named.true) in
          let so : c.loop-b.byte ≡ bits stands b = c.loop-b.invariant in
          w.byte-is ∙ ap₂ (λ x y. x + y) so one ∙ sym more
      | else-is_named w ↦
          w.byte-is ∙ c.loop-b.invariant ∙ sym (bits_clear stands b (sym c.is_named.ensures ∙ w.if-is_named.false))
    ]
