-- Answers for `write_weights`: one weight more.
use Rattle.std.proofs.Common.{◌≡◌, ℕ, ◌+◌, ◌-◌, ◌<◌, ◌≤◌, ◌++◌, length, take, drop, sym, ap, ◌∙◌, ap₂, arith}
use Rattle.field.specs.Model.{FieldModel}
use Rattle.field.specs.Bytes.{width, written}
use Rattle.field.specs.Sums.{Vector, weights_of}
use Rattle.answer_log.specs.Rows.{weight_bytes}
use Rattle.answer_log.proofs.Elements.{written-length}
use Rattle.answer_log.proofs.Buffers.{encoded, encoded_some, encoded_count}
use Rattle.answer_log.proofs.Weights.{stands, clear, weights_none, weights-named, weights_unnamed, weights_rise, length-named}
use Rattle.buffer.specs.Buffers.{Front}
use Rattle.buffer.proofs.Fronts.{part_length, front_more}
use Rattle.answer_log.proofs.parts.Row.write_weights.Goals as goal
use Rattle.answer_log.proofs.parts.Row.write_weights.Goals.{then-weight-ne0, else-weight-ne0}

pub loop-weight-init : goal.loop-weight-init
loop-weight-init g c =
    let none = weights_none g.F.Field.model (weights_of c.args.self.now.weights.now) in
    (sym (ap length none), sym (ap (λ xs. xs ++ c.args.out.now) none))

-- the weights below one more member fit where those below all do
room_below :
    (M : FieldModel) (w : Vector) (n m room : ℕ) → m ≤ n → length (weight_bytes M w n) ≤ room
    → length (weight_bytes M w m) ≤ room
room_below M w n m room h all =
    let rest : m + (n - m) ≡ n = omega arith in
    let rise = weights_rise M w m (n - m) in
    let same = ap (λ i. length (weight_bytes M w i)) rest in
    omega arith

pub unwrap-at-requires : goal.unwrap-at-requires
unwrap-at-requires g c =
    let M = g.F.Field.model in
    let ws = c.args.self.now.weights.now in
    let w = weights_of ws in
    let n = length ws in
    let m = c.loop-weight.weight-index in
    let o = c.args.out.now in
    let at = c.loop-weight.at in
    let done = weight_bytes M w m in
    let inv = c.loop-weight.invariant in
    let front : at ≤ length o → Front o c.loop-weight.out done at = λ h. record { buffer = inv.1; size = sym inv.0; within = h } in
    let room = room_below M w n (m + 1) (length o) (omega arith) c.requires in
    let long = length-named M w m (stands w m c.if-weight-ne0.true) in
    let within : at ≤ length o = omega (arith, inv.0) in
    let part = part_length o c.loop-weight.out done at (front within) in
    let fits : w m < M.size = c.args.self.now.elements m c.loop-weight-test.true in
    let wide : width M ≤ length (take (length c.loop-weight.out - at) (drop at c.loop-weight.out)) = omega (arith, inv.0) in
    encoded_some M (w m) _ c.encode.new.out c.encode.result fits wide c.encode.ensures

pub loop-weight-preserved : goal.loop-weight-preserved
loop-weight-preserved g c =
    let M = g.F.Field.model in
    let ws = c.args.self.now.weights.now in
    let w = weights_of ws in
    let n = length ws in
    let m = c.loop-weight.weight-index in
    let o = c.args.out.now in
    let at = c.loop-weight.at in
    let done = weight_bytes M w m in
    let inv = c.loop-weight.invariant in
    let front : at ≤ length o → Front o c.loop-weight.out done at = λ h. record { buffer = inv.1; size = sym inv.0; within = h } in
    let room = room_below M w n (m + 1) (length o) (omega arith) c.requires in
    elim c.if-weight-ne0.branch [
      | then-weight-ne0 v ↦
          let bit = stands w m v.if-weight-ne0.true in
          let long = length-named M w m bit in
          let within : at ≤ length o = omega (arith, inv.0) in
          let part = part_length o c.loop-weight.out done at (front within) in
          let fits : w m < M.size = c.args.self.now.elements m c.loop-weight-test.true in
          let wide : width M ≤ length (take (length c.loop-weight.out - at) (drop at c.loop-weight.out)) = omega (arith, inv.0) in
          let wrote = encoded M (w m) _ v.encode.new.out v.encode.result fits wide v.encode.ensures in
          let size = encoded_count M (w m) _ v.encode.new.out v.encode.result v.unwrap-at.result v.encode.ensures v.unwrap-at.ensures in
          let far : c.if-weight-ne0.at ≡ at + width M = v.at-is ∙ ap (λ k. at + k) size in (
            omega (arith, inv.0),
            v.out-is
                ∙ (front_more o c.loop-weight.out done at (front within) (written M (w m)) v.encode.new.out (width M) wrote (written-length M (w m)) (omega (arith, inv.0))).buffer
                ∙ ap₂ (λ xs k. xs ++ drop k o) (sym (weights-named M w m bit)) (sym far),
          )
      | else-weight-ne0 v ↦
          let same = weights_unnamed M w m (clear w m v.if-weight-ne0.false) in (
            v.at-is ∙ inv.0 ∙ sym (ap length same),
            v.out-is ∙ inv.1 ∙ ap₂ (λ xs k. xs ++ drop k o) (sym same) (sym v.at-is),
          )
    ]
