-- Answers for `rewrite_rows`: row after row.
use Rattle.std.proofs.Common.{◌≡◌, ℕ, ◌-◌, ◌<◌, ◌≤◌, List, length, get_or, take, drop, sym, ap, ◌∙◌, subst, arith, rules}
use Rattle.field.specs.Sums.{Codes, weights_of}
use Rattle.field.specs.declared.Element.{Element}
use Rattle.answer_log.specs.Rows.{row_bytes}
use Rattle.buffer.specs.Buffers.{onto}
use Rattle.buffer.proofs.Fronts.{part_length}
use Rattle.answer_log.proofs.Logs.{row_count, cut_few, cut_codes, cut_figure, cut_size, cut_put}
use Rattle.answer_log.proofs.Steps.{whole_still, count-still, next-place, row_counts, row-here, step_left, step_fine}
use Rattle.answer_log.proofs.rewriting.rewrite_rows.Goals as goal

pub returns-in_default : goal.returns-in_default
returns-in_default g c =
    let M = g.F.Field.model in
    let n = c.args.n in
    let bytes = c.args.bytes.now in
    let at = c.loop-entry.at in
    let s = c.loop-entry.entry-iterator in
    let t = c.next.new.self in
    let inv = c.loop-entry.invariant in
    let step = c.in-Some.ensures.steps in
    absurd (step_fine M s t _ step bytes n inv.2 inv.3 c.in_default.field-0 c.in_default.is at inv.4 inv.7)

pub invariant_of-row : goal.invariant_of-row
invariant_of-row g c =
    let M = g.F.Field.model in
    let n = c.args.n in
    let bytes = c.args.bytes.now in
    let at = c.loop-entry.at in
    let s = c.loop-entry.entry-iterator in
    let t = c.next.new.self in
    let inv = c.loop-entry.invariant in
    let step = c.in-Some.ensures.steps in
    let ws = c.in-Ok.entry.row.weights in
    let f = c.in-Ok.entry.figure.0 in
    let next = c.in-Ok.entry.next in
    let row = row-here M s t _ step bytes n inv.2 inv.3 c.in-Ok.entry c.in-Ok.is at inv.4 in
    let counts = row_counts M s t _ step bytes n inv.2 inv.3 c.in-Ok.entry c.in-Ok.is in
    let is : c.weights.result.now ≡ take n ws = c.weights.ensures.list ∙ ap (λ k. take k ws) counts in
    let whole : length ws ≡ 64 = search rules in
    let L = g.met.F.Field.laws in
    let long : n ≤ length ws = omega (arith, row_count M n _ _ row.reads.check) in
    let fit : (i : ℕ) → get_or bytes i 0 < 256 = λ i. (c.type_inv.bytes i).fits in
    record {
      few = subst (λ (us : List Element). length us ≤ 64) (sym is) (cut_few M L n _ bytes fit at ws f next row long);
      elements = subst (λ (us : List Element). Codes M (length us) (weights_of us)) (sym is) (cut_codes M L n _ bytes fit at ws f next row long);
      below = cut_figure M L n _ bytes fit at ws f next row long;
    }

pub put-requires : goal.put-requires
put-requires g c =
    let M = g.F.Field.model in
    let n = c.args.n in
    let bytes = c.args.bytes.now in
    let at = c.loop-entry.at in
    let s = c.loop-entry.entry-iterator in
    let t = c.next.new.self in
    let inv = c.loop-entry.invariant in
    let step = c.in-Some.ensures.steps in
    let ws = c.in-Ok.entry.row.weights in
    let f = c.in-Ok.entry.figure.0 in
    let next = c.in-Ok.entry.next in
    let row = row-here M s t _ step bytes n inv.2 inv.3 c.in-Ok.entry c.in-Ok.is at inv.4 in
    let counts = row_counts M s t _ step bytes n inv.2 inv.3 c.in-Ok.entry c.in-Ok.is in
    let is : c.weights.result.now ≡ take n ws = c.weights.ensures.list ∙ ap (λ k. take k ws) counts in
    let whole : length ws ≡ 64 = search rules in
    let L = g.met.F.Field.laws in
    let long : n ≤ length ws = omega (arith, row_count M n _ _ row.reads.check) in
    let fit : (i : ℕ) → get_or bytes i 0 < 256 = λ i. (c.type_inv.bytes i).fits in
    let size : length (row_bytes M (length c.weights.result.now) (weights_of c.weights.result.now) f) ≡ next - at =
    subst (λ (us : List Element). length (row_bytes M (length us) (weights_of us) f) ≡ next - at) (sym is) (cut_size M L n _ bytes fit at ws f next row long)
    in
    omega (arith, part_length _ _ _ at inv.6, row.within, c.requires.room)

pub loop-entry-preserved : goal.loop-entry-preserved
loop-entry-preserved g c =
    let M = g.F.Field.model in
    let n = c.args.n in
    let bytes = c.args.bytes.now in
    let at = c.loop-entry.at in
    let s = c.loop-entry.entry-iterator in
    let t = c.next.new.self in
    let inv = c.loop-entry.invariant in
    let step = c.in-Some.ensures.steps in
    let ws = c.in-Ok.entry.row.weights in
    let f = c.in-Ok.entry.figure.0 in
    let next = c.in-Ok.entry.next in
    let row = row-here M s t _ step bytes n inv.2 inv.3 c.in-Ok.entry c.in-Ok.is at inv.4 in
    let counts = row_counts M s t _ step bytes n inv.2 inv.3 c.in-Ok.entry c.in-Ok.is in
    let is : c.weights.result.now ≡ take n ws = c.weights.ensures.list ∙ ap (λ k. take k ws) counts in
    let whole : length ws ≡ 64 = search rules in
    let L = g.met.F.Field.laws in
    let long : n ≤ length ws = omega (arith, row_count M n _ _ row.reads.check) in
    let fit : (i : ℕ) → get_or bytes i 0 < 256 = λ i. (c.type_inv.bytes i).fits in
    let put =
    subst (λ (us : List Element). c.put.new.out ≡ onto (row_bytes M (length us) (weights_of us) f) (take (length c.loop-entry.out - at) (drop at c.loop-entry.out)))
    is c.put.ensures in (
      tt,
      tt,
      whole_still M s t _ step bytes n inv.2 inv.3,
      count-still M s t _ step bytes n inv.2 inv.3,
      next-place M s t _ step bytes n inv.2 inv.3 c.in-Ok.entry c.in-Ok.is,
      row.within,
      cut_put M L n _ bytes fit at ws f next row long c.args.out.now c.loop-entry.out c.put.new.out inv.6 c.requires.room put,
      step_left M s t _ step bytes n inv.2 inv.3 c.in-Ok.entry c.in-Ok.is at inv.4 inv.7,
    )
