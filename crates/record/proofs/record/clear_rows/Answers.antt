use Rattle.std.proofs.Common.{◌≡◌, ℕ, ◌≢◌, get_or, set, sym, refl, ◌∙◌, subst, arith}
use native.Mathlib.Decide.{ℕ_discrete}
use Rattle.echelon.specs.Rows.{CodedRow}
use Rattle.echelon.specs.Reduced.{Pivoted, at, figured}
use Rattle.echelon.specs.Elimination.{cleared, pivot_cleared}
use Rattle.record.specs.Rows.{figured_row, pivoted, SameRow, all_pivoted, SamePivoted}
use Rattle.record.specs.declared.rows.RecordRow.{RecordRow}
use Rattle.record.proofs.Views.{at_row, set_here, set_other, cleared-row, no_record_row}
use Rattle.record.proofs.record.clear_rows.Goals as goal
use Rattle.record.proofs.record.clear_rows.Goals.{At-loop-row}

-- the row that the loop has come to, as it was
untouched :
    (g : _) (c : At-loop-row g)
    → at (all_pivoted c.deref_mut-row-items.result.now) c.loop-row.row-index ≡ pivoted (get_or c.loop-row.row-items c.loop-row.row-index no_record_row)
untouched g c = sym (c.loop-row.invariant.1 c.loop-row.row-index (omega arith)) ∙ at_row c.loop-row.row-items c.loop-row.row-index

pub clear-requires : goal.clear-requires
clear-requires g c =
    let M = g.F.Field.model in
    let a = c.loop-row.row-index in
    let was : CodedRow M c.args.n (figured (at (all_pivoted c.deref_mut-row-items.result.now) a)) =
    subst (λ l. CodedRow M c.args.n (figured (at (all_pivoted l) a))) (sym c.deref_mut-row-items.ensures.value)
    (c.requires.coded a (omega (arith, c.deref_mut-row-items.ensures.len))) in
    let own : CodedRow M c.args.n (figured (pivoted (get_or c.loop-row.row-items a no_record_row))) =
    subst (λ (p : Pivoted). CodedRow M c.args.n (figured p)) (untouched g (goal.at.clear-requires g c).At-loop-row) was in
    record {
      few = omega arith;
      pivot = omega arith;
      coded = grind (arith, own);
      by_coded = grind (arith, c.requires.by_coded);
      by_lowest = c.requires.by_lowest;
    }

pub loop-row-preserved : goal.loop-row-preserved
loop-row-preserved g c =
    let M = g.F.Field.model in
    let items = c.loop-row.row-items in
    let a = c.loop-row.row-index in
    let x = get_or items a no_record_row in
    let e = pivoted c.args.by.now in
    let y : RecordRow = record { pivot = x.pivot; row = c.clear.new.self } in
    let before = all_pivoted c.deref_mut-row-items.result.now in
    let is = untouched g (goal.at.loop-row-preserved g c).At-loop-row in
    let whole : SameRow c.args.n (figured_row c.clear.new.self) (cleared M e (figured (pivoted x))) = search (c.clear.ensures.is) in
    let here : SamePivoted c.args.n (at (all_pivoted (set items a y)) a) (pivot_cleared M e (at before a)) =
    subst (λ (p : Pivoted). SamePivoted c.args.n p (pivot_cleared M e (at before a))) (sym (set_here items a y (omega arith)))
    (cleared-row M c.args.n e (at before a) x y is refl whole) in (
      λ b h.
          elim (ℕ_discrete b a) [
            | yes same ↦ subst (λ (k : ℕ). SamePivoted c.args.n (at (all_pivoted (set items a y)) k) (pivot_cleared M e (at before k))) (sym same) here
            | no ne ↦
                subst (λ (p : Pivoted). SamePivoted c.args.n p (pivot_cleared M e (at before b))) (sym (set_other items a b y ne)) (c.loop-row.invariant.0 b (omega arith))
          ],
      λ b h. let ne : b ≢ a = omega arith in set_other items a b y ne ∙ c.loop-row.invariant.1 b (omega arith),
    )
