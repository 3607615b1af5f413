use Rattle.std.proofs.Common.{rules, ◌≡◌, ◌<◌, ◌≤◌, length, get_or, vec_items, ltb, sym, ap, ◌∙◌, subst, arith, ltb-true, ltb-false}
use lib.ListN.{length-map}
use Rattle.std.specs.List.Sorted.{IsPartitionedBy}
use Rattle.std.proofs.lemmas.List.Sorted.{IsPartitionPoint-from_clause, IsPartitionedBy-ltb}
use Rattle.echelon.specs.Reduced.{at}
use Rattle.record.specs.Rows.{all_pivoted}
use Rattle.record.specs.Records.{rec_of}
use Rattle.record.proofs.Views.{at_row, no_record_row, pivots_sorted}
use Rattle.record.proofs.record.Record.place_of.Goals as goal

pub returns : goal.returns
returns g c =
    let r = c.args.self.now in
    let rows = c.as_slice.result.now in
    let p = c.args.pivot.0 in
    let size : length (rec_of r) ≡ length rows = length-map _ _ ∙ ap length (sym c.as_slice.ensures.value) in
    let pivot : (a : _) → (at (rec_of r) a).pivot ≡ (get_or rows a no_record_row).pivot.0 =
    λ a. ap (λ l. (at (all_pivoted l) a).pivot) (sym c.as_slice.ensures.value) ∙ ap (λ e. e.pivot) (at_row rows a) in
    let parted =
    IsPartitionPoint-from_clause (λ x. ltb x.pivot.0 p) rows _ c.partition_point.ensures.partitioned
    (subst (λ l. IsPartitionedBy (λ x. ltb x.pivot.0 p) l) (sym c.as_slice.ensures.value) (IsPartitionedBy-ltb (λ x. x.pivot.0) (vec_items r.rows) p (pivots_sorted r)))
    (λ a b f' k. search rules) in
    record {
      within = omega (arith, size, c.partition_point.ensures.bound);
      below = λ a h. subst (λ k. k < p) (sym (pivot a)) (ltb-true _ _ (parted.0 a no_record_row (omega arith) h));
      above = λ a h k. subst (λ j. p ≤ j) (sym (pivot a)) (ltb-false _ _ (parted.1 a no_record_row h (omega (arith, size))));
    }
