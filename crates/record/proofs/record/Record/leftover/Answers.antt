use Rattle.std.proofs.Common.{◌≡◌, ◌+◌, ◌<◌, ◌≤◌, get_or, take, length, refl, sym, ap, ◌∙◌, subst, add-one, arith, take_all}
use lib.ListN.{length-map}
use Rattle.echelon.specs.Rows.{Figured}
use Rattle.echelon.specs.Elimination.{cleared, leftover}
use Rattle.echelon.proofs.Leftover.{leftover-next}
use Rattle.record.specs.Rows.{figured_row, pivoted, SameRow}
use Rattle.record.specs.Records.{rec_of}
use Rattle.checks.specs.CheckedRows.{row_of}
use Rattle.field.specs.Sums.{Vector}
use Rattle.record.proofs.Views.{row-elements, facts_of, cleared-same, same_trans, no_record_row, leftover-unfigured}
use Rattle.record.proofs.record.Record.leftover.Goals as goal

-- every record row was gone over, and the row was taken with the figure 0
pub returns : goal.returns
returns g c =
    let M = g.F.Field.model in
    let r = c.args.self.now in
    let all : length (rec_of r) ≤ c.loop-by.by-index = simp length-map (omega (arith, c.as_slice-rows.ensures.len)) in
    let done = rw (take_all c.loop-by.by-index (rec_of r) all) at c.loop-by.invariant.0 in
    record {
      is = leftover-unfigured M r.count (rec_of r) (figured_row c.loop-by.left) _ (row_of c.args.row.now) r.reduced.pivot_below done
          (λ m b. ap (λ w. w m) c.places.ensures) (omega arith);
      coded = c.loop-by.invariant.1;
    }

pub loop-by-init : goal.loop-by-init
loop-by-init g c =
    let r = c.args.self.now in (
      record { rows = λ m h. refl; figures = refl },
      (λ m h. subst (λ (w : Vector). w m < g.F.Field.model.size) (sym c.places.ensures) (row-elements r c.args.row.now m h), omega (arith, g.met.F.Field.laws.two_elements)),
    )

pub clear-requires : goal.clear-requires
clear-requires g c =
    let r = c.args.self.now in
    let here = facts_of r c.as_slice-rows.result.now c.as_slice-rows.ensures.value c.loop-by.by-index c.loop-by-test.true in
    record { few = r.members.1; pivot = here.pivot; coded = c.loop-by.invariant.1; by_coded = here.coded; by_lowest = here.lowest }

pub loop-by-preserved : goal.loop-by-preserved
loop-by-preserved g c =
    let M = g.F.Field.model in
    let r = c.args.self.now in
    let a = c.loop-by.by-index in
    let sl = c.as_slice-rows.result.now in
    let x = get_or sl a no_record_row in
    let start = figured_row (record { weights = c.places.result; figure = record { 0 = 0 } }) in
    let here = facts_of r sl c.as_slice-rows.ensures.value a c.loop-by-test.true in
    let step : leftover M (take (a + 1) (rec_of r)) start ≡ cleared M (pivoted x) (leftover M (take a (rec_of r)) start) =
    ap (λ k. leftover M (take k (rec_of r)) start) (add-one a)
    ∙ leftover-next M (rec_of r) a here.below start
    ∙ ap (λ e. cleared M e (leftover M (take a (rec_of r)) start)) here.is in
    let moved = cleared-same M r.count (pivoted x) (figured_row c.loop-by.left) (leftover M (take a (rec_of r)) start) here.pivot c.loop-by.invariant.0 in (
      subst (λ (h : Figured). SameRow r.count (figured_row c.clear.new.self) h) (sym step) (same_trans c.clear.ensures.is moved),
      c.clear.ensures.coded,
    )
