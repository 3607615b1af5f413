use Rattle.std.proofs.Common.{◌≡◌, ◌<◌, true, List, length, is_ok, vec_items, sym, refl, subst, arith}
use lib.ListN.{length-map}
use Rattle.std.specs.List.{insert}
use Rattle.echelon.specs.Reduced.{Same}
use Rattle.echelon.specs.Elimination.{joined}
use Rattle.echelon.proofs.Unique.{same-reduced}
use Rattle.record.specs.Rows.{pivoted, all_pivoted}
use Rattle.record.specs.Records.{rec_of}
use Rattle.record.specs.declared.rows.RecordRow.{RecordRow}
use Rattle.record.proofs.Join.{same-joined, one_more, joined_lowest}
use Rattle.record.proofs.Shaped.{same_none_alone}
use Rattle.record.proofs.Views.{rows-length}
use Rattle.record.proofs.record.Record.join.Goals as goal
use Rattle.record.proofs.record.Record.join.Goals.{After-insert}

pub clear_rows-requires : goal.clear_rows-requires
clear_rows-requires g c =
    let r = c.args.self.now in
    record {
      few = r.members.1;
      pivot = c.requires.pivot;
      by_coded = c.requires.coded;
      by_lowest = joined_lowest g.F.Field.model r.count (pivoted c.args.fresh) c.args.k.0 (rec_of r) c.requires.place c.requires.reduced;
      coded = λ a h. let b : a < length (rec_of r) = simp length-map (omega arith) in (r.reduced.weights_codes a b, r.reduced.figure_code a b);
    }

pub insert-requires : goal.insert-requires
insert-requires g c =
    let r = c.args.self.now in
    let size : length (rec_of r) ≡ length (vec_items r.rows) = rows-length _ in
    omega (arith, c.requires.place, c.clear_rows.ensures.len)

-- the row went in
went_in : (g : _) (c : After-insert g) → is_ok c.insert.result ≡ true
went_in g c =
    let M = g.F.Field.model in
    let r = c.args.self.now in
    let size : length (rec_of r) ≡ length (vec_items r.rows) = rows-length _ in
    let more = one_more M r.count (pivoted c.args.fresh) c.args.k.0 (rec_of r) c.requires.place c.requires.reduced in
    c.insert.ensures.succeeds (omega (arith, c.clear_rows.ensures.len, c.clear_rows.ensures.cap, r.room, r.rows.ok.0))

rows_after :
    (g : _) (c : After-insert g)
    → Same c.args.self.now.count (joined g.F.Field.model (pivoted c.args.fresh) c.args.k.0 (rec_of c.args.self.now)) (all_pivoted (vec_items c.insert.new.self))
rows_after g c =
    let M = g.F.Field.model in
    let r = c.args.self.now in
    let rows₁ = vec_items c.clear_rows.new.rows in
    let size : length (rec_of r) ≡ length (vec_items r.rows) = rows-length _ in
    let size₁ : length (all_pivoted rows₁) ≡ length rows₁ = rows-length _ in
    let inserted = rw (went_in g c) at c.insert.ensures.items in
    let items : vec_items c.insert.new.self ≡ insert rows₁ c.args.k.0 c.args.fresh = search (inserted) in
    subst (λ (l : List RecordRow). Same r.count (joined M (pivoted c.args.fresh) c.args.k.0 (rec_of r)) (all_pivoted l)) (sym items)
    (same-joined M r.count c.args.fresh (vec_items r.rows) rows₁
    (omega (arith, c.clear_rows.ensures.len, c.clear_rows.new.rows.ok.0, r.rows.ok.0))
    c.clear_rows.ensures.is c.args.k.0 c.requires.place)

pub invariant_of-self : goal.invariant_of-self
invariant_of-self g c =
    let M = g.F.Field.model in
    let r = c.args.self.now in
    let same = rows_after g (goal.at.invariant_of-self g c).After-insert in
    let R = same-reduced r.count _ _ same M c.requires.reduced in
    record {
      members = r.members;
      reduced = R;
      none_alone = same_none_alone M r.count _ _ c.requires.reduced same c.requires.none_alone;
      room = omega (arith, c.insert.ensures.capacity, c.clear_rows.ensures.cap, r.room);
    }

pub unwrap-requires : goal.unwrap-requires
unwrap-requires g c = went_in g (goal.at.unwrap-requires g c).After-insert

pub returns : goal.returns
returns g c = record { count = refl; is = rows_after g (goal.at.returns g c).After-insert }
