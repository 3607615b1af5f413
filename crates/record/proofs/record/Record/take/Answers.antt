use Rattle.field.specs.Sums.{Vector, Codes}
use Rattle.echelon.specs.Rows.{CodedRow, row_with}
use Rattle.record.specs.Records.{rec_of}
use Rattle.record.specs.Standings.{MayJoin}
use Rattle.record.proofs.Admitting.{figured-facts, joined-reduced, joined_none_alone, after_fits, after_adds}
use Rattle.record.proofs.record.Record.take.Goals as goal

pub join-requires : goal.join-requires
join-requires g c =
    let M = g.F.Field.model in
    let L = g.met.F.Field.laws in
    let s = c.args.self.now in
    let (r, (codes, may)) = c.requires.joins in
    let coded : CodedRow M s.count (row_with r c.args.figure.0) = (codes, c.requires.figure) in
    let x = c.figured-row.result in
    let made = c.figured-row.ensures in
    let facts =
    figured-facts M L s.count (rec_of s) s.reduced r codes c.args.fresh.now may c.args.figure.0 c.requires.figure x
    made.pivot made.weights made.figure made.within
    in
    let k = c.place_of-k.ensures in
    record {
      place = k.within;
      pivot = facts.left.below;
      coded = facts.coded;
      reduced = joined-reduced M L s.count (rec_of s) s.reduced _ coded x facts _ k.within k.below k.above;
      none_alone = joined_none_alone M L s.count (rec_of s) s.reduced _ coded x facts _ k.within k.below k.above;
    }

pub returns : goal.returns
returns g c =
    let M = g.F.Field.model in
    let L = g.met.F.Field.laws in
    let s = c.args.self.now in
    let x = c.figured-row.result in
    let made = c.figured-row.ensures in
    let k = c.place_of-k.ensures in
    let same = c.join.ensures.is in
    let facts =
    λ (r : Vector) (codes : Codes M s.count r) (may : MayJoin M s.count (rec_of s) r c.args.fresh.now).
    figured-facts M L s.count (rec_of s) s.reduced r codes c.args.fresh.now may c.args.figure.0 c.requires.figure x
    made.pivot made.weights made.figure made.within
    in
    record {
      count = c.join.ensures.count;
      fits = λ r (codes, may).
          after_fits M L s.count (rec_of s) s.reduced (row_with r c.args.figure.0) (codes, c.requires.figure) x
          (facts r codes may) _ k.within k.below k.above _ same;
      adds = λ r (codes, may).
          after_adds M L s.count (rec_of s) s.reduced (row_with r c.args.figure.0) (codes, c.requires.figure) x
          (facts r codes may) _ k.within k.below k.above _ same;
    }
