use Rattle.std.proofs.Common.{sym, inl}
use Rattle.echelon.proofs.Values.{less_none}
use Rattle.record.proofs.rows.FiguredRow.clear.Goals as goal

pub returns-else-self-by-ne0-clause-is : goal.returns-else-self-by-ne0-clause-is
returns-else-self-by-ne0-clause-is g c =
    let M = g.F.Field.model in
    let L = g.met.F.Field.laws in
    let n = c.args.n in
    let none = c.if-self-by-ne0.false in
    let own = c.requires.coded in
    let other = c.requires.by_coded in
    let factor = own.0 c.args.by.now.pivot.0 c.requires.pivot in
    record {
      rows = λ m h. sym (less_none M L n _ _ _ (own.0 m h) factor (other.0 m h) (inl none));
      figures = sym (less_none M L n _ _ _ own.1 factor other.1 (inl none));
    }
