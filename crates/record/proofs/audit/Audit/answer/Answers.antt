use Rattle.std.proofs.Common.{◌≡◌, ◌<◌, Some, Option, option_map, List, refl, sym, ap, subst, arith}
use Rattle.checks.specs.CheckedRows.{row_of}
use Rattle.record.specs.Awaits.{Awaits, Awaited}
use Rattle.record.specs.Audits.{opened, none_open, no_figure, kept, joined}
use Rattle.record.specs.Records.{rec_of, MayTake}
use Rattle.record.specs.Judged.{Adds, FitsBoth}
use Rattle.echelon.specs.Rows.{row_with}
use Rattle.record.specs.declared.record.Record.{Record}
use Rattle.echelon.specs.Reduced.{Pivoted}
use Rattle.record.specs.declared.audit.OpenRow.{OpenRow}
use Rattle.record.specs.declared.rows.FreshRow.{FreshRow}
use Rattle.record.proofs.Admitting.{kept-adds}
use Rattle.record.proofs.Verdict.{fresh-not_fixed}
use Rattle.record.proofs.Views.{row-elements}
use Rattle.record.proofs.audit.Audit.answer.Goals as goal

pub returns-in_default-clause-answered : goal.returns-in_default-clause-answered
returns-in_default-clause-answered g c = none_open (ap (option_map (λ p. (p.permit, p.row))) c.in_default.is) refl

pub returns-then-figure-size-clause-answered : goal.returns-then-figure-size-clause-answered
returns-then-figure-size-clause-answered g c =
    no_figure (c.in-Some.held.permit, c.in-Some.held.row) (ap (option_map (λ p. (p.permit, p.row))) c.in-Some.is) (omega arith) refl

pub returns-in_default-fresh-clause-answered : goal.returns-in_default-fresh-clause-answered
returns-in_default-fresh-clause-answered g c =
    let M = g.F.Field.model in
    let r = c.args.self.now.«record» in
    let held = c.in-Some.held in
    let awaited = subst (λ (p : Option (OpenRow g.row.F.Denot g.F.Field)). Awaited M r.count (rec_of r) p) c.in-Some.is c.args.self.now.awaited in
    let fixes = subst (λ (o : Option FreshRow). Awaits M r.count (rec_of r) (row_of held.row) o) c.in_default-fresh.is awaited in
    let same : rec_of c.close.new.self.«record» ≡ rec_of r = ap rec_of c.close.ensures.«record» in
    let one : opened c.args.self.now ≡ Some (held.permit, held.row) = ap (option_map (λ p. (p.permit, p.row))) c.in-Some.is in
    let figure : c.args.figure.0 < M.size = omega arith in
    let adds : Adds M r.count (rec_of r) (row_with (row_of held.row) c.args.figure.0) (rec_of c.close.new.self.«record») =
    subst (λ (rec : List Pivoted). Adds M r.count (rec_of r) (row_with (row_of held.row) c.args.figure.0) rec) (sym same)
    (kept-adds M g.met.F.Field.laws r.count (rec_of r) _ fixes)
    in
    let known = kept (held.permit, held.row) one figure fixes same adds in
    search (known)

pub returns-clause-answered : goal.returns-clause-answered
returns-clause-answered g c =
    let M = g.F.Field.model in
    let r = c.args.self.now.«record» in
    let held = c.in-Some.held in
    let w = row_of held.row in
    let h = row_with w c.args.figure.0 in
    let after = rec_of c.take.new.self in
    let codes = row-elements r held.row in
    let awaited = subst (λ (p : Option (OpenRow g.row.F.Denot g.F.Field)). Awaited M r.count (rec_of r) p) c.in-Some.is c.args.self.now.awaited in
    let may = subst (λ (o : Option FreshRow). Awaits M r.count (rec_of r) w o) c.in-Some-fresh.is awaited in
    let same = c.close.ensures.«record» in
    let taken = subst (λ (s : Record g.row.F.Denot g.F.Field). MayTake s w c.in-Some-fresh.fresh) (sym same) (codes, may) in
    -- the row was taken with its figure
    let fits : FitsBoth M c.close.new.self.«record».count (rec_of c.close.new.self.«record») h after = search (c.take.ensures.fits w taken) in
    let adds : Adds M c.close.new.self.«record».count (rec_of c.close.new.self.«record») h after = search (c.take.ensures.adds w taken) in
    joined (held.permit, held.row) (ap (option_map (λ p. (p.permit, p.row))) c.in-Some.is) (omega arith)
    (fresh-not_fixed M g.met.F.Field.laws r.count (rec_of r) r.reduced w codes _ may)
    (subst (λ (s : Record g.row.F.Denot g.F.Field). FitsBoth M s.count (rec_of s) h after) same fits)
    (subst (λ (s : Record g.row.F.Denot g.F.Field). Adds M s.count (rec_of s) h after) same adds)
