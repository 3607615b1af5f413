use Rattle.std.proofs.Common.{rules, ◌≡◌, ℕ, ◌+◌, ◌<◌, Bool, true, false, length, is_some, Some, None, sym, refl, ap, ◌∙◌, subst, arith}
use Rattle.std.proofs.lemmas.Result.{err_from_is_err_and}
use Rattle.field.specs.Sums.{Vector, weights_of}
use Rattle.refusal.specs.declared.Refusal.TheVariants.{Discloses}
use Rattle.refusal.specs.declared.Site.TheVariants.{OfMember}
use Rattle.server.specs.Checks.{Count, Lowest}
use Rattle.echelon.specs.Reduced.{PinnedWith}
use Rattle.checks.specs.Checks.{RowCheck, RowMade}
use Rattle.checks.specs.CheckedRows.{row_of}
use Rattle.record.specs.Records.{rec_of}
use Rattle.record.specs.Audits.{opened}
use Rattle.law.specs.States.{submits, refused}
use Rattle.session.specs.States.{Follows}
use Rattle.session.specs.declared.session.Session.{Session}
use Rattle.session.proofs.Rows.{made_check, same_session}
use Rattle.session.proofs.Followed.{event_is, submit_open, submit_spent, submit_bad, submit_disclosing, granted}
use Rattle.session.proofs.session.Session.submit_row.Goals as goal
use Rattle.session.proofs.session.Session.submit_row.Goals.{After-is_some, After-count}

-- whether a row is open
open_so : (g : _) (c : After-is_some g) (b : Bool) → c.is_some.result ≡ b → is_some (opened c.args.self.now.audit) ≡ b
open_so g c b is = sym (ap is_some c.opened.ensures) ∙ sym c.is_some.ensures ∙ is

-- the count of the record is that of the table
size : (g : _) (c : After-count g) → c.count.result ≡ length (g.S.Server.table c.args.self.now.server)
size g c = c.count.ensures ∙ ap (λ r. r.count) c.«record».ensures ∙ c.args.self.now.counted

pub returns-then-is_some-clause-law : goal.returns-then-is_some-clause-law
returns-then-is_some-clause-law g c =
    submit_open g.met.S.Over.Field.laws c.args.self.now c.args.weights.now
    (open_so g (goal.at.returns-then-is_some-clause-law g c).After-is_some true c.if-is_some.true)

pub returns-then-self-clause-law : goal.returns-then-self-clause-law
returns-then-self-clause-law g c =
    submit_spent g.met.S.Over.Field.laws c.args.self.now c.args.weights.now
    (open_so g (goal.at.returns-then-self-clause-law g c).After-is_some false c.if-is_some.false) c.if-self.true

pub returns-in_err-row-clause-law : goal.returns-in_err-row-clause-law
returns-in_err-row-clause-law g c =
    let M = g.S.Over.Field.model in
    let x = c.args.self.now in
    let T = g.S.Server.table x.server in
    let ws = c.args.weights.now in
    let e = c.in_err-row.field-0.0 in
    let here = goal.at.returns-in_err-row-clause-law g c in
    let left : x.issued < 65535 = let ne = c.if-self.false in omega arith in
    let count : Count (length T) = subst Count x.counted x.audit.«record».members in
    let made : RowMade M c.count.result ws (Some e) = search (c.in_err-row.ensures.made) in
    let fails : RowCheck M (length T) ws (Some e) =
    made_check M (length T) ws (Some e) count (subst (λ (n : ℕ). RowMade M n ws (Some e)) (size g here.After-count) made) in
    let p = err_from_is_err_and c.from_residual.result c.from_residual.ensures.1 in
    rw (p.1, p.2) (submit_bad g.met.S.Over.Field.laws x ws (open_so g here.After-is_some false c.if-is_some.false) left e fails)

pub returns-in-Err-clause-law : goal.returns-in-Err-clause-law
returns-in-Err-clause-law g c =
    let M = g.S.Over.Field.model in
    let x = c.args.self.now in
    let T = g.S.Server.table x.server in
    let ws = c.args.weights.now in
    let row = c.in_ok-row.row in
    let i = c.in-Err.i.0 in
    let here = goal.at.returns-in-Err-clause-law g c in
    let left : x.issued < 65535 = let ne = c.if-self.false in omega arith in
    let count : Count (length T) = subst Count x.counted x.audit.«record».members in
    let passed : RowCheck M (length T) ws None =
    made_check M (length T) ws None count (subst (λ (n : ℕ). RowMade M n ws None) (size g here.After-count) c.in_ok-row.ensures.made) in
    let weights : row_of row ≡ weights_of ws = c.in_ok-row.ensures.row in
    let low : Lowest (PinnedWith M (length T) (rec_of x.audit.«record») (weights_of ws)) i =
    subst (λ (w : Vector). Lowest (PinnedWith M (length T) (rec_of x.audit.«record») w) i) weights
    (subst (λ (n : ℕ). Lowest (PinnedWith M n (rec_of x.audit.«record») (row_of row)) i) x.counted c.in-Err.ensures.pinned) in
    let same = same_session _ _ g.S.Server g.S.Over.Field x.server x.issued c.open.new.self x.audit c.in-Err.ensures.refused _ _ x.counted x.whole_row in
    event_is g.met.S.Over.Field.laws x _ _ (refused (submits ws) (Discloses (OfMember (record { 0 = i })))) (search rules)
    (subst (λ (y : Session g.row.S.Denot g.row.S-Over.Denot g.S.Server g.S.Over.Field). Follows x (refused (submits ws) (Discloses (OfMember (record { 0 = i })))) y) (sym same)
    (submit_disclosing g.met.S.Over.Field.laws x ws (open_so g here.After-is_some false c.if-is_some.false) left i passed low))

pub returns-in-Err-clause-refused : goal.returns-in-Err-clause-refused
returns-in-Err-clause-refused g c =
    let x = c.args.self.now in
    same_session _ _ g.S.Server g.S.Over.Field x.server x.issued c.open.new.self x.audit c.in-Err.ensures.refused _ _ x.counted x.whole_row

pub returns-clause-opens : goal.returns-clause-opens
returns-clause-opens g c =
    let x = c.args.self.now in
    let row = c.in_ok-row.row in
    let is : opened c.open.new.self ≡ Some (x.issued + 1, row) = search (c.in_default.ensures.opened) in
    let weights : row_of row ≡ weights_of c.args.weights.now = search (c.in_ok-row.ensures.row) in
    let members : row.count ≡ length (g.S.Server.table x.server) = c.in_ok-row.ensures.count ∙ size g (goal.at.returns-clause-opens g c).After-count in
    search (is, weights, members)

pub returns-clause-law : goal.returns-clause-law
returns-clause-law g c =
    let M = g.S.Over.Field.model in
    let x = c.args.self.now in
    let T = g.S.Server.table x.server in
    let ws = c.args.weights.now in
    let row = c.in_ok-row.row in
    let here = goal.at.returns-clause-law g c in
    let left : x.issued < 65535 = let ne = c.if-self.false in omega arith in
    let count : Count (length T) = subst Count x.counted x.audit.«record».members in
    let passed : RowCheck M (length T) ws None =
    made_check M (length T) ws None count (subst (λ (n : ℕ). RowMade M n ws None) (size g here.After-count) c.in_ok-row.ensures.made) in
    let weights : row_of row ≡ weights_of ws = search (c.in_ok-row.ensures.row) in
    let pending : opened c.open.new.self ≡ Some (x.issued + 1, row) = search (c.in_default.ensures.opened) in
    granted g.met.S.Over.Field.laws x ws (open_so g here.After-is_some false c.if-is_some.false) left _ row _ (search rules) (omega arith) refl
    pending weights c.in_default.ensures.«record» passed
    (subst (λ (w : Vector). (i : ℕ) → PinnedWith M (length T) (rec_of x.audit.«record») w i → ⊥) weights
    (subst (λ (n : ℕ). (i : ℕ) → PinnedWith M n (rec_of x.audit.«record») (row_of row) i → ⊥) x.counted c.in_default.ensures.free))
