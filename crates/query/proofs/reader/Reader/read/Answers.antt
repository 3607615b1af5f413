use Rattle.std.proofs.Common.{◌≡◌, ℕ, Result, Err, sym, ap, ◌∙◌, arith}
use Rattle.std.specs.Option.{ok_or}
use Rattle.query.specs.declared.faults.LineFault.{LineFault}
use Rattle.query.specs.declared.faults.LineFault.TheVariants.{NoKind}
use Rattle.std.proofs.lemmas.Result.{err_from_is_err_and}
use Rattle.query.specs.declared.lines.Request.TheVariants.{Ask, Try}
use Rattle.query.proofs.LineChecks.{reading_empty, reading-remark, reading_long, reading-short, row_fault, row_fine, kind-ask, kind-try, kind-witness, kind_none}
use Rattle.query.proofs.reader.Reader.read.Goals as goal

pub returns-in_err-ok_or : goal.returns-in_err-ok_or
returns-in_err-ok_or c =
    let p = err_from_is_err_and c.from_residual.result c.from_residual.ensures.1 in
    let none = c.in_err-ok_or.ensures.ok_part in
    let fault : ◌≡◌ {A = Result ℕ LineFault} (Err c.in_err-ok_or.field-0.0) (Err NoKind) = c.in_err-ok_or.ensures.value ∙ ap (λ o. ok_or o NoKind) none in
    let same : c.in_err-ok_or.field-0.0 ≡ NoKind = cc in
    rw (p.1, p.2, same)
    (sym (reading_empty c.args.self.now.limits c.args.self.now.line.now (sym none ∙ c.char_at.ensures)))

pub returns-in-35 : goal.returns-in-35
returns-in-35 c = sym (reading-remark c.args.self.now.limits c.args.self.now.line.now c.in_ok-ok_or.field-0 (sym c.in_ok-ok_or.ensures.ok_part ∙ c.char_at.ensures) c.in-35.is)

pub returns-in_default : goal.returns-in_default
returns-in_default c =
    sym (reading_long c.args.self.now.limits c.args.self.now.line.now c.in_ok-ok_or.field-0 (sym c.in_ok-ok_or.ensures.ok_part ∙ c.char_at.ensures) (λ z. omega arith) (omega arith))

pub returns-in_err-read_items-in-a : goal.returns-in_err-read_items-in-a
returns-in_err-read_items-in-a c =
    let p = err_from_is_err_and c.from_residual-in_err-read_items-in-a.result c.from_residual-in_err-read_items-in-a.ensures.1 in
    rw (p.1, p.2)
    (sym (reading-short c.args.self.now.limits c.args.self.now.line.now c.in_ok-ok_or.field-0 (sym c.in_ok-ok_or.ensures.ok_part ∙ c.char_at.ensures) (λ z. let e = c.in-a.is in omega arith) (omega arith)
    ∙ kind-ask c.args.self.now.limits _ c.args.self.now.line.now c.in-a.is ∙ row_fault Ask _ _ (sym c.read_items.ensures ∙ c.in_err-read_items-in-a.was)))

pub returns-in_ok-read_items-in-a : goal.returns-in_ok-read_items-in-a
returns-in_ok-read_items-in-a c =
    sym (reading-short c.args.self.now.limits c.args.self.now.line.now c.in_ok-ok_or.field-0 (sym c.in_ok-ok_or.ensures.ok_part ∙ c.char_at.ensures) (λ z. let e = c.in-a.is in omega arith) (omega arith)
    ∙ kind-ask c.args.self.now.limits _ c.args.self.now.line.now c.in-a.is ∙ row_fine Ask _ _ (sym c.read_items.ensures ∙ c.in_ok-read_items-in-a.was) (search))

pub returns-in_err-read_items-in-t : goal.returns-in_err-read_items-in-t
returns-in_err-read_items-in-t c =
    let p = err_from_is_err_and c.from_residual-in_err-read_items-in-t.result c.from_residual-in_err-read_items-in-t.ensures.1 in
    rw (p.1, p.2)
    (sym (reading-short c.args.self.now.limits c.args.self.now.line.now c.in_ok-ok_or.field-0 (sym c.in_ok-ok_or.ensures.ok_part ∙ c.char_at.ensures) (λ z. let e = c.in-t.is in omega arith) (omega arith)
    ∙ kind-try c.args.self.now.limits _ c.args.self.now.line.now c.in-t.is ∙ row_fault Try _ _ (sym c.read_items-in-t.ensures ∙ c.in_err-read_items-in-t.was)))

pub returns-in_ok-read_items-in-t : goal.returns-in_ok-read_items-in-t
returns-in_ok-read_items-in-t c =
    sym (reading-short c.args.self.now.limits c.args.self.now.line.now c.in_ok-ok_or.field-0 (sym c.in_ok-ok_or.ensures.ok_part ∙ c.char_at.ensures) (λ z. let e = c.in-t.is in omega arith) (omega arith)
    ∙ kind-try c.args.self.now.limits _ c.args.self.now.line.now c.in-t.is ∙ row_fine Try _ _ (sym c.read_items-in-t.ensures ∙ c.in_ok-read_items-in-t.was) (search))

pub returns-in-w : goal.returns-in-w
returns-in-w c =
    c.read_witness.ensures
    ∙ sym (reading-short c.args.self.now.limits c.args.self.now.line.now c.in_ok-ok_or.field-0 (sym c.in_ok-ok_or.ensures.ok_part ∙ c.char_at.ensures) (λ z. let e = c.in-w.is in omega arith) (omega arith)
    ∙ kind-witness c.args.self.now.limits _ c.args.self.now.line.now c.in-w.is)

pub returns-in_default-2 : goal.returns-in_default-2
returns-in_default-2 c =
    sym (reading-short c.args.self.now.limits c.args.self.now.line.now c.in_ok-ok_or.field-0 (sym c.in_ok-ok_or.ensures.ok_part ∙ c.char_at.ensures) (λ z. omega arith) (omega arith)
    ∙ kind_none c.args.self.now.limits c.in_ok-ok_or.field-0 c.args.self.now.line.now (λ z. omega arith) (λ z. omega arith) (λ z. omega arith))
