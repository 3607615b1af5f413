use Rattle.std.proofs.Common.{◌≡◌, ℕ, ◌∙◌, ap, take, length, sym, arith}
use Rattle.std.proofs.lemmas.Bool.Decides.{not_from_Decides}
use Rattle.std.proofs.lemmas.Result.{err_from_is_err_and}
use Rattle.field.specs.Sums.{weights_of}
use Rattle.server.specs.Checks.{Count}
use Rattle.checks.specs.Checks.{wrong_count, checked}
use Rattle.checks.proofs.Passed.{row_length_lem}
use Rattle.checks.proofs.Made.{made-past, made-same, made-elements, made-named}
use Rattle.checks.proofs.row.CheckedRow.new.Goals as goal

pub returns-then-not-is_count-clause-made : goal.returns-then-not-is_count-clause-made
returns-then-not-is_count-clause-made g c = wrong_count (not_from_Decides c.is_count.result c.is_count.ensures c.if-not-is_count.true)

pub returns-in_err-check_row-clause-made : goal.returns-in_err-check_row-clause-made
returns-in_err-check_row-clause-made g c =
    let p = err_from_is_err_and c.from_residual.result c.from_residual.ensures.1 in
    rw (p.1, p.2) (checked (c.is_count.ensures.0 c.if-not-is_count.false) _ c.in_err-check_row.ensures)

pub invariant_of-result : goal.invariant_of-result
invariant_of-result g c =
    let M = g.F.Field.model in
    let count : Count c.args.n = c.is_count.ensures.0 c.if-not-is_count.false in
    let passed = c.in_ok-check_row.ensures in
    let row = c.padded.result in
    let each = c.padded.ensures.each in
    let rest = c.padded.ensures.rest in
    record {
      members = count;
      elements = made-elements M c.args.n count _ passed row each rest g.met.F.Field.laws;
      none_past = made-past M c.args.n count _ passed row each rest;
      some_named = made-named M c.args.n count _ passed row each rest;
    }

pub returns-clause-made : goal.returns-clause-made
returns-clause-made g c = checked (c.is_count.ensures.0 c.if-not-is_count.false) _ c.in_ok-check_row.ensures

pub returns-clause-row : goal.returns-clause-row
returns-clause-row g c =
    let count : Count c.args.n = c.is_count.ensures.0 c.if-not-is_count.false in
    let same : (m : ℕ) → weights_of c.padded.result m ≡ weights_of c.args.weights.now m =
    made-same g.F.Field.model c.args.n count _ c.in_ok-check_row.ensures c.padded.result c.padded.ensures.each c.padded.ensures.rest
    in
    λ i m. same m i

pub returns-clause-list : goal.returns-clause-list
returns-clause-list g c =
    let count : Count c.args.n = c.is_count.ensures.0 c.if-not-is_count.false in
    let long : length c.args.weights.now ≡ c.args.n = row_length_lem g.F.Field.model _ _ c.in_ok-check_row.ensures in
    ap (λ k. take k c.padded.result) (sym long) ∙ c.padded.ensures.front (omega (arith, count))
