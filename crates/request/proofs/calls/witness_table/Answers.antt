use Rattle.std.proofs.Common.{◌≡◌, ℕ, ◌≤◌, List, length, sym, ◌∙◌, subst, arith}
use Rattle.std.proofs.lemmas.Result.{err_from_is_err_and}
use Rattle.field.specs.declared.Element.{Element}
use Rattle.server.specs.Tables.{codes}
use Rattle.law.specs.States.{witnesses, witnessed, refused}
use Rattle.session.specs.States.{members_of, Follows}
use Rattle.request.proofs.Fronts.{part, front_is, zero_behind}
use Rattle.request.proofs.calls.witness_table.Goals as goal

pub returns-in_err-witness : goal.returns-in_err-witness
returns-in_err-witness g c =
    let x = c.args.session.now in
    let n = c.count.result in
    let few : n ≤ 64 = omega (arith, c.count.ensures.members, c.count.ensures.lawful.few) in
    let e = c.in_err-witness.field-0.0 in
    let step : Follows x (refused (witnesses c.args.member.0 c.args.element.0 (members_of x)) e) x =
    subst (λ (l : ℕ). Follows x (refused (witnesses c.args.member.0 c.args.element.0 l) e) x) (part _ n few ∙ c.count.ensures.members) c.in_err-witness.ensures.law in
    let p = err_from_is_err_and c.from_residual.result c.from_residual.ensures.1 in
    rw (p.1, p.2) (record { zero = tt; law = step })

pub returns : goal.returns
returns g c =
    let x = c.args.session.now in
    let n = c.count.result in
    let few : n ≤ 64 = omega (arith, c.count.ensures.members, c.count.ensures.lawful.few) in
    let i = c.args.member.0 in
    let a = c.args.element.0 in
    let at = c.in_ok-witness.ensures in
    let size = part _ n few ∙ c.count.ensures.members in
    let long : length c.witness.new.out ≡ members_of x = at.length ∙ size in
    let step : Follows x (witnessed i a (members_of x) (codes c.witness.new.out)) x =
    subst (λ (l : ℕ). Follows x (witnessed i a l (codes c.witness.new.out)) x) size at.law in
    record {
      zero = zero_behind _ c.witness.new.out n (members_of x) (search) long;
      law =
          subst (λ (ws : List Element). Follows x (witnessed i a (members_of x) (codes ws)) x)
          (sym (front_is _ c.witness.new.out n (members_of x) (search) long)) step;
    }
