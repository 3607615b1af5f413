use Rattle.std.proofs.Common.{◌≡◌, ◌-◌, ◌*◌, ◌/◌, ◌%◌, ◌<◌, sym, ap, ◌∙◌, lt_trans, mod-lt, mod-eq_of_lt, mul-one, arith}
use Rattle.amounts.specs.Modular.{times-mod-left}
use Rattle.amounts.specs.Inverse.{prime, turn, found, none_at_zero}
use Rattle.amounts.proofs.AmountsField.inv.Goals as goal

pub loop-rest-init : goal.loop-rest-init
loop-rest-init c =
    let a = c.args.a.0 % 65521 in
    let less : a < 65521 = mod-lt c.args.a.0 (omega arith) in
    (less, omega arith, ap (λ x. x % 65521) (mul-one a) ∙ mod-eq_of_lt less, λ e. e)

pub loop-rest-preserved : goal.loop-rest-preserved
loop-rest-preserved c =
    let r = c.loop-rest.rest in
    let low : 1 < r = omega arith in
    let pos : 0 < r = omega arith in
    let less : r < 65521 = c.loop-rest.invariant.0 in
    let left : 0 < 65521 % r = prime r low less in
    let falls : 65521 % r < 65521 = lt_trans (mod-lt 65521 pos) less in
    let next : c.mul-factor.result.0 ≡ (c.loop-rest.factor.0 * (65521 - 65521 / r)) % 65521 = c.mul-factor.ensures.is in
    let kept : (c.args.a.0 % 65521 * c.mul-factor.result.0) % 65521 ≡ 65521 % r =
    rw next (turn 65521 _ c.loop-rest.factor.0 r pos less c.loop-rest.invariant.2) in
    (falls, c.mul-factor.ensures.within, kept, λ z. absurd (omega arith))

pub returns-then-rest-eq0 : goal.returns-then-rest-eq0
returns-then-rest-eq0 c =
    record { is = sym (none_at_zero c.args.a.0 (c.loop-rest.invariant.3 c.if-rest-eq0.true)); within = omega arith }

pub returns-else-rest-eq0 : goal.returns-else-rest-eq0
returns-else-rest-eq0 c =
    let one : c.loop-rest.rest ≡ 1 = omega arith in
    let f = c.loop-rest.factor.0 in
    let inverse : (c.args.a.0 * f) % 65521 ≡ 1 = sym (times-mod-left 65521 c.args.a.0 f) ∙ c.loop-rest.invariant.2 ∙ one in
    record { is = sym (found c.args.a.0 f c.loop-rest.invariant.1 inverse); within = c.loop-rest.invariant.1 }
