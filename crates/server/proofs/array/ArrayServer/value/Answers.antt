use Rattle.std.proofs.Common.{◌≡◌, length, get_or, sym, ap, ◌∙◌, rules, arith}
use Rattle.server.specs.Tables.{value_at, codes, element_or_zero_lem}
use Rattle.server.proofs.Arrays.{code_at}
use Rattle.server.proofs.Listed.{answered}
use Rattle.server.proofs.array.ArrayServer.value.Goals as goal

pub returns : goal.returns
returns g c =
    let M = g.F.Field.model in
    let m = c.args.m.0 in
    let list = c.args.self.now.elements.now in
    let es = codes list in
    let read : c.unwrap_or-e.result ≡ get_or list m (record { 0 = 0 }) = search rules in
    let code : c.unwrap_or-e.result.0 ≡ value_at es m = ap (λ e. e.0) read ∙ sym (code_at list m) in
    answered M (length es) (value_at es) m _ (omega (arith, c.count.ensures.is)) (c.element_or_zero.ensures ∙ ap (element_or_zero_lem M) code)
