use Rattle.std.proofs.Common.{◌<◌, length, inl, inr, sym, ◌∙◌, ap₂, arith}
use Rattle.server.specs.Tables.{sums}
use Rattle.server.proofs.Pairs.{sums-length, sums_past, sums_at}
use Rattle.server.proofs.pair.PairServer.value.Goals as goal

pub returns-in_err-a : goal.returns-in_err-a
returns-in_err-a g c =
    let p = c.args.self.now in
    rw c.from_residual.ensures (sums_past g.L.Over.Field.model (g.L.Server.table p.left) (g.R.Server.table p.right) _ (inl c.in_err-a.ensures))

pub returns-in_err-b : goal.returns-in_err-b
returns-in_err-b g c =
    let p = c.args.self.now in
    rw c.from_residual-in_err-b.ensures (sums_past g.L.Over.Field.model (g.L.Server.table p.left) (g.R.Server.table p.right) _ (inr (omega (arith, c.in_err-b.ensures))))

pub returns : goal.returns
returns g c =
    let M = g.L.Over.Field.model in
    let m = c.args.m.0 in
    let t = g.L.Server.table c.args.self.now.left in
    let u = g.R.Server.table c.args.self.now.right in
    let a = c.in_ok-a.ensures in
    let b = c.in_ok-b.ensures in
    let inside : m < length (sums M t u) = omega (arith, sums-length M t u, a.0, b.0) in
    (inside, c.add.ensures.is ∙ ap₂ M.plus (search (a.1)) (search (b.1)) ∙ sym (sums_at M t u m a.0 (omega (arith, b.0))))
