use Rattle.std.proofs.Common.{◌≡◌, ℕ, min, ap, ◌∙◌, arith}
use Rattle.query.specs.declared.items.Limits.{Limits}
use Rattle.query.specs.Lines.{limits, reading}
use Rattle.query.proofs.Exactness.{exact}
use Rattle.query.proofs.Parting.{parts}
use Rattle.query.proofs.FirstFaults.{firsts}
use Rattle.query.proofs.Places.{within}
use Rattle.query.proofs.lines.read_line.Goals as goal

same : (m n s t : ℕ) → m ≡ n → s ≡ t → ◌≡◌ {A = Limits} (record { members = m; size = s }) (record { members = n; size = t })
same m n s t e f = ap (λ k. record { members = k; size = s }) e ∙ ap (λ k. record { members = n; size = k }) f

pub returns : goal.returns
returns g c =
    let members : c.min.result ≡ min c.args.n 64 = omega (arith, c.min.ensures) in
    let e =
    c.read.ensures ∙ ap (λ k. reading k c.args.line.now) (same _ _ _ _ members c.size.ensures) in
    record {
      is = e;
      exact = exact g.F.Field.model g.met.F.Field.laws c.args.n c.args.line.now _ e;
      parts = parts (limits g.F.Field.model c.args.n) c.args.line.now _ e;
      firsts = firsts g.F.Field.model g.met.F.Field.laws c.args.n c.args.line.now _ e;
      within = within (limits g.F.Field.model c.args.n) c.args.line.now _ e;
    }
