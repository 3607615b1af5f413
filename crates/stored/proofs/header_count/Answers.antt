use Rattle.std.proofs.Common.{sym, ◌∙◌, true≢false, arith}
use Rattle.stored.specs.Stored.{no_header, wrong_kind, wrong_count, accepted}
use Rattle.stored.proofs.header_count.Goals as goal

pub returns-in_default : goal.returns-in_default
returns-in_default g c = no_header (omega arith)

pub returns-then-kind : goal.returns-then-kind
returns-then-kind g c = wrong_kind (omega arith) (omega (arith, c.kind.ensures))

pub returns-then-not-is_count : goal.returns-then-not-is_count
returns-then-not-is_count g c =
    wrong_count (omega arith) (omega (arith, c.kind.ensures))
    (λ n. true≢false (sym (c.is_count.ensures.1 (omega arith, omega arith)) ∙ c.if-not-is_count.true))

pub returns : goal.returns
returns g c =
    let count = c.is_count.ensures.0 c.if-not-is_count.false in
    (accepted (record { header = omega arith; kind = omega (arith, c.kind.ensures); count = (omega arith, omega arith) }), omega arith)
