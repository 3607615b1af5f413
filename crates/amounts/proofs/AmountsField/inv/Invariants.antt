use Rattle.std.proofs.Common.{◌≡◌, ◌*◌, ◌%◌, ◌<◌}
use Rattle.amounts.proofs.AmountsField.inv.Given as goal

abbrev pub invariant-loop-rest : goal.invariant-loop-rest
invariant-loop-rest l =
    (l.rest < 65521) × (l.factor.0 < 65521) × ((l.initial.rest * l.factor.0) % 65521 ≡ l.rest) × (l.rest ≡ 0 → l.initial.rest ≡ 0)

abbrev pub decreases-loop-rest : goal.decreases-loop-rest
decreases-loop-rest l = l.rest
