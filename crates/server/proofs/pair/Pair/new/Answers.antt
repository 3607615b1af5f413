use Rattle.std.proofs.Common.{arith}
use Rattle.server.specs.Checks.{counts_differ, accepted}
use Rattle.server.proofs.pair.Pair.new.Goals as goal

pub returns-then-count-clause-refused : goal.returns-then-count-clause-refused
returns-then-count-clause-refused g c = counts_differ (omega (arith, c.count.ensures.is, c.count-2.ensures.is))

pub returns-clause-accepted : goal.returns-clause-accepted
returns-clause-accepted g c = accepted (omega (arith, c.count.ensures.is, c.count-2.ensures.is))
