use Rattle.echelon.proofs.Leftover.{fixed-leaves_nothing}
use Rattle.echelon.proofs.fixed_leaves_nothing.Goals as goal

pub returns : goal.returns
returns c = fixed-leaves_nothing
