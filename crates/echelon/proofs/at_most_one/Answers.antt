use Rattle.echelon.proofs.Unique.{at_most_one}
use Rattle.echelon.proofs.at_most_one.Goals as goal

pub returns : goal.returns
returns c = at_most_one
