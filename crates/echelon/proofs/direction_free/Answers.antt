use Rattle.echelon.proofs.Tables.{direction-free}
use Rattle.echelon.proofs.direction_free.Goals as goal

pub returns : goal.returns
returns c = direction-free
