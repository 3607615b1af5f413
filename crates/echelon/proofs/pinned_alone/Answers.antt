use Rattle.echelon.proofs.Tables.{pinned_alone_lem}
use Rattle.echelon.proofs.pinned_alone.Goals as goal

pub returns : goal.returns
returns c = pinned_alone_lem
