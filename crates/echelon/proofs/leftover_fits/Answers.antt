use Rattle.echelon.proofs.Leftover.{leftover-fits}
use Rattle.echelon.proofs.leftover_fits.Goals as goal

pub returns : goal.returns
returns c = leftover-fits
