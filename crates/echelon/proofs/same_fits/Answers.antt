use Rattle.echelon.proofs.Unique.{same-fits}
use Rattle.echelon.proofs.same_fits.Goals as goal

pub returns : goal.returns
returns c = same-fits
