use Rattle.echelon.proofs.Tables.{base-fits}
use Rattle.echelon.proofs.base_fits.Goals as goal

pub returns : goal.returns
returns c = base-fits
