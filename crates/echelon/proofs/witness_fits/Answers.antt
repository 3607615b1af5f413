use Rattle.echelon.proofs.Tables.{witness-fits}
use Rattle.echelon.proofs.witness_fits.Goals as goal

pub returns : goal.returns
returns c = witness-fits
