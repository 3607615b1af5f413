use Rattle.law.proofs.Facts.{stays_sane_lem}
use Rattle.law.proofs.stays_sane.Goals as goal

pub returns : goal.returns
returns c = stays_sane_lem
