use Rattle.echelon.proofs.Forms.{form-kept}
use Rattle.echelon.proofs.form_kept.Goals as goal

pub returns : goal.returns
returns c = form-kept
