use Rattle.echelon.proofs.Forms.{form_grown_lem}
use Rattle.echelon.proofs.form_grown.Goals as goal

pub returns : goal.returns
returns c = form_grown_lem
