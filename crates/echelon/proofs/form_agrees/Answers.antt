use Rattle.echelon.proofs.Forms.{form_agrees_lem}
use Rattle.echelon.proofs.form_agrees.Goals as goal

pub returns : goal.returns
returns c = form_agrees_lem
