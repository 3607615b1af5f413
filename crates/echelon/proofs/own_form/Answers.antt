use Rattle.echelon.proofs.Own.{own_form}
use Rattle.echelon.proofs.own_form.Goals as goal

pub returns : goal.returns
returns c = own_form
