use Rattle.echelon.proofs.Unique.{one_form}
use Rattle.echelon.proofs.one_form.Goals as goal

pub returns : goal.returns
returns c = one_form
