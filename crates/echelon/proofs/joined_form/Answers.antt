use Rattle.echelon.proofs.Joined.{joined-form}
use Rattle.echelon.proofs.joined_form.Goals as goal

pub returns : goal.returns
returns c = joined-form
