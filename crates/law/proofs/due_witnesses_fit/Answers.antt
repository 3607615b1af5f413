use Rattle.law.proofs.Possible.{due_witnesses_fit_lem}
use Rattle.law.proofs.due_witnesses_fit.Goals as goal

pub returns : goal.returns
returns c = due_witnesses_fit_lem
