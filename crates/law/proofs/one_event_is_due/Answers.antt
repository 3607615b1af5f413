use Rattle.law.proofs.One.{one_event_is_due_lem}
use Rattle.law.proofs.one_event_is_due.Goals as goal

pub returns : goal.returns
returns c = one_event_is_due_lem
