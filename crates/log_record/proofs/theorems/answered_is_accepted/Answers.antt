use Rattle.log_record.proofs.Answered.{answered_is_accepted_lem}
use Rattle.log_record.proofs.theorems.answered_is_accepted.Goals as goal

pub returns : goal.returns
returns c = answered_is_accepted_lem
