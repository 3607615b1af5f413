use Rattle.log_record.proofs.Written.{written_is_accepted_lem}
use Rattle.log_record.proofs.theorems.written_is_accepted.Goals as goal

pub returns : goal.returns
returns c = written_is_accepted_lem
