use Rattle.log_record.proofs.Written.{accepted_is_written_lem}
use Rattle.log_record.proofs.theorems.accepted_is_written.Goals as goal

pub returns : goal.returns
returns c = accepted_is_written_lem
