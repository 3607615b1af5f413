use Rattle.log_record.proofs.Possible.{possible_after_a_log_lem}
use Rattle.log_record.proofs.theorems.possible_after_a_log.Goals as goal

pub returns : goal.returns
returns c = possible_after_a_log_lem
