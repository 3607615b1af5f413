use Rattle.log_record.proofs.Order.{read_is_written_lem}
use Rattle.log_record.proofs.theorems.read_is_written.Goals as goal

pub returns : goal.returns
returns c = read_is_written_lem
