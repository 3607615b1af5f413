use Rattle.log_record.proofs.Once.{one_answer}
use Rattle.log_record.proofs.theorems.one_answer.Goals as goal

pub returns : goal.returns
returns c = one_answer
