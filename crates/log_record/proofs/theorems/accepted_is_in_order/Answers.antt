use Rattle.log_record.proofs.Order.{accepted_is_in_order_lem}
use Rattle.log_record.proofs.theorems.accepted_is_in_order.Goals as goal

pub returns : goal.returns
returns c = accepted_is_in_order_lem
