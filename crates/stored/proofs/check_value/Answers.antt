use Rattle.std.proofs.Common.{refl, arith}
use Rattle.stored.specs.Stored.{ValueCheck, not_an_element, stored_zero, accepted}
use Rattle.stored.proofs.check_value.Goals as goal

pub returns-then-e-size : goal.returns-then-e-size
returns-then-e-size g c = not_an_element (omega arith)

-- whether the code refuses here or accepts
pub returns-then-e-eq0 : goal.returns-then-e-eq0
returns-then-e-eq0 g c = search (stored_zero, ValueCheck.accepted, arith)

pub returns : goal.returns
returns g c = (accepted (omega arith) c.if-e-eq0.false, refl)
