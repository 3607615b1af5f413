use Rattle.std.proofs.Common.{◌≡◌, drop}
use Rattle.query.specs.Numbers.{digits, worth}
use Rattle.query.proofs.numbers.digits_worth.Given as goal

abbrev pub invariant-loop-b : goal.invariant-loop-b
invariant-loop-b l =
    (worth l.value (drop l.b-index l.text) ≡ worth 0 l.text)
    × (digits (drop l.b-index l.text) ≡ drop l.b-index l.text)
