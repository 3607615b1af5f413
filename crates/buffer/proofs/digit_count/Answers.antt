-- Answers for `digit_count`: the power of ten below the value tells its digits.
use Rattle.std.proofs.Common.{arith}
use Rattle.buffer.proofs.Digits.{digits_counted, five_digits}
use Rattle.buffer.proofs.digit_count.Goals as goal

pub returns : goal.returns
returns c =
    let v = c.args.value in
    let m = c.max.ensures in
    let is = digits_counted v c.ilog10.result (omega arith) (omega arith) (omega arith) in
    record { is = is; few = omega arith; five = λ small. omega (arith, is, five_digits v small) }
