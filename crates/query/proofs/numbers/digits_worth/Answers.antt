use Rattle.std.proofs.Common.{◌+◌, ◌*◌, ◌<◌, arith, rules}
use Rattle.query.proofs.Digits.{worth_room}
use Rattle.query.proofs.numbers.digits_worth.Goals as goal

pub overflow_mul-value : goal.overflow_mul-value
overflow_mul-value c =
    let r = worth_room c.args.text.now c.loop-b.b-index c.loop-b.value c.loop-b-test.true in
    let e = c.loop-b.invariant.0 in let f = c.requires.few in let h : c.loop-b.value * 10 < 100000 = omega arith in search rules

pub overflow_add-value : goal.overflow_add-value
overflow_add-value c =
    let r = worth_room c.args.text.now c.loop-b.b-index c.loop-b.value c.loop-b-test.true in
    let e = c.loop-b.invariant.0 in let f = c.requires.few in let x = c.from.ensures in let h : c.loop-b.value * 10 + c.from.result < 100000 = omega arith in search rules
