use Rattle.std.proofs.Common.{◌≡◌, min, length, arith}
use Rattle.checks.proofs.Fronts.{padded_front, padded_rest, padded_each}
use Rattle.checks.proofs.padding.padded.Goals as goal

pub returns : goal.returns
returns c =
    let vs = c.args.weights.now in
    let few = c.min-few.result in
    let is : few ≡ min (length vs) 64 = omega (arith, c.min-few.ensures) in
    let copied = c.copy_from_slice.ensures.after in
    record {
      front = λ h. padded_front vs few is _ copied h _;
      each = λ m h. padded_each vs few is _ copied _ (omega arith) few m h;
      rest = λ m h. padded_rest vs few is _ copied _ (omega arith) few m h;
    }
