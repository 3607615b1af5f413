-- An element takes a byte or two. Assumes nothing.
use Rattle.std.proofs.Common.{◌≡◌, ℕ, ◌≤◌, Bool, true, false, leb, arith}
use Rattle.field.specs.Model.{FieldModel}
use Rattle.field.specs.Bytes.{by_width, width}

one_or_two : (b : Bool) → by_width b 1 2 ≤ 2
one_or_two true = omega arith
one_or_two false = omega arith

pub narrow : (M : FieldModel) (w : ℕ) → w ≡ width M → w ≤ 2
narrow M w is = let two = one_or_two (leb M.size 256) in omega (arith, is, two)
