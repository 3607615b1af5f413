-- The longest row of a log. Assumes nothing.
use Rattle.std.proofs.Common.{ℕ, zero, suc, ◌*◌, ◌≤◌, Bool, true, false, cond, [], length, refl, arith, length-append}
use Rattle.field.specs.Model.{FieldModel}
use Rattle.field.specs.Bytes.{width, written}
use Rattle.field.proofs.Widths.{narrow}
use Rattle.field.specs.Sums.{Vector}
use Rattle.member_map.specs.Maps.{map_length_lem}
use Rattle.answer_log.specs.Rows.{names, plain, weight_bytes, row_bytes}
use Rattle.answer_log.proofs.Elements.{written-length}
use Rattle.answer_log.proofs.Buffers.{row-size}

module _ (M : FieldModel) (w : Vector) where
  one-weight : (b : Bool) (e : ℕ) → length (cond b (written M e) []) ≤ 2
  one-weight true e = let size = written-length M e in let two = narrow M (width M) refl in omega (arith, size, two)
  one-weight false e = omega arith

  weights-few : (n : ℕ) → length (weight_bytes M w n) ≤ 2 * n
  unfolding weight_bytes
  weights-few zero = omega arith
  weights-few (suc m) =
      let parts = length-append (weight_bytes M w m) (cond (names w m) (written M (w m)) []) in
      let before = weights-few m in
      let last = one-weight (names w m) (w m) in omega (arith, parts, before, last)

  stored_few : (b : Bool) (n : ℕ) → length (cond b [] (weight_bytes M w n)) ≤ 2 * n
  stored_few true n = omega arith
  stored_few false n = weights-few n

  pub row_fits : (n f : ℕ) → n ≤ 64 → length (row_bytes M n w f) ≤ 139
  row_fits n f few =
      let size = row-size M n w f in
      let stored = stored_few (plain w n) n in
      let two = narrow M (width M) refl in
      let map : map_length_lem n ≤ 8 = omega arith in omega (arith, size, stored, two, map)
