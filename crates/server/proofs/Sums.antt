-- One member more of a sum, and members whose weight is 0. Assumes nothing.
use Rattle.std.proofs.Common.{◌≡◌, ℕ, zero, suc, ◌+◌, ◌<◌, ◌≤◌, sym, ap, ◌∙◌, subst, add-zero, add-one, arith}
use Rattle.field.specs.Model.{FieldModel, FieldLaws}
use Rattle.field.specs.Sums.{Vector, Codes, sum}
use Rattle.field.proofs.Zero.{zero_right, zero-times}

module _ (M : FieldModel) (L : FieldLaws M) (w t : Vector) where
  pub sum_more : (n : ℕ) → sum M (n + 1) w t ≡ M.plus (sum M n w t) (M.times (w n) (t n))
  unfolding sum
  sum_more n = ap (λ k. sum M k w t) (add-one n)

  -- a member that the row does not name adds nothing
  pub sum_unnamed : (n : ℕ) → sum M n w t < M.size → t n < M.size → w n ≡ 0 → sum M (n + 1) w t ≡ sum M n w t
  sum_unnamed n below value unnamed =
      sum_more n
      ∙ ap (λ x. M.plus (sum M n w t) (M.times x (t n))) unnamed
      ∙ ap (M.plus (sum M n w t)) (zero-times M L (t n) value)
      ∙ zero_right M L _ below

  -- members past those that a row names add nothing
  pub sum_past : (n k : ℕ) → sum M n w t < M.size → ((m : ℕ) → n ≤ m → w m ≡ 0) → Codes M (n + k) t → sum M (n + k) w t ≡ sum M n w t
  sum_past n zero below past values = ap (λ k. sum M k w t) (add-zero n)
  sum_past n (suc k) below past values =
      let same : sum M (n + k) w t ≡ sum M n w t = sum_past n k below past (λ m h. values m (omega arith)) in
      let next : n + suc k ≡ n + k + 1 = omega arith in
      ap (λ j. sum M j w t) next
      ∙ sum_unnamed (n + k) (subst (λ (x : ℕ). x < M.size) (sym same) below) (values (n + k) (omega arith)) (past (n + k) (omega arith))
      ∙ same
