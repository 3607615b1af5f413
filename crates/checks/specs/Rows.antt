-- Rows that passed their checks.
--   IsRow M n w      a row over n members: its weights are elements, 0 from the count on, and some member is named
-- Assumes nothing.
use Rattle.std.specs.Prelude.{◌≡◌, ℕ, ◌<◌, ◌≤◌}
use Rattle.field.specs.Model.{FieldModel}
use Rattle.field.specs.Sums.{Vector, Codes}

pub record IsRow (M : FieldModel) (n : ℕ) (w : Vector) : Type 0 where
  pub weights : Codes M n w
  pub none_past : (m : ℕ) → n ≤ m → w m ≡ 0
  pub some_named : ((m : ℕ) → m < n → w m ≡ 0) → ⊥
