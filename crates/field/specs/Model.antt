-- What a field is: its elements are the codes below its size.
--   FieldModel      size, kind byte, sum, product, opposite, inverse, over codes
--   FieldLaws M     what a new field shows, of codes below its size, and nothing beyond
-- Assumes nothing.
use Rattle.std.specs.Prelude.{◌≡◌, ℕ, ◌<◌, ◌≤◌, ◌≢◌}

pub record FieldModel : Type 0 where
  pub size : ℕ
  pub kind : ℕ
  pub plus : ℕ → ℕ → ℕ
  pub times : ℕ → ℕ → ℕ
  pub opposite : ℕ → ℕ
  pub inverse : ℕ → ℕ

pub record FieldLaws (M : FieldModel) : Type 0 where
  pub two_elements : 2 ≤ M.size
  pub size_bound : M.size ≤ 65536
  pub plus_below : (a b : ℕ) → a < M.size → b < M.size → M.plus a b < M.size
  pub plus_comm : (a b : ℕ) → a < M.size → b < M.size → M.plus a b ≡ M.plus b a
  pub plus_assoc :
      (a b c : ℕ) → a < M.size → b < M.size → c < M.size → M.plus (M.plus a b) c ≡ M.plus a (M.plus b c)
  pub plus_zero : (a : ℕ) → a < M.size → M.plus 0 a ≡ a
  pub times_below : (a b : ℕ) → a < M.size → b < M.size → M.times a b < M.size
  pub times_comm : (a b : ℕ) → a < M.size → b < M.size → M.times a b ≡ M.times b a
  pub times_assoc :
      (a b c : ℕ) → a < M.size → b < M.size → c < M.size → M.times (M.times a b) c ≡ M.times a (M.times b c)
  pub times_one : (a : ℕ) → a < M.size → M.times 1 a ≡ a
  pub distributes :
      (a b c : ℕ) → a < M.size → b < M.size → c < M.size
      → M.times a (M.plus b c) ≡ M.plus (M.times a b) (M.times a c)
  pub opposite_below : (a : ℕ) → a < M.size → M.opposite a < M.size
  pub plus_opposite : (a : ℕ) → a < M.size → M.plus a (M.opposite a) ≡ 0
  pub inverse_below : (a : ℕ) → a < M.size → M.inverse a < M.size
  pub times_inverse : (a : ℕ) → a < M.size → a ≢ 0 → M.times a (M.inverse a) ≡ 1
  pub inverse_zero : M.inverse 0 ≡ 0
