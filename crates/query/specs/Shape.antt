-- The shape of a line, whatever its numbers stand for, and the place where a line leaves it.
--   Shaped line           a line of the grammar: each number has one to five digits, with no zero in front
--   PartsAt line p        up to the place the line begins a line of the grammar, and with its next byte, or its end, no more
-- Assumes nothing.
use Rattle.std.specs.Prelude.{◌≡◌, ℕ, ◌+◌, ◌<◌, ◌≤◌, List, ◌∷◌, ◌++◌, length, take, decimal}
use Rattle.std.specs.List.{flat_map, AllByRecursion}
use Rattle.query.specs.Grammar.{Entry, alone, weighted, text}

abbrev pub Short : Entry → Type 0
Short (alone m) = m < 100000
Short (weighted m w) = (m < 100000) × (w < 100000)

-- 97, 116, 119 and 35 are `a`, `t`, `w` and `#`, and 32 is the space
pub data Shaped : List ℕ → Type 0 where
  ask : (e : Entry) (es : List Entry) → AllByRecursion Short (e ∷ es) → Shaped (97 ∷ flat_map text (e ∷ es))
  try : (e : Entry) (es : List Entry) → AllByRecursion Short (e ∷ es) → Shaped (116 ∷ flat_map text (e ∷ es))
  witness : (m e : ℕ) → m < 100000 → e < 100000 → Shaped (119 ∷ ((32 ∷ decimal m) ++ (32 ∷ decimal e)))
  remark : (bs : List ℕ) → Shaped (35 ∷ bs)

pub record PartsAt (line : List ℕ) (p : ℕ) : Type 0 where
  pub within : p ≤ length line
  pub begins : (more : List ℕ) × Shaped (take p line ++ more)
  pub no_further : p < length line → (more : List ℕ) → Shaped (take (p + 1) line ++ more) → ⊥
  pub not_whole : p ≡ length line → Shaped line → ⊥
