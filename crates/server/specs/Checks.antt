-- What a server's maker answers, in the order of the checks: a refusal, or none.
--   Count n              a server can have n members: 1 to 64
--   Lowest P m           m is the lowest number with the property
--   ArrayCheck M xs r    r is the answer for an array over the codes xs
--   PairCheck k l r      r is the answer for two servers of these counts
-- Assumes nothing.
use Rattle.std.specs.Prelude.{◌≡◌, ℕ, ◌<◌, ◌≤◌, ◌≢◌, List, length, Some, None, Option, slice_index}
use Rattle.refusal.specs.declared.Refusal.{Refusal}
use Rattle.refusal.specs.declared.Refusal.TheVariants.{WrongCount, NotAnElement, CountsDiffer}
use Rattle.refusal.specs.declared.Site.TheVariants.{OfMember}
use Rattle.field.specs.Model.{FieldModel}

pub record Lowest (P : ℕ → Type 0) (m : ℕ) : Type 0 where
  pub holds : P m
  pub none_below : (k : ℕ) → k < m → P k → ⊥

-- a server has 1 to 64 members
abbrev pub Count : ℕ → Type 0
Count n = (1 ≤ n) × (n ≤ 64)

-- the code of member m stands for no element
abbrev pub Stray : FieldModel → List ℕ → ℕ → Type 0
Stray M xs m = (m < length xs) × (M.size ≤ slice_index xs m)

pub data ArrayCheck (M : FieldModel) (xs : List ℕ) : Option Refusal → Type 0 where
  wrong_count : (Count (length xs) → ⊥) → ArrayCheck M xs (Some WrongCount)
  not_an_element :
      Count (length xs) → (m : ℕ) → Lowest (Stray M xs) m → ArrayCheck M xs (Some (NotAnElement (OfMember (record { 0 = m }))))
  accepted : Count (length xs) → ((m : ℕ) → Stray M xs m → ⊥) → ArrayCheck M xs None

pub data PairCheck (k l : ℕ) : Option Refusal → Type 0 where
  counts_differ : k ≢ l → PairCheck k l (Some CountsDiffer)
  accepted : k ≡ l → PairCheck k l None
