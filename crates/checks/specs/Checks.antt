-- What the check of a row answers, in the order of the checks: a refusal, or none.
--   NoneNamed ws           every weight is 0
--   RowCheck M n ws r      r is the answer for the weights ws, where n are asked for
--   RowMade M n ws r       the same where the count n is asked about first
--   WitnessCheck M n i a k r   the same for the member i, element a and buffer of length k of a witness
-- Assumes nothing.
use Rattle.std.specs.Prelude.{◌≡◌, ℕ, ◌<◌, ◌≤◌, ◌≢◌, List, length, Some, None, Option}
use Rattle.refusal.specs.declared.Refusal.{Refusal}
use Rattle.refusal.specs.declared.Refusal.TheVariants.{WrongCount, WrongRowLength, NotAnElement, NoMemberNamed, NoSuchMember}
use Rattle.refusal.specs.declared.Site.TheVariants.{Nothing, OfMember}
use Rattle.field.specs.Model.{FieldModel}
use Rattle.field.specs.Sums.{Codes, weights_of}
use Rattle.field.specs.declared.Element.{Element}
use Rattle.server.specs.Checks.{Lowest, Count}

-- the weight of member m stands for no element
abbrev pub StrayWeight : FieldModel → List Element → ℕ → Type 0
StrayWeight M ws m = (m < length ws) × (M.size ≤ weights_of ws m)

abbrev pub NoneNamed : List Element → Type 0
NoneNamed ws = (m : ℕ) → m < length ws → weights_of ws m ≡ 0

pub data RowCheck (M : FieldModel) (n : ℕ) (ws : List Element) : Option Refusal → Type 0 where
  wrong_length : length ws ≢ n → RowCheck M n ws (Some WrongRowLength)
  not_an_element :
      length ws ≡ n → (m : ℕ) → Lowest (StrayWeight M ws) m → RowCheck M n ws (Some (NotAnElement (OfMember (record { 0 = m }))))
  none_named : length ws ≡ n → Codes M n (weights_of ws) → NoneNamed ws → RowCheck M n ws (Some (NoMemberNamed Nothing))
  accepted : length ws ≡ n → Codes M n (weights_of ws) → (NoneNamed ws → ⊥) → RowCheck M n ws None

pub data RowMade (M : FieldModel) (n : ℕ) (ws : List Element) : Option Refusal → Type 0 where
  wrong_count : (Count n → ⊥) → RowMade M n ws (Some WrongCount)
  checked : Count n → (r : Option Refusal) → RowCheck M n ws r → RowMade M n ws r

pub data WitnessCheck (M : FieldModel) (n i a k : ℕ) : Option Refusal → Type 0 where
  no_such_member : n ≤ i → WitnessCheck M n i a k (Some NoSuchMember)
  not_an_element : i < n → M.size ≤ a → WitnessCheck M n i a k (Some (NotAnElement Nothing))
  wrong_length : i < n → a < M.size → k ≢ n → WitnessCheck M n i a k (Some WrongRowLength)
  accepted : i < n → a < M.size → k ≡ n → WitnessCheck M n i a k None
