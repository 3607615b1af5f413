-- What a line may be, and what it then wants.
--   Entry                     an item as it is meant: a member, alone or with a weight
--   Named lim es              the entries' numbers are in range, and no two name one member
--   Spells lim line q         the line is the text of the request q
--   Accepted lim line q       and is short enough
-- Numbers are in decimal, with no zero in front. Assumes nothing.
use Rattle.std.specs.Prelude.{ℕ, ◌<◌, ◌≤◌, ◌≢◌, List, [], ◌∷◌, ◌++◌, length, Some, decimal, slice_set}
use Rattle.std.specs.List.{flat_map, AllByRecursion}
use Rattle.field.specs.declared.Element.{Element}
use Rattle.query.specs.declared.items.Limits.{Limits}
use Rattle.query.specs.declared.lines.Request.{Request}
use Rattle.query.specs.declared.lines.Request.TheVariants.{Ask, Try, Witness, Remark}
use Rattle.query.specs.Numbers.{byte_at}
use Rattle.query.specs.Items.{code, no_weights}

pub data Entry : Type 0 where
  alone : ℕ → Entry
  weighted : ℕ → ℕ → Entry

abbrev pub member : Entry → ℕ
member (alone m) = m
member (weighted m w) = m

abbrev pub weight : Entry → ℕ
weight (alone m) = 1
weight (weighted m w) = w

-- 32 is the space, and 58 the colon
abbrev pub text : Entry → List ℕ
text (alone m) = 32 ∷ decimal m
text (weighted m w) = 32 ∷ (decimal m ++ (58 ∷ decimal w))

abbrev pub InRange : Limits → Entry → Type 0
InRange lim (alone m) = m < lim.members
InRange lim (weighted m w) = (m < lim.members) × (1 ≤ w) × (w < lim.size)

-- each member is named once
abbrev pub Apart : List Entry → Type 0
Apart [] = Unit {0}
Apart (e ∷ es) = AllByRecursion (λ f. member f ≢ member e) es × Apart es

pub record Named (lim : Limits) (es : List Entry) : Type 0 where
  pub in_range : AllByRecursion (InRange lim) es
  pub apart : Apart es

-- a row, with the weights of some entries at their members
abbrev pub with_weights : List Element → List Entry → List Element
with_weights row [] = row
with_weights row (e ∷ es) = with_weights (slice_set row (member e) (code (weight e))) es

-- 97, 116, 119 and 35 are `a`, `t`, `w` and `#`
pub data Spells (lim : Limits) : List ℕ → Request → Type 0 where
  ask :
      (e : Entry) (es : List Entry) → Named lim (e ∷ es)
      → Spells lim (97 ∷ flat_map text (e ∷ es)) (Ask (record { 0 = with_weights no_weights (e ∷ es) }))
  try :
      (e : Entry) (es : List Entry) → Named lim (e ∷ es)
      → Spells lim (116 ∷ flat_map text (e ∷ es)) (Try (record { 0 = with_weights no_weights (e ∷ es) }))
  witness :
      (m e : ℕ) → m < lim.members → e < lim.size
      → Spells lim (119 ∷ ((32 ∷ decimal m) ++ (32 ∷ decimal e))) (Witness (record { 0 = m }) (code e))
  remark : (bs : List ℕ) → Spells lim (35 ∷ bs) Remark

pub record Accepted (lim : Limits) (line : List ℕ) (q : Request) : Type 0 where
  pub spells : Spells lim line q
  pub short : (byte_at line 0 ≢ Some 35) → length line ≤ 640
