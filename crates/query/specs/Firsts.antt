-- What stands where a line first has a fault of a number, of a member, or of its length.
--   NoNumber least limit bs   bs begins with digits, which are not the decimal of a number from `least` up and below `limit`
--   RowKind b                 a line of a row begins with this byte
--   front b es                the first byte of a line, and some entries
--   Has m es                  an entry is of the member m
--   BadNumberAt lim line p    up to the place the line is in order, and there digits stand that are no number in range
--   RepeatedAt lim line p     up to the place the line is in order, and there the number of a member stands that it has already
--   Firsts lim line r         a fault by 19 or 20 stands at such a place, and one by 21 is that of a line that is too long
-- Assumes nothing.
use Rattle.std.specs.Prelude.{◌≡◌, ℕ, ◌+◌, ◌<◌, ◌≤◌, ◌≢◌, ◌⊎◌, List, [], ◌∷◌, ◌++◌, length, Some, Err, decimal, Result}
use Rattle.std.specs.List.{flat_map}
use Rattle.refusal.specs.declared.Refusal.TheVariants.{BadNumber, MemberRepeated}
use Rattle.query.specs.declared.faults.LineFault.{LineFault}
use Rattle.query.specs.declared.faults.LineFault.TheVariants.{TooLong}
use Rattle.query.specs.declared.items.Limits.{Limits}
use Rattle.query.specs.declared.lines.Request.{Request}
use Rattle.query.specs.Numbers.{place, byte_at, digits}
use Rattle.query.specs.Refusals.{line_refusal}
use Rattle.query.specs.Grammar.{Entry, alone, member, text, Named}

abbrev pub NoNumber : ℕ → ℕ → List ℕ → Type 0
NoNumber least limit bs = (digits bs ≢ []) × ((v : ℕ) → least ≤ v → v < limit → digits bs ≢ decimal v)

-- `a` or `t`
abbrev pub RowKind : ℕ → Type 0
RowKind b = (b ≡ 97) ⊎ (b ≡ 116)

abbrev pub front : ℕ → List Entry → List ℕ
front b es = b ∷ flat_map text es

abbrev pub Has : ℕ → List Entry → Type 0
Has m [] = ⊥
Has m (e ∷ es) = (member e ≡ m) ⊎ Has m es

-- 32 is the space, 58 the colon, and 119 `w`
pub data BadNumberAt (lim : Limits) (line : List ℕ) (p : ℕ) : Type 0 where
  no_member :
      (b : ℕ) (es : List Entry) (rest : List ℕ) → RowKind b → Named lim es → line ≡ front b es ++ (32 ∷ rest)
      → NoNumber 0 lim.members rest → p ≡ length (front b es) + 1 → BadNumberAt lim line p
  no_weight :
      (b : ℕ) (es : List Entry) (m : ℕ) (rest : List ℕ) → RowKind b → Named lim (alone m ∷ es)
      → line ≡ front b es ++ (32 ∷ (decimal m ++ (58 ∷ rest))) → NoNumber 1 lim.size rest
      → p ≡ length (front b es) + (length (decimal m) + 2) → BadNumberAt lim line p
  no_member_of_witness : (rest : List ℕ) → line ≡ 119 ∷ (32 ∷ rest) → NoNumber 0 lim.members rest → p ≡ 2 → BadNumberAt lim line p
  no_element :
      (m : ℕ) (rest : List ℕ) → m < lim.members → line ≡ 119 ∷ ((32 ∷ decimal m) ++ (32 ∷ rest)) → NoNumber 0 lim.size rest
      → p ≡ length (decimal m) + 3 → BadNumberAt lim line p

pub record RepeatedAt (lim : Limits) (line : List ℕ) (p : ℕ) : Type 0 where
  pub first : ℕ
  pub entries : List Entry
  pub again : ℕ
  pub rest : List ℕ
  pub kind : RowKind first
  pub named : Named lim entries
  pub has : Has again entries
  pub line_is : line ≡ front first entries ++ (32 ∷ (decimal again ++ rest))
  pub whole : digits rest ≡ []
  pub place_is : p ≡ length (front first entries) + 1

pub record Firsts (lim : Limits) (line : List ℕ) (r : Result Request LineFault) : Type 0 where
  pub bad_number : (f : LineFault) (p : ℕ) → r ≡ Err f → line_refusal f ≡ BadNumber (place p) → BadNumberAt lim line p
  pub repeated : (f : LineFault) (p : ℕ) → r ≡ Err f → line_refusal f ≡ MemberRepeated (place p) → RepeatedAt lim line p
  pub longer : 640 < length line → byte_at line 0 ≢ Some 35 → r ≡ Err TooLong
  pub too_long : r ≡ Err TooLong → (640 < length line) × (byte_at line 0 ≢ Some 35)
