-- What the checks of stored bytes answer, of table files and of logs, in the order of the checks.
--   count_of bs          the count byte of a header
--   Headed M bs          the header is whole: the field's kind byte, then a count of members
--   CountCheck M bs r    r is the answer for the header of these bytes, a refusal or none
--   ValueCheck M e s r   r is the answer for a code e that is stored at a site s, as a value or a weight
-- Assumes nothing.
use Rattle.std.specs.Prelude.{◌≡◌, ℕ, ◌<◌, ◌≤◌, ◌≢◌, List, length, Some, None, Option, slice_index}
use Rattle.refusal.specs.declared.Refusal.{Refusal}
use Rattle.refusal.specs.declared.Refusal.TheVariants.{WrongLength, WrongKind, WrongCount, NotAnElement, StoredZero}
use Rattle.refusal.specs.declared.Site.{Site}
use Rattle.refusal.specs.declared.Site.TheVariants.{Nothing}
use Rattle.field.specs.Model.{FieldModel}
use Rattle.server.specs.Checks.{Count}

abbrev pub count_of : List ℕ → ℕ
count_of bs = slice_index bs 1

pub record Headed (M : FieldModel) (bs : List ℕ) : Type 0 where
  pub header : 2 ≤ length bs
  pub kind : slice_index bs 0 ≡ M.kind
  pub count : Count (count_of bs)

pub data CountCheck (M : FieldModel) (bs : List ℕ) : Option Refusal → Type 0 where
  no_header : length bs < 2 → CountCheck M bs (Some (WrongLength Nothing))
  wrong_kind : 2 ≤ length bs → slice_index bs 0 ≢ M.kind → CountCheck M bs (Some WrongKind)
  wrong_count : 2 ≤ length bs → slice_index bs 0 ≡ M.kind → (Count (count_of bs) → ⊥) → CountCheck M bs (Some WrongCount)
  accepted : Headed M bs → CountCheck M bs None

pub data ValueCheck (M : FieldModel) (e : ℕ) (s : Site) : Option Refusal → Type 0 where
  not_an_element : M.size ≤ e → ValueCheck M e s (Some (NotAnElement s))
  stored_zero : e < M.size → e ≡ 0 → ValueCheck M e s (Some (StoredZero s))
  accepted : e < M.size → e ≢ 0 → ValueCheck M e s None
