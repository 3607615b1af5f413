-- Table files: the kind byte, the count n, the member map, then the values of the named members in rising order.
--   count_of, map_of            the count byte, as of every header; the bytes from the map on
--   value_place M bs m          where the value of member m stands, or would stand
--   file_value M bs m           the code of member m: the stored one if the map names m, else 0
--   file_table M bs             the table that the file means
--   Headed, Mapped, Framed      what the checks up to the count, the map and the length found in order
--   Faulty M bs m               member m is named, and its stored code is no element, or 0
--   FileCheck M bs r            r is the answer for these bytes, a refusal or none, in the order of the checks
-- Assumes nothing.
use Rattle.std.specs.Prelude.{◌≡◌, ℕ, ◌+◌, ◌*◌, ◌<◌, ◌≤◌, true, false, ◌≢◌, ◌⊎◌, List, map, length, drop, Some, None, Option, slice_index}
use Rattle.std.specs.List.{range_with_len}
use Rattle.refusal.specs.declared.Refusal.{Refusal}
use Rattle.refusal.specs.declared.Refusal.TheVariants.{WrongLength, WrongKind, WrongCount, StrayMapBit, NotAnElement, StoredZero}
use Rattle.refusal.specs.declared.Site.TheVariants.{Nothing, OfMember}
use Rattle.field.specs.Model.{FieldModel}
use Rattle.field.specs.Bytes.{width, code_at}
use Rattle.server.specs.Checks.{Lowest, Count}
use Rattle.member_map.specs.Maps.{map_length_lem, named, named_below, Stray}
pub use Rattle.stored.specs.Stored.{count_of, Headed}

abbrev pub map_of : List ℕ → List ℕ
map_of bs = drop 2 bs

abbrev pub value_place : FieldModel → List ℕ → ℕ → ℕ
value_place M bs m = 2 + map_length_lem (count_of bs) + width M * named_below (map_of bs) m

abbrev pub file_value : FieldModel → List ℕ → ℕ → ℕ
file_value M bs m = elim (named (map_of bs) m) [ true ↦ code_at M bs (value_place M bs m) | false ↦ 0 ]

abbrev pub file_table : FieldModel → List ℕ → List ℕ
file_table M bs = map (file_value M bs) (range_with_len 0 (count_of bs))

pub record Mapped (M : FieldModel) (bs : List ℕ) : Type 0 where
  pub headed : Headed M bs
  pub whole : 2 + map_length_lem (count_of bs) ≤ length bs

pub record Framed (M : FieldModel) (bs : List ℕ) : Type 0 where
  pub mapped : Mapped M bs
  pub no_stray : (b : ℕ) → Stray (map_of bs) (count_of bs) b → ⊥
  pub exact : length bs ≡ value_place M bs (count_of bs)

abbrev pub Faulty : FieldModel → List ℕ → ℕ → Type 0
Faulty M bs m =
    (m < count_of bs) × (named (map_of bs) m ≡ true) × ((M.size ≤ file_value M bs m) ⊎ (file_value M bs m ≡ 0))

pub data FileCheck (M : FieldModel) (bs : List ℕ) : Option Refusal → Type 0 where
  no_header : length bs < 2 → FileCheck M bs (Some (WrongLength Nothing))
  wrong_kind : 2 ≤ length bs → slice_index bs 0 ≢ M.kind → FileCheck M bs (Some WrongKind)
  wrong_count : 2 ≤ length bs → slice_index bs 0 ≡ M.kind → (Count (count_of bs) → ⊥) → FileCheck M bs (Some WrongCount)
  map_cut : Headed M bs → length bs < 2 + map_length_lem (count_of bs) → FileCheck M bs (Some (WrongLength Nothing))
  stray_bit :
      Mapped M bs → (b : ℕ) → Lowest (Stray (map_of bs) (count_of bs)) b
      → FileCheck M bs (Some (StrayMapBit (OfMember (record { 0 = b }))))
  wrong_length :
      Mapped M bs → ((b : ℕ) → Stray (map_of bs) (count_of bs) b → ⊥) → length bs ≢ value_place M bs (count_of bs)
      → FileCheck M bs (Some (WrongLength Nothing))
  not_an_element :
      Framed M bs → (m : ℕ) → Lowest (Faulty M bs) m → M.size ≤ file_value M bs m
      → FileCheck M bs (Some (NotAnElement (OfMember (record { 0 = m }))))
  stored_zero :
      Framed M bs → (m : ℕ) → Lowest (Faulty M bs) m → file_value M bs m ≡ 0
      → FileCheck M bs (Some (StoredZero (OfMember (record { 0 = m }))))
  accepted : Framed M bs → ((m : ℕ) → Faulty M bs m → ⊥) → FileCheck M bs None
