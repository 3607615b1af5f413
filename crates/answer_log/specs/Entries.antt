-- The rows of a log, as they are read: bs are the bytes of the log from the row on.
--   mark_of, map_of          the mark byte; the bytes from the map on
--   weighted bs              mark bit 0 stands: the weights are stored
--   weight_place M n bs m    where the weight of member m stands, or would stand
--   figure_place, row_length_lem   where the figure stands; how many bytes the row has
--   row_weight M n bs m      the weight of member m: 0 if it is not named, and 1 if no weights are stored
--   row_figure M n bs        the code of the figure
--   Mapped, Named, Framed    what the checks up to the map's length, its bits and the row's length found in order
--   Faulty M n bs m          member m is named, and its weight is no element, or 0
--   Weighed M n bs           what the checks up to the weights found in order
--   EntryCheck M n k bs r    r is the answer for row number k, a refusal or none, in the order of the checks
--   Reads M n k bs w f size  the row is accepted, with the weights w, 0 from the count on, the figure f and so many bytes
--   RowAt M n k bytes at w f next   the same, for the row at a place of the log's bytes; the next row begins at `next`
--   HeaderCheck M n bs r     r is the answer for the header of a log, where n is the server's count
-- Assumes nothing.
use Rattle.std.specs.Prelude.{◌≡◌, ℕ, ◌+◌, ◌-◌, ◌*◌, ◌<◌, ◌≤◌, Bool, true, false, cond, ◌≢◌, ◌⊎◌, List, length, take, drop, Some, None, Option, ◌==◌, slice_index}
use Rattle.refusal.specs.declared.Refusal.{Refusal}
use Rattle.refusal.specs.declared.Refusal.TheVariants.{WrongLength, WrongKind, WrongCount, StrayMapBit, NotAnElement, StoredZero, CountsDiffer, UnknownMark, NoMemberNamed, NeedlessWeights}
use Rattle.refusal.specs.declared.Site.TheVariants.{Nothing, OfRow}
use Rattle.refusal.specs.declared.LogRow.{LogRow}
use Rattle.field.specs.Model.{FieldModel}
use Rattle.field.specs.Bytes.{width, code_at}
use Rattle.field.specs.Sums.{Vector}
use Rattle.server.specs.Checks.{Lowest, Count}
use Rattle.member_map.specs.Maps.{map_length_lem, named, named_below, Stray}
use Rattle.answer_log.specs.Rows.{plain, row_bytes}

abbrev pub mark_of : List ℕ → ℕ
mark_of bs = slice_index bs 0

abbrev pub map_of : List ℕ → List ℕ
map_of bs = drop 1 bs

abbrev pub weighted : List ℕ → Bool
weighted bs = mark_of bs == 1

abbrev pub weight_place : FieldModel → ℕ → List ℕ → ℕ → ℕ
weight_place M n bs m = 1 + map_length_lem n + width M * named_below (map_of bs) m

abbrev pub figure_place : FieldModel → ℕ → List ℕ → ℕ
figure_place M n bs = cond (weighted bs) (weight_place M n bs n) (1 + map_length_lem n)

unfoldable pub row_length_lem : FieldModel → ℕ → List ℕ → ℕ
row_length_lem M n bs = figure_place M n bs + width M

unfoldable pub row_weight : FieldModel → ℕ → List ℕ → Vector
row_weight M n bs m = cond (named (map_of bs) m) (cond (weighted bs) (code_at M bs (weight_place M n bs m)) 1) 0

unfoldable pub row_figure : FieldModel → ℕ → List ℕ → ℕ
row_figure M n bs = code_at M bs (figure_place M n bs)

pub record Mapped (n : ℕ) (bs : List ℕ) : Type 0 where
  pub count : Count n
  pub known : mark_of bs < 2
  pub whole : 1 + map_length_lem n ≤ length bs

pub record Named (n : ℕ) (bs : List ℕ) : Type 0 where
  pub mapped : Mapped n bs
  pub no_stray : (b : ℕ) → Stray (map_of bs) n b → ⊥
  pub some_named : named_below (map_of bs) n ≢ 0

pub record Framed (M : FieldModel) (n : ℕ) (bs : List ℕ) : Type 0 where
  pub named : Named n bs
  pub rest : row_length_lem M n bs ≤ length bs

abbrev pub Faulty : FieldModel → ℕ → List ℕ → ℕ → Type 0
Faulty M n bs m =
    (m < n) × (named (map_of bs) m ≡ true) × ((M.size ≤ row_weight M n bs m) ⊎ (row_weight M n bs m ≡ 0))

-- the weights are in order: elements other than 0, and not all 1 where they are stored
pub record Weighed (M : FieldModel) (n : ℕ) (bs : List ℕ) : Type 0 where
  pub framed : Framed M n bs
  pub no_fault : (m : ℕ) → Faulty M n bs m → ⊥
  pub needed : weighted bs ≡ true → plain (row_weight M n bs) n ≡ false

pub data EntryCheck (M : FieldModel) (n : ℕ) (k : LogRow) (bs : List ℕ) : Option Refusal → Type 0 where
  wrong_count : (Count n → ⊥) → EntryCheck M n k bs (Some WrongCount)
  unknown_mark : Count n → 2 ≤ mark_of bs → EntryCheck M n k bs (Some (UnknownMark k))
  map_cut : Count n → mark_of bs < 2 → length bs < 1 + map_length_lem n → EntryCheck M n k bs (Some (WrongLength (OfRow k)))
  stray_bit : Mapped n bs → (b : ℕ) → Stray (map_of bs) n b → EntryCheck M n k bs (Some (StrayMapBit (OfRow k)))
  none_named :
      Mapped n bs → ((b : ℕ) → Stray (map_of bs) n b → ⊥) → named_below (map_of bs) n ≡ 0
      → EntryCheck M n k bs (Some (NoMemberNamed (OfRow k)))
  rest_cut : Named n bs → length bs < row_length_lem M n bs → EntryCheck M n k bs (Some (WrongLength (OfRow k)))
  not_an_element :
      Framed M n bs → (m : ℕ) → Lowest (Faulty M n bs) m → M.size ≤ row_weight M n bs m
      → EntryCheck M n k bs (Some (NotAnElement (OfRow k)))
  stored_zero :
      Framed M n bs → (m : ℕ) → Lowest (Faulty M n bs) m → row_weight M n bs m ≡ 0
      → EntryCheck M n k bs (Some (StoredZero (OfRow k)))
  needless_weights :
      Framed M n bs → ((m : ℕ) → Faulty M n bs m → ⊥) → weighted bs ≡ true → plain (row_weight M n bs) n ≡ true
      → EntryCheck M n k bs (Some (NeedlessWeights k))
  no_figure : Weighed M n bs → M.size ≤ row_figure M n bs → EntryCheck M n k bs (Some (NotAnElement (OfRow k)))
  accepted : Weighed M n bs → row_figure M n bs < M.size → EntryCheck M n k bs None

pub record Reads (M : FieldModel) (n : ℕ) (k : LogRow) (bs : List ℕ) (w : Vector) (f size : ℕ) : Type 0 where
  pub check : EntryCheck M n k bs None
  pub weights : (m : ℕ) → m < n → w m ≡ row_weight M n bs m
  pub none_past : (m : ℕ) → n ≤ m → w m ≡ 0
  pub figure : f ≡ row_figure M n bs
  pub whole : size ≡ row_length_lem M n bs

-- the row at a place of a log's bytes: read from there, and written the same, up to the next place
pub record RowAt (M : FieldModel) (n : ℕ) (k : LogRow) (bytes : List ℕ) (at : ℕ) (w : Vector) (f next : ℕ) : Type 0 where
  pub on : at < next
  pub within : next ≤ length bytes
  pub reads : Reads M n k (drop at bytes) w f (next - at)
  pub same : take (next - at) (drop at bytes) ≡ row_bytes M n w f

pub data HeaderCheck (M : FieldModel) (n : ℕ) (bs : List ℕ) : Option Refusal → Type 0 where
  no_header : length bs < 2 → HeaderCheck M n bs (Some (WrongLength Nothing))
  wrong_kind : 2 ≤ length bs → slice_index bs 0 ≢ M.kind → HeaderCheck M n bs (Some WrongKind)
  wrong_count :
      2 ≤ length bs → slice_index bs 0 ≡ M.kind → (Count (slice_index bs 1) → ⊥) → HeaderCheck M n bs (Some WrongCount)
  counts_differ :
      2 ≤ length bs → slice_index bs 0 ≡ M.kind → Count (slice_index bs 1) → slice_index bs 1 ≢ n → HeaderCheck M n bs (Some CountsDiffer)
  accepted : 2 ≤ length bs → slice_index bs 0 ≡ M.kind → Count n → slice_index bs 1 ≡ n → HeaderCheck M n bs None
