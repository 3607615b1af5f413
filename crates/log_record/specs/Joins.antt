-- What a log tells: which of its rows join the record, with the figures that stand in the log.
--   rows_bytes, log_bytes M n given   the bytes of the rows given, the oldest first; the same behind the header
--   PinsWith M n before g i     the row of g, with the rows before, pins member i
--   Contradicts M n before g    the rows before fix the sum over the row of g, and no table that fits them has the figure of g
--   JoinCheck M n k before g r  r is the answer for row number k, which says g, after the rows before: a refusal or none
--   RowsJoin M n k before bs r given   r is the answer for the rows bs from number k on, after the rows before
--   LogRecord M n bs r given    r is the answer for a log, where n is the server's count
--   Recorded M n given rec      the record is the reduced form of the rows given, which pin nobody, and every table that fits it has each figure given
--   JoinsAfter M n k rec g rec'   after whatever rows rec is recorded for, the row of g joins, and rec' is recorded for them with g
--   RefusedAfter M n k rec g e    after whatever rows rec is recorded for, the row of g is refused by e
--   RowsRead, LogRead M n bs rec  the rows of the log bs join, and rec is their record; the same of a whole log
-- Of a log, `given` are all rows with their figures, and none where it is refused.
-- Lists of rows have the newest first. Assumes nothing.
use Rattle.std.specs.Prelude.{◌≡◌, ℕ, ◌+◌, ◌<◌, ◌≤◌, List, [], ◌∷◌, ◌++◌, length, drop, Some, None, Option, ◌≢◌}
use Rattle.refusal.specs.declared.Refusal.{Refusal}
use Rattle.refusal.specs.declared.Refusal.TheVariants.{Discloses, OtherFigure}
use Rattle.refusal.specs.declared.Site.TheVariants.{OfRow}
use Rattle.refusal.specs.declared.LogRow.{LogRow}
use Rattle.field.specs.Model.{FieldModel}
use Rattle.field.specs.Sums.{Vector, Codes, sum}
use Rattle.echelon.specs.Rows.{Figured, rows_of, RowsCodes, Fits, Pins, Fixes, row_with}
use Rattle.echelon.specs.Reduced.{Pivoted, all_figured, ReducedForm}
use Rattle.answer_log.specs.Rows.{header_bytes, row_bytes}
use Rattle.answer_log.specs.Entries.{EntryCheck, Reads, HeaderCheck}

abbrev pub rows_bytes : FieldModel → ℕ → List Figured → List ℕ
rows_bytes M n [] = []
rows_bytes M n (g ∷ before) = rows_bytes M n before ++ row_bytes M n g.row g.figure

abbrev pub log_bytes : FieldModel → ℕ → List Figured → List ℕ
log_bytes M n given = header_bytes M n ++ rows_bytes M n given

abbrev pub PinsWith : FieldModel → ℕ → List Figured → Figured → ℕ → Type 0
PinsWith M n before g i = (i < n) × Pins M n (g.row ∷ rows_of before) i

abbrev pub Contradicts : FieldModel → ℕ → List Figured → Figured → Type 0
Contradicts M n before g =
    Fixes M n (rows_of before) g.row
    × ((t : Vector) → Codes M n t → Fits M n before t → sum M n g.row t ≢ g.figure)

pub data JoinCheck (M : FieldModel) (n : ℕ) (k : LogRow) (before : List Figured) (g : Figured) : Option Refusal → Type 0 where
  discloses : (i : ℕ) → PinsWith M n before g i → JoinCheck M n k before g (Some (Discloses (OfRow k)))
  other_figure :
      ((i : ℕ) → PinsWith M n before g i → ⊥) → Contradicts M n before g → JoinCheck M n k before g (Some (OtherFigure k))
  joins : ((i : ℕ) → PinsWith M n before g i → ⊥) → (Contradicts M n before g → ⊥) → JoinCheck M n k before g None

pub data RowsJoin (M : FieldModel) (n : ℕ) : ℕ → List Figured → List ℕ → Option Refusal → List Figured → Type 0 where
  no_more : (k : ℕ) (before : List Figured) (bs : List ℕ) → length bs ≡ 0 → RowsJoin M n k before bs None before
  bad_row :
      (k : ℕ) (before : List Figured) (bs : List ℕ) (e : Refusal) → 1 ≤ length bs → EntryCheck M n (record { 0 = k }) bs (Some e)
      → RowsJoin M n k before bs (Some e) []
  kept_out :
      (k : ℕ) (before : List Figured) (bs : List ℕ) (e : Refusal) → 1 ≤ length bs
      → (w : Vector) (f size : ℕ) → Reads M n (record { 0 = k }) bs w f size
      → JoinCheck M n (record { 0 = k }) before (row_with w f) (Some e) → RowsJoin M n k before bs (Some e) []
  next_row :
      (k : ℕ) (before : List Figured) (bs : List ℕ) (r : Option Refusal) (given : List Figured) → 1 ≤ length bs
      → (w : Vector) (f size : ℕ) → Reads M n (record { 0 = k }) bs w f size
      → JoinCheck M n (record { 0 = k }) before (row_with w f) None
      → RowsJoin M n (k + 1) (row_with w f ∷ before) (drop size bs) r given → RowsJoin M n k before bs r given

pub data LogRecord (M : FieldModel) (n : ℕ) (bs : List ℕ) : Option Refusal → List Figured → Type 0 where
  bad_header : (e : Refusal) → HeaderCheck M n bs (Some e) → LogRecord M n bs (Some e) []
  rows :
      (r : Option Refusal) (given : List Figured) → HeaderCheck M n bs None → RowsJoin M n 0 [] (drop 2 bs) r given
      → LogRecord M n bs r given

pub record Recorded (M : FieldModel) (n : ℕ) (given : List Figured) (rec : List Pivoted) : Type 0 where
  pub codes : RowsCodes M n (rows_of given)
  pub pins_nobody : (i : ℕ) → i < n → Pins M n (rows_of given) i → ⊥
  pub form : ReducedForm M n given rec
  pub figures : (t : Vector) → Codes M n t → Fits M n (all_figured rec) t → Fits M n given t

abbrev pub JoinsAfter : FieldModel → ℕ → LogRow → List Pivoted → Figured → List Pivoted → Type 0
JoinsAfter M n k rec g rec' =
    (before : List Figured) → Recorded M n before rec → JoinCheck M n k before g None × Recorded M n (g ∷ before) rec'

abbrev pub RefusedAfter : FieldModel → ℕ → LogRow → List Pivoted → Figured → Refusal → Type 0
RefusedAfter M n k rec g e = (before : List Figured) → Recorded M n before rec → JoinCheck M n k before g (Some e)

abbrev pub RowsRead : FieldModel → ℕ → List ℕ → List Pivoted → Type 0
RowsRead M n bs rec = (given : List Figured) × RowsJoin M n 0 [] (drop 2 bs) None given × Recorded M n given rec

abbrev pub LogRead : FieldModel → ℕ → List ℕ → List Pivoted → Type 0
LogRead M n bs rec = (given : List Figured) × LogRecord M n bs None given × ReducedForm M n given rec
