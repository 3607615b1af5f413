-- A log that is read row by row, forwards. Assumes nothing.
use Rattle.std.proofs.Common.{◌≡◌, ℕ, ◌+◌, ◌-◌, ◌<◌, ◌≤◌, List, [], ◌∷◌, length, drop, Some, None, Ok, Err, OnOk, IfErr, Option, Result, sym, ap, ◌∙◌, subst, arith}
use Rattle.std.proofs.lemmas.List.{drop-drop, length-drop}
use Rattle.refusal.specs.declared.Refusal.{Refusal}
use Rattle.field.specs.Model.{FieldModel}
use Rattle.field.specs.Sums.{Vector}
use Rattle.server.specs.Tables.{bounded}
use Rattle.echelon.specs.Rows.{Figured, row_with}
use Rattle.echelon.specs.Reduced.{Pivoted}
use Rattle.answer_log.specs.Entries.{EntryCheck, Reads, HeaderCheck, accepted}
use Rattle.log_record.specs.Joins.{JoinCheck, RowsJoin, no_more, bad_row, kept_out, next_row, RowsRead, LogRecord, LogRead, rows}

module _ (M : FieldModel) (n k : ℕ) (before : List Figured) (bytes : List ℕ) (at : ℕ) where
  pub rows_done : length bytes ≤ at → RowsJoin M n k before (drop at bytes) None before
  rows_done h = no_more k before (drop at bytes) (rw length-drop (omega arith))

  module _ (h : at < length bytes) where
    some : 1 ≤ length (drop at bytes)
    some = rw length-drop (omega arith)

    pub row-refused : (e : Refusal) → EntryCheck M n (record { 0 = k }) (drop at bytes) (Some e) → RowsJoin M n k before (drop at bytes) (Some e) []
    row-refused e bad = bad_row k before (drop at bytes) e some bad

    module _ (w : Vector) (f next : ℕ) (reads : Reads M n (record { 0 = k }) (drop at bytes) w f (next - at)) where
      pub row-kept_out :
          (e : Refusal) → JoinCheck M n (record { 0 = k }) before (row_with w f) (Some e) → RowsJoin M n k before (drop at bytes) (Some e) []
      row-kept_out e bad = kept_out k before (drop at bytes) e some w f (next - at) reads bad

      pub row-joined :
          at < next → JoinCheck M n (record { 0 = k }) before (row_with w f) None → (r : Option Refusal) (given : List Figured)
          → RowsJoin M n (k + 1) (row_with w f ∷ before) (drop next bytes) r given → RowsJoin M n k before (drop at bytes) r given
      row-joined on fine r given rest =
          let behind : drop (next - at) (drop at bytes) ≡ drop next bytes = drop-drop (next - at) at bytes ∙ ap (λ i. drop i bytes) (omega arith) in
          next_row k before (drop at bytes) r given some w f (next - at) reads fine
          (subst (λ (bs : List ℕ). RowsJoin M n (k + 1) (row_with w f ∷ before) bs r given) (sym behind) rest)

-- the count of a log whose header is in order
pub header-count : (M : FieldModel) (n : ℕ) (bs : List ℕ) → HeaderCheck M n bs None → bounded n ≡ n
header-count M n bs (accepted long kind count same) = omega (arith, count.0, count.1)

-- header and rows
module _ (M : FieldModel) (n : ℕ) (bs : List ℕ) (header : HeaderCheck M n bs None) where
  pub log_read : {A E : Type 0} (rec : List Pivoted) (r : Result A E) → OnOk r (RowsRead M n bs rec) → OnOk r (LogRead M n bs rec)
  log_read rec (Ok x) (given, join, recorded) = (given, rows None given header join, recorded.form)
  log_read rec (Err e) none = tt

  pub log_refused : {A : Type 0} (r : Result A Refusal) → IfErr r (λ e. RowsJoin M n 0 [] (drop 2 bs) (Some e) []) → IfErr r (λ e. LogRecord M n bs (Some e) [])
  log_refused (Ok x) none = tt
  log_refused (Err e) join = rows (Some e) [] header join
