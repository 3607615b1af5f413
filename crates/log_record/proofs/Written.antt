-- An accepted log is what its rows write, and rows in order are read back. Assumes nothing.
use Rattle.std.proofs.Common.{◌≡◌, ℕ, ◌+◌, List, [], ◌∷◌, ◌++◌, length, take, drop, None, Option, sym, refl, ap, ◌∙◌, subst, ap₂, add-one, arith}
use Rattle.std.proofs.lemmas.List.{append-nil, append_assoc, take-append-drop, length-append, drop-append-le, drop_all, get_or-drop}
use Rattle.refusal.specs.declared.Refusal.{Refusal}
use Rattle.field.specs.Model.{FieldModel}
use Rattle.server.specs.Checks.{Count}
use Rattle.echelon.specs.Rows.{Figured, row_with}
use Rattle.answer_log.specs.Rows.{row_bytes}
use Rattle.answer_log.specs.Entries.{accepted}
use Rattle.answer_log.proofs.Logs.{header-same}
use Rattle.answer_log.proofs.Again.{again}
use Rattle.answer_log.proofs.Back.{reads_back}
use Rattle.answer_log.proofs.Readers.{row_within}
use Rattle.log_record.specs.Joins.{rows_bytes, joins, RowsJoin, no_more, next_row, rows}
use Rattle.log_record.specs.Theorems.{Bytes, InOrder, AcceptedIsWritten, WrittenIsAccepted}

pub no_bytes : (bs : List ℕ) → length bs ≡ 0 → bs ≡ []
no_bytes [] e = refl
no_bytes (b ∷ bs) e = absurd (omega arith)

module _ (M : FieldModel) (n : ℕ) where
  rows_written :
      (k : ℕ) (before : List Figured) (bs : List ℕ) (given : List Figured) → Bytes bs → RowsJoin M n k before bs None given
      → rows_bytes M n before ++ bs ≡ rows_bytes M n given
  rows_written k before bs given fit (no_more _ _ _ none) =
      ap (λ us. rows_bytes M n before ++ us) (no_bytes bs none) ∙ append-nil (rows_bytes M n before)
  rows_written k before bs given fit (next_row _ _ _ _ _ some w f size reads fine rest) =
      let row : take size bs ≡ row_bytes M n w f = again M n (record { 0 = k }) bs fit w f size reads in
      ap (λ us. rows_bytes M n before ++ us) (sym (take-append-drop size bs) ∙ ap (λ us. us ++ drop size bs) row)
      ∙ sym (append_assoc (rows_bytes M n before) (row_bytes M n w f) (drop size bs))
      ∙ rows_written (k + 1) (row_with w f ∷ before) (drop size bs) given (λ i. rw get_or-drop (fit (size + i))) rest

  -- one row more, read from the bytes that it writes
  rows_read :
      Count n → (given : List Figured) → InOrder M n given → (rest : List ℕ) (r : Option Refusal) (all : List Figured)
      → RowsJoin M n (length given) given rest r all → RowsJoin M n 0 [] (rows_bytes M n given ++ rest) r all
  rows_read count [] order rest r all join = join
  rows_read count (g ∷ before) (row, none, agrees, order) rest r all join =
      let bytes = row_bytes M n g.row g.figure in
      let reads = reads_back M n g.row g.figure rest count row.row.weights row.row.none_past row.row.some_named row.figure (record { 0 = length before }) in
      let within = row_within M n (record { 0 = length before }) (bytes ++ rest) 0 g.row g.figure (length bytes) reads in
      let behind : drop (length bytes) (bytes ++ rest) ≡ rest =
      drop-append-le (length bytes) bytes rest (omega arith) ∙ ap (λ us. us ++ rest) (drop_all (length bytes) bytes (omega arith)) in
      let next : RowsJoin M n (length before + 1) (g ∷ before) (drop (length bytes) (bytes ++ rest)) r all =
      subst (λ (i : ℕ). RowsJoin M n i (g ∷ before) (drop (length bytes) (bytes ++ rest)) r all) (sym (add-one (length before)))
      (subst (λ (us : List ℕ). RowsJoin M n (length (g ∷ before)) (g ∷ before) us r all) (sym behind) join) in
      subst (λ (us : List ℕ). RowsJoin M n 0 [] us r all) (sym (append_assoc (rows_bytes M n before) bytes rest))
      (rows_read count before order (bytes ++ rest) r all
      (next_row (length before) before (bytes ++ rest) r all (omega (arith, length-append bytes rest, within.0)) g.row g.figure (length bytes) reads (joins none agrees) next))

pub accepted_is_written_lem : AcceptedIsWritten
accepted_is_written_lem M n bs fit given (rows _ _ header join) =
    sym (take-append-drop 2 bs)
    ∙ ap₂ (λ us vs. us ++ vs) (header-same M n bs header) (rows_written M n 0 [] (drop 2 bs) given (λ i. rw get_or-drop (fit (2 + i))) join)

pub written_is_accepted_lem : WrittenIsAccepted
written_is_accepted_lem M n count given order =
    let read = rows_read M n count given order [] None given (no_more (length given) given [] refl) in
    rows None given (accepted (omega arith) refl count refl)
    (subst (λ (us : List ℕ). RowsJoin M n 0 [] us None given) (append-nil (rows_bytes M n given)) read)
