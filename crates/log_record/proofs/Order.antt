-- The rows of an accepted log are in order, and reading takes exactly what some rows write. Assumes nothing.
use Rattle.std.proofs.Common.{◌≡◌, ℕ, ◌+◌, List, [], ◌∷◌, ◌++◌, length, take, drop, cond, None, Option, sym, refl, ap, ◌∙◌, subst, ap₂, add-one, arith}
use Rattle.std.proofs.Math.Dec.{ltb}
use Rattle.std.proofs.lemmas.Bool.{cond_below, cond_above}
use Rattle.std.proofs.lemmas.List.{append-nil, append_assoc, take-append-drop, length-append, drop-append-le, drop_all, get_or-drop}
use Rattle.refusal.specs.declared.Refusal.{Refusal}
use Rattle.field.specs.Model.{FieldModel, FieldLaws}
use Rattle.field.specs.Sums.{Vector}
use Rattle.server.specs.Checks.{Count}
use Rattle.echelon.specs.Rows.{Figured, row_with}
use Rattle.answer_log.specs.Rows.{row_bytes}
use Rattle.answer_log.specs.Entries.{row_length_lem, row_weight, row_figure, EntryCheck, accepted, Reads}
use Rattle.answer_log.specs.Logs.{RowsCheck, no_more, next_row, LogCheck, rows}
use Rattle.answer_log.proofs.Logs.{header-same}
use Rattle.answer_log.proofs.Again.{again}
use Rattle.answer_log.proofs.Back.{reads_back}
use Rattle.answer_log.proofs.Readers.{row_within}
use Rattle.log_record.specs.Joins.{rows_bytes, log_bytes, joins, RowsJoin, no_more as no_rows, next_row as next_joins, rows as all_rows}
use Rattle.law.specs.Sound.{AllFine}
use Rattle.log_record.specs.Theorems.{Bytes, InOrder, AcceptedIsInOrder, ReadIsWritten}
use Rattle.log_record.proofs.Fine.{reads_fine}
use Rattle.log_record.proofs.Written.{no_bytes}

module _ (M : FieldModel) (L : FieldLaws M) (n : ℕ) where
  rows_in_order :
      (k : ℕ) (before : List Figured) (bs : List ℕ) (given : List Figured) → InOrder M n before → RowsJoin M n k before bs None given
      → InOrder M n given
  rows_in_order k before bs given order (no_rows _ _ _ none) = order
  rows_in_order k before bs given order (next_joins _ _ _ _ _ some w f size reads (joins none agrees) rest) =
      rows_in_order (k + 1) (row_with w f ∷ before) (drop size bs) given
      (reads_fine M L n (record { 0 = k }) bs w f size reads, none, agrees, order) rest

  -- the weights of a row, 0 from the count on
  weights_in : List ℕ → Vector
  weights_in bs m = cond (ltb m n) (row_weight M n bs m) 0

  read_so : (k : ℕ) (bs : List ℕ) → EntryCheck M n (record { 0 = k }) bs None → Reads M n (record { 0 = k }) bs (weights_in bs) (row_figure M n bs) (row_length_lem M n bs)
  unfolding weights_in
  read_so k bs fine = record {
    check = fine;
    weights = λ m h. sym (cond_below m n (row_weight M n bs m) 0 h);
    none_past = λ m h. sym (cond_above m n (row_weight M n bs m) 0 0 h refl);
    figure = refl;
    whole = refl;
  }

  -- the rows that a log without its header was read as
  rows_found :
      (k : ℕ) (before : List Figured) (bs : List ℕ) → Bytes bs → AllFine M n before → RowsCheck M n k bs None
      → (given : List Figured) × AllFine M n given × (rows_bytes M n before ++ bs ≡ rows_bytes M n given)
  rows_found k before bs fit fine (no_more _ _ none) =
      (before, fine, ap (λ us. rows_bytes M n before ++ us) (no_bytes bs none) ∙ append-nil (rows_bytes M n before))
  rows_found k before bs fit fine (next_row _ _ _ some check rest) =
      let w = weights_in bs in
      let f = row_figure M n bs in
      let size = row_length_lem M n bs in
      let reads = read_so k bs check in
      let row : take size bs ≡ row_bytes M n w f = again M n (record { 0 = k }) bs fit w f size reads in
      let (given, all, same) =
      rows_found (k + 1) (row_with w f ∷ before) (drop size bs) (λ i. rw get_or-drop (fit (size + i)))
      (reads_fine M L n (record { 0 = k }) bs w f size reads, fine) rest in (
        given,
        all,
        ap (λ us. rows_bytes M n before ++ us) (sym (take-append-drop size bs) ∙ ap (λ us. us ++ drop size bs) row)
            ∙ sym (append_assoc (rows_bytes M n before) (row_bytes M n w f) (drop size bs)) ∙ same,
      )

module _ (M : FieldModel) (n : ℕ) where
  -- one row more, read from the bytes that it writes
  rows_checked :
      Count n → (given : List Figured) → AllFine M n given → (rest : List ℕ) (r : Option Refusal)
      → RowsCheck M n (length given) rest r → RowsCheck M n 0 (rows_bytes M n given ++ rest) r
  rows_checked count [] fine rest r check = check
  rows_checked count (g ∷ before) (row, fine) rest r check =
      let bytes = row_bytes M n g.row g.figure in
      let reads = reads_back M n g.row g.figure rest count row.row.weights row.row.none_past row.row.some_named row.figure (record { 0 = length before }) in
      let within = row_within M n (record { 0 = length before }) (bytes ++ rest) 0 g.row g.figure (length bytes) reads in
      let behind : drop (row_length_lem M n (bytes ++ rest)) (bytes ++ rest) ≡ rest =
      ap (λ i. drop i (bytes ++ rest)) (sym reads.whole)
      ∙ drop-append-le (length bytes) bytes rest (omega arith) ∙ ap (λ us. us ++ rest) (drop_all (length bytes) bytes (omega arith)) in
      let next : RowsCheck M n (length before + 1) (drop (row_length_lem M n (bytes ++ rest)) (bytes ++ rest)) r =
      subst (λ (i : ℕ). RowsCheck M n i (drop (row_length_lem M n (bytes ++ rest)) (bytes ++ rest)) r) (sym (add-one (length before)))
      (subst (λ (us : List ℕ). RowsCheck M n (length (g ∷ before)) us r) (sym behind) check) in
      subst (λ (us : List ℕ). RowsCheck M n 0 us r) (sym (append_assoc (rows_bytes M n before) bytes rest))
      (rows_checked count before fine (bytes ++ rest) r
      (next_row (length before) (bytes ++ rest) r (omega (arith, length-append bytes rest, within.0)) reads.check next))

pub accepted_is_in_order_lem : AcceptedIsInOrder
accepted_is_in_order_lem M L n bs given (all_rows _ _ (accepted long kind count same) join) =
    (count, rows_in_order M L n 0 [] (drop 2 bs) given tt join)

pub read_is_written_lem : ReadIsWritten
read_is_written_lem = record { read = read; written = written }
  where
    read :
        (M : FieldModel) → FieldLaws M → (n : ℕ) (bs : List ℕ) → Bytes bs → LogCheck M n bs None
        → Count n × ((given : List Figured) × AllFine M n given × (bs ≡ log_bytes M n given))
    read M L n bs fit (rows _ (accepted long kind count same) check) =
        let (given, fine, same-rows) = rows_found M L n 0 [] (drop 2 bs) (λ i. rw get_or-drop (fit (2 + i))) tt check in (
          count,
          (
            given,
            fine,
            sym (take-append-drop 2 bs) ∙ ap₂ (λ us vs. us ++ vs) (header-same M n bs (accepted long kind count same)) same-rows,
          ),
        )

    written :
        (M : FieldModel) (n : ℕ) → Count n → (given : List Figured) → AllFine M n given
        → LogCheck M n (log_bytes M n given) None
    written M n count given fine =
        rows None (accepted (omega arith) refl count refl)
        (subst (λ (us : List ℕ). RowsCheck M n 0 us None) (append-nil (rows_bytes M n given))
        (rows_checked M n count given fine [] None (no_more (length given) [] refl)))
