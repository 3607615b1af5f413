-- A log that is accepted with its record is in order byte by byte. Assumes nothing.
use Rattle.std.proofs.Common.{◌≡◌, ℕ, ◌+◌, List, [], ◌∷◌, drop, Some, None, Ok, Err, Option, Result, sym, refl, subst, arith, OnOk, IfErr}
use Rattle.refusal.specs.declared.Refusal.{Refusal}
use Rattle.field.specs.Model.{FieldModel}
use Rattle.echelon.specs.Rows.{Figured, row_with}
use Rattle.answer_log.specs.Logs as logs
use Rattle.answer_log.specs.Logs.{RowsCheck, LogCheck, RewriteCheck}
use Rattle.answer_log.proofs.Logs.{excluded}
use Rattle.log_record.specs.Joins.{RowsJoin, no_more, bad_row, kept_out, next_row, LogRecord, bad_header, rows}
use Rattle.log_record.specs.Rewrites.{Rewrites, no_room, rewritten}
use Rattle.log_record.proofs.Entries.{header-one}
use Rattle.log_record.proofs.Once.{some_none}

module _ (M : FieldModel) (n : ℕ) where
  rows_formed :
      (k : ℕ) (before : List Figured) (bs : List ℕ) (o o' : Option Refusal) (given : List Figured) (e : Refusal) → RowsJoin M n k before bs o given
      → o ≡ None → RowsCheck M n k bs o' → o' ≡ Some e → ⊥
  rows_formed k before bs o o' given e (no_more _ _ _ none) is (logs.no_more _ _ none') is' = some_none e (sym is')
  rows_formed k before bs o o' given e (no_more _ _ _ none) is (logs.bad_row _ _ d some bad) is' = omega arith
  rows_formed k before bs o o' given e (no_more _ _ _ none) is (logs.next_row _ _ r some fine rest) is' = omega arith
  rows_formed k before bs o o' given e (bad_row _ _ _ d some bad) is check is' = some_none d is
  rows_formed k before bs o o' given e (kept_out _ _ _ d some w f size reads bad) is check is' = some_none d is
  rows_formed k before bs o o' given e (next_row _ _ _ _ _ some w f size reads fine rest) is (logs.no_more _ _ none') is' = omega arith
  rows_formed k before bs o o' given e (next_row _ _ _ _ _ some w f size reads fine rest) is (logs.bad_row _ _ d some' bad) is' =
      excluded M n (record { 0 = k }) bs d reads.check bad
  rows_formed k before bs o o' given e (next_row _ _ _ _ _ some w f size reads fine rest) is (logs.next_row _ _ r some' fine' rest') is' =
      rows_formed (k + 1) (row_with w f ∷ before) (drop size bs) o r given e rest is
      (subst (λ (i : ℕ). RowsCheck M n (k + 1) (drop i bs) r) (sym reads.whole) rest') is'

  log_formed :
      (bs : List ℕ) (o o' : Option Refusal) (given : List Figured) (e : Refusal) → LogRecord M n bs o given → o ≡ None → LogCheck M n bs o'
      → o' ≡ Some e → ⊥
  log_formed bs o o' given e (bad_header d bad) is check is' = some_none d is
  log_formed bs o o' given e (rows _ _ header join) is (logs.bad_header d bad) is' = some_none d (header-one M n bs (Some d) None bad header)
  log_formed bs o o' given e (rows _ _ header join) is (logs.rows r header' check) is' =
      rows_formed 0 [] (drop 2 bs) o r given e join is check is'

  module _ (bs : List ℕ) (room : ℕ) (given : List Figured) (accepted : LogRecord M n bs None given) where
    again : (o : Option Refusal) → RewriteCheck M n bs room o → Rewrites M n bs room o
    again o (logs.bad_log d bad) = absurd (log_formed bs None (Some d) given d accepted refl bad refl)
    again o (logs.log_full fine small) = no_room given accepted small
    again o (logs.accepted fine wide) = rewritten given accepted wide

    -- what the rewriting of its bytes answers
    pub written_again : (r : Result ℕ Refusal) → OnOk r (RewriteCheck M n bs room None) → OnOk r (Rewrites M n bs room None)
    written_again (Ok k) check = again None check
    written_again (Err d) check = tt

    pub refused_again :
        (r : Result ℕ Refusal) → IfErr r (λ d. RewriteCheck M n bs room (Some d)) → IfErr r (λ d. Rewrites M n bs room (Some d))
    refused_again (Ok k) check = tt
    refused_again (Err d) check = again (Some d) check
