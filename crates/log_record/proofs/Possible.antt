-- Every value stays possible after a log. Assumes nothing.
use Rattle.std.proofs.Common.{◌≡◌, ℕ, ◌+◌, List, [], ◌∷◌, ◌++◌, length, drop, None, sym, ap, ◌∙◌, subst}
use native.Mathlib.Decide.{ℕ_discrete}
use Rattle.refusal.specs.declared.LogRow.{LogRow}
use Rattle.field.specs.Model.{FieldModel}
use Rattle.field.specs.Sums.{Vector, Codes, sum}
use Rattle.server.specs.Tables.{value_at}
use Rattle.echelon.specs.Rows.{Figured, rows_of, Fits, Fixes, row_with}
use Rattle.echelon.specs.Reduced.{FitsGiven}
use Rattle.echelon.proofs.Forms.{given-agree}
use Rattle.echelon.proofs.Given.{fits-given}
use Rattle.law.specs.States.{State, Event, answered_by}
use Rattle.law.specs.Law.{Lawful}
use Rattle.law.proofs.Facts.{sound_after, sound_is_sane, last_table, all_given}
use Rattle.law.proofs.Possible.{every_value_stays_possible_lem, due_witnesses_fit_lem}
use Rattle.log_record.specs.Joins.{Contradicts, JoinCheck, joins, RowsJoin, no_more, next_row, LogRecord, rows}
use Rattle.log_record.specs.Theorems.{WitnessAfterALog, WitnessesFitTheLog, PossibleAfterALog}

module _ (M : FieldModel) (n : ℕ) where
  -- a table that has each figure which is not fixed has each figure
  abbrev Full : List Figured → Type 0
  Full before = (t : Vector) → Codes M n t → FitsGiven M n before t → Fits M n before t

  full_more : (k : LogRow) (before : List Figured) (g : Figured) → Full before → JoinCheck M n k before g None → Full (g ∷ before)
  full_more k before g full (joins none agrees) t ct (loose, rest) =
      let fits = full t ct rest in
      let x = sum M n g.row t in
      let against : (x ≡ g.figure → ⊥) → Fixes M n (rows_of before) g.row → Contradicts M n before g =
      λ d fixes. (
        fixes,
        λ u cu fu is. d (fixes t u ct cu (given-agree M n before t u ct cu rest (fits-given M n before u fu)) ∙ is),
      )
      in
      (elim (ℕ_discrete x g.figure) [ yes e ↦ e | no d ↦ absurd (d (loose (λ fixes. agrees (against d fixes)))) ], fits)

  rows_full :
      (k : ℕ) (before : List Figured) (bs : List ℕ) (given : List Figured) → Full before → RowsJoin M n k before bs None given → Full given
  rows_full k before bs given full (no_more _ _ _ none) = full
  rows_full k before bs given full (next_row _ _ _ _ _ some w f size reads fine rest) =
      rows_full (k + 1) (row_with w f ∷ before) (drop size bs) given (full_more (record { 0 = k }) before (row_with w f) full fine) rest

  log_full : (bs : List ℕ) (given : List Figured) → LogRecord M n bs None given → Full given
  log_full bs given (rows _ _ header join) = rows_full 0 [] (drop 2 bs) given (λ t ct fits. tt) join

  -- the rows given before fit where all fit
  older_fit : (newer older : List Figured) (t : Vector) → FitsGiven M n (newer ++ older) t → FitsGiven M n older t
  older_fit [] older t fits = fits
  older_fit (g ∷ newer) older t fits = older_fit newer older t fits.1

module _ (M : FieldModel) {bs : List ℕ} {log : List Figured} {σ τ : State} {es : List Event} (accepted : LogRecord M (length σ.table) bs None log) (is : σ.given ≡ log) (run : Lawful M σ es τ) where
  -- a table that has each figure which is not fixed has each figure of the log
  fits_log : (t : Vector) → Codes M (length τ.table) t → FitsGiven M (length τ.table) τ.given t → Fits M (length τ.table) log t
  fits_log t codes figures =
      let n = length τ.table in
      let all : FitsGiven M n (answered_by σ es ++ log) t =
      subst (λ (rows : List Figured). FitsGiven M n rows t) (all_given run ∙ ap (λ l. answered_by σ es ++ l) is) figures
      in
      let read : LogRecord M n bs None log = subst (λ (T : List ℕ). LogRecord M (length T) bs None log) (sym (last_table run)) accepted in
      log_full M n bs log read t codes (older_fit M n (answered_by σ es) log t all)

witness_after_a_log : WitnessAfterALog
witness_after_a_log M L bs log σ τ es sound accepted is run i a below code =
    let (w, known) = (every_value_stays_possible_lem M L τ (sound_is_sane (sound_after M L run sound))).0 i a below code in
    (w, known, fits_log M accepted is run (value_at w) known.codes known.figures)

witnesses_fit_the_log : WitnessesFitTheLog
witnesses_fit_the_log M L bs log σ τ es accepted is run i a below code e of_it due =
    let (w, same, there, codes, figures) = due_witnesses_fit_lem M L τ i a below code e of_it due in
    (w, same, there, codes, fits_log M accepted is run (value_at w) codes figures, figures)

pub possible_after_a_log_lem : PossibleAfterALog
possible_after_a_log_lem = (witness_after_a_log, witnesses_fit_the_log)
