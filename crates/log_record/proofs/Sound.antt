-- The rows of a log are those of a sound state. Assumes nothing.
use Rattle.std.proofs.Common.{ℕ, ◌+◌, ◌<◌, List, [], ◌∷◌, length, drop, None, Some, Option, arith}
use Rattle.refusal.specs.declared.Refusal.{Refusal}
use Rattle.refusal.specs.declared.LogRow.{LogRow}
use Rattle.field.specs.Model.{FieldModel, FieldLaws}
use Rattle.server.specs.Tables.{Table}
use Rattle.echelon.specs.Rows.{Figured, rows_of, Pins, row_with}
use Rattle.law.specs.States.{log_state}
use Rattle.law.specs.Sound.{RowFine, AllFine, Sound}
use Rattle.law.proofs.Facts.{not_open, new_is_sound_lem}
use Rattle.log_record.specs.Joins.{JoinCheck, joins, RowsJoin, no_more, bad_row, kept_out, next_row, LogRecord, bad_header, rows}
use Rattle.log_record.specs.Theorems.{LogIsSound}
use Rattle.log_record.proofs.Fine.{reads_fine}

module _ (M : FieldModel) (L : FieldLaws M) (T : List ℕ) (table : Table M T) where
  pub record Given (given : List Figured) : Type 0 where
    pub fine : AllFine M (length T) given
    pub pins_nobody : (i : ℕ) → i < length T → Pins M (length T) (rows_of given) i → ⊥

  nothing_given : Given []
  nothing_given = record { fine = tt; pins_nobody = (new_is_sound_lem M L T table).pins_nobody }

  one_more :
      (k : LogRow) (before : List Figured) (g : Figured) → Given before → RowFine M (length T) g → JoinCheck M (length T) k before g None
      → Given (g ∷ before)
  one_more k before g known fine (joins none agrees) = record { fine = (fine, known.fine); pins_nobody = λ i h pins. none i (h, pins) }

  rows_given :
      (k : ℕ) (before : List Figured) (bs : List ℕ) (r : Option Refusal) (given : List Figured) → Given before
      → RowsJoin M (length T) k before bs r given → Given given
  rows_given k before bs r given known (no_more _ _ _ none) = known
  rows_given k before bs r given known (bad_row _ _ _ e some bad) = nothing_given
  rows_given k before bs r given known (kept_out _ _ _ e some w f size reads bad) = nothing_given
  rows_given k before bs r given known (next_row _ _ _ _ _ some w f size reads fine rest) =
      rows_given (k + 1) (row_with w f ∷ before) (drop size bs) r given
      (one_more (record { 0 = k }) before (row_with w f) known (reads_fine M L (length T) (record { 0 = k }) bs w f size reads) fine) rest

  log_given : (bs : List ℕ) (r : Option Refusal) (given : List Figured) → LogRecord M (length T) bs r given → Given given
  log_given bs r given (bad_header e bad) = nothing_given
  log_given bs r given (rows _ _ header join) = rows_given 0 [] (drop 2 bs) r given nothing_given join

  -- the state after a log, by its answer
  after_answer : (r : Option Refusal) (given : List Figured) → Given given → Sound M (log_state T r given)
  after_answer None given known = record {
    table = table;
    rows = known.fine;
    pins_nobody = known.pins_nobody;
    few_permits = omega arith;
    open_facts = λ p e. absurd (not_open p e);
  }
  after_answer (Some e) given known = record {
    table = table;
    rows = tt;
    pins_nobody = nothing_given.pins_nobody;
    few_permits = omega arith;
    open_facts = λ p e. absurd (not_open p e);
  }

pub log_is_sound_lem : LogIsSound
log_is_sound_lem M L T table bs r given read = after_answer M L T table r given (log_given M L T table bs r given read)
