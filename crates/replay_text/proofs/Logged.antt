-- The run of the events of a replay, and the log of the rows that they answer, as one line more is handled. Assumes nothing.
use Rattle.std.proofs.Common.{◌≡◌, ℕ, List, [], ◌∷◌, ◌++◌, length, sym, ap, ◌∙◌}
use Rattle.std.proofs.lemmas.List.{append-nil, append_assoc}
use Rattle.field.specs.Model.{FieldModel}
use Rattle.echelon.specs.Rows.{Figured}
use Rattle.law.specs.States.{State, Event, after, newly_answered, answered_by}
use Rattle.law.specs.Law.{Lawful, ends, goes_on}
use Rattle.law.proofs.Facts.{last_table, lawful_then}
use Rattle.answer_log.specs.Rows.{header_bytes, row_bytes}
use Rattle.log_record.specs.Joins.{rows_bytes, log_bytes}
use Rattle.replay_text.specs.Replays.{logged, Lines, none_yet, one_more}

-- the events of the lines are a lawful run
pub lines_run :
    {M : FieldModel} {σ : State} {room log_room k : ℕ} {text : List ℕ} {es : List Event} {τ : State} {out : List ℕ}
    → Lines M σ room log_room k text es τ out → Lawful M σ es τ
lines_run none_yet = ends
lines_run (one_more k text es τ out lines room log_room line plain a new τ' handled run) = lawful_then (lines_run lines) run

answered_more :
    {M : FieldModel} {σ τ : State} {es : List Event} → Lawful M σ es τ → (new : List Event)
    → answered_by σ (es ++ new) ≡ answered_by τ new ++ answered_by σ es
answered_more {σ = σ} ends new = sym (append-nil (answered_by σ new))
answered_more {σ = σ} {τ = τ} (goes_on {e = e} {es = es} due more) new =
    ap (λ rows. rows ++ newly_answered e σ.pending) (answered_more more new)
    ∙ append_assoc (answered_by τ new) (answered_by (after σ e) es) (newly_answered e σ.pending)

rows_more : (M : FieldModel) (n : ℕ) (new rows : List Figured) → rows_bytes M n (new ++ rows) ≡ rows_bytes M n rows ++ rows_bytes M n new
rows_more M n [] rows = sym (append-nil (rows_bytes M n rows))
rows_more M n (g ∷ new) rows =
    ap (λ bs. bs ++ row_bytes M n g.row g.figure) (rows_more M n new rows) ∙ append_assoc (rows_bytes M n rows) (rows_bytes M n new) _

-- the rows of a line are logged after those before
pub logged_more :
    {M : FieldModel} {σ τ : State} {es : List Event} → Lawful M σ es τ → (new : List Event)
    → logged M σ es ++ rows_bytes M (length τ.table) (answered_by τ new) ≡ logged M σ (es ++ new)
logged_more {M} {σ} {τ} {es} run new =
    let n = length σ.table in
    let before = answered_by σ es in
    let rows = answered_by τ new in
    ap (λ T. logged M σ es ++ rows_bytes M (length T) rows) (last_table run)
    ∙ append_assoc (header_bytes M n) (rows_bytes M n before) (rows_bytes M n rows)
    ∙ ap (λ bs. header_bytes M n ++ bs) (sym (rows_more M n rows before))
    ∙ ap (log_bytes M n) (sym (answered_more run new))
