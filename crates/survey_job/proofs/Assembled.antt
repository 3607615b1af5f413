-- A replay over a new session, put together. Assumes nothing.
use Rattle.std.proofs.Common.{◌≡◌, ℕ, List, ◌++◌, take, sym, subst}
use Rattle.field.specs.Model.{FieldModel, FieldLaws}
use Rattle.server.specs.Tables.{Table}
use Rattle.law.specs.States.{State, new_state, Event}
use Rattle.law.specs.Law.{Lawful}
use Rattle.law.proofs.Promised.{new_runs_are_assured_lem}
use Rattle.replay_text.specs.declared.outcome.Replay.{Replay}
use Rattle.replay_text.specs.Replays.{Replayed}
use Rattle.survey_job.specs.Buffers.{zeros, stop_text}
use Rattle.survey_job.specs.Jobs.{Replays, over_new_session}

pub assembled :
    (M : FieldModel) → FieldLaws M → (T : List ℕ) → Table M T → (text answers log answers' log' out logged : List ℕ) (r : Replay) (es : List Event) (τ : State)
    → answers ≡ zeros → log ≡ zeros → Replayed M (new_state T) text answers log r es τ answers' log' → Lawful M (new_state T) es τ
    → out ≡ take r.answers answers' ++ stop_text r.stop → logged ≡ take r.log log' → Replays M T text out logged
assembled M L T table text answers log answers' log' out logged r es τ a l done run o g =
    let first = subst (λ (xs : List ℕ). Replayed M (new_state T) text xs log r es τ answers' log') a done in
    let both = subst (λ (xs : List ℕ). Replayed M (new_state T) text zeros xs r es τ answers' log') l first in
    subst (λ (xs : List ℕ). Replays M T text xs logged) (sym o)
    (subst (λ (xs : List ℕ). Replays M T text (take r.answers answers' ++ stop_text r.stop) xs) (sym g)
    (over_new_session r es τ answers' log' both (new_runs_are_assured_lem M L T table τ es run)))
