-- A replay uses no more of the answers' buffer than there is. Assumes nothing.
use Rattle.std.proofs.Common.{◌≡◌, ℕ, ◌≤◌, List, length, drop, arith}
use Rattle.std.proofs.lemmas.List.{length-append}
use Rattle.field.specs.Model.{FieldModel}
use Rattle.law.specs.States.{State, Event}
use Rattle.replay_text.specs.declared.outcome.Replay.{Replay}
use Rattle.replay_text.specs.Replays.{Replayed, too_long, no_header, replayed}

pub answers_within :
    (M : FieldModel) (σ : State) (text answers log : List ℕ) (r : Replay) (es : List Event) (τ : State) (answers' log' : List ℕ)
    → Replayed M σ text answers log r es τ answers' log' → length answers' ≡ length answers → r.answers ≤ length answers
answers_within M σ text answers log _ _ _ _ _ (too_long l) same = omega arith
answers_within M σ text answers log _ _ _ _ _ (no_header l g) same = omega arith
answers_within M σ text answers log _ _ _ _ _ (replayed l g k done rest es τ out parts lines e stops) same =
    let whole = length-append out (drop (length out) answers) in omega arith
