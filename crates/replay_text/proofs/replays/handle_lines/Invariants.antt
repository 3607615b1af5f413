use Rattle.std.proofs.Common.{◌≡◌, ◌+◌, ◌≤◌, length, None}
use Rattle.law.specs.States.{State}
use Rattle.session.specs.States.{server_of, Holds}
use Rattle.replay_text.proofs.Progress.{Progress}
use Rattle.replay_text.proofs.replays.handle_lines.Given as goal

abbrev pub invariant-loop-rest : goal.invariant-loop-rest
invariant-loop-rest g l =
    record {
      server : server_of l.session ≡ server_of l.initial.session;
      count : l.done.lines + length l.rest ≤ length l.text;
      none_yet : l.done.stop ≡ None;
      answers_within : l.done.answers ≤ length l.answers;
      log_within : l.done.log ≤ length l.log;
      progress : (σ : State) → Holds σ l.initial.session → Progress l.session l.text l.initial.answers l.initial.log l.answers l.log l.done l.rest σ;
    }

abbrev pub decreases-loop-rest : goal.decreases-loop-rest
decreases-loop-rest g l = length l.rest
