use Rattle.std.proofs.Common.{rules, ◌≡◌, ◌≢◌, ℕ, arith}
use Rattle.std.proofs.lemmas.Iterator.{IsFirst-from_position, YieldsList-from_slice}
use borrow.Author.Tests.{tests}
use Rattle.replay_text.specs.Replays.{answers_full, log_full, not_ended}
use Rattle.replay_text.proofs.Newlines.{FirstNewline, no_newline, line_cut}
use Rattle.replay_text.proofs.replays.first_line.Goals as goal
use Rattle.replay_text.proofs.replays.first_line.Goals.{After-position}

first : (c : After-position) → FirstNewline c.args.rest.now c.position.result
first c =
    IsFirst-from_position _ _ _ (λ (b : ℕ). b ≡ 10) (λ (b : ℕ). b ≢ 10) c.position.ensures.ran
    (YieldsList-from_slice c.args.rest.now c.iter.ensures.rest) (λ x q k. search (rules, tests)) (λ x q k. search (rules, tests))

pub returns-then-room-lt-ANSWER_ROOM : goal.returns-then-room-lt-ANSWER_ROOM
returns-then-room-lt-ANSWER_ROOM c = answers_full (omega (arith, c.requires)) (omega (arith, c.if-room-lt-ANSWER_ROOM.true))

pub returns-then-log_room-lt-LOG_ROOM : goal.returns-then-log_room-lt-LOG_ROOM
returns-then-log_room-lt-LOG_ROOM c =
    log_full (omega (arith, c.requires)) (omega (arith, c.if-room-lt-ANSWER_ROOM.false)) (omega (arith, c.if-log_room-lt-LOG_ROOM.true))

pub returns-in-Some : goal.returns-in-Some
returns-in-Some c =
    let cut = line_cut c.args.rest.now _ _ c.in-Some.is (first (goal.at.returns-in-Some c).After-position) in
    (omega (arith, c.if-room-lt-ANSWER_ROOM.false), omega (arith, c.if-log_room-lt-LOG_ROOM.false), cut.0, cut.1)

pub returns-in-None : goal.returns-in-None
returns-in-None c =
    not_ended (omega (arith, c.requires)) (omega (arith, c.if-room-lt-ANSWER_ROOM.false)) (omega (arith, c.if-log_room-lt-LOG_ROOM.false))
    (no_newline c.args.rest.now _ c.in-None.is (first (goal.at.returns-in-None c).After-position))
