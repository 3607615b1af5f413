-- Answers for `replay_new`: the replay goes on from the state of the new session.
use Rattle.std.proofs.Common.{◌≡◌, ℕ, List, ◌++◌, length, take, drop, vec_items, ap, ◌∙◌, subst, arith}
use Rattle.std.proofs.lemmas.List.{length-take}
use Rattle.law.specs.States.{new_state}
use Rattle.replay_text.specs.Replays.{Replayed}
use Rattle.survey_job.specs.Buffers.{zeros_and_line, stop_text}
use Rattle.survey_job.specs.Jobs.{Replays}
use Rattle.survey_job.proofs.Buffers.{cut_back, front_kept}
use Rattle.survey_job.proofs.Zeros.{blank-length, front_blank}
use Rattle.survey_job.proofs.Used.{answers_within}
use Rattle.survey_job.proofs.Assembled.{assembled}
use Rattle.survey_job.proofs.replays.replay_new.Goals as goal

pub slice_bounds-replay-end : goal.slice_bounds-replay-end
slice_bounds-replay-end g c =
    let all = blank-length _ (c.deref_mut.ensures.value ∙ c.args.memory.blank) in omega arith

pub print_stop-requires : goal.print_stop-requires
print_stop-requires g c =
    let (es, τ, done, whole, holds) = c.replay-done.ensures.law _ c.new-session.ensures.holds in
    let all = blank-length _ c.args.memory.blank in
    let lent = blank-length _ (c.deref_mut.ensures.value ∙ c.args.memory.blank) in
    let within = answers_within _ _ _ _ _ _ _ _ _ _ done c.replay-done.auto.answers in
    omega (arith, within, length-take {A = ℕ}, c.args.memory.printed.ok.0)

pub returns : goal.returns
returns g c =
    let M = g.S.Over.Field.model in
    let x = c.new-session.result in
    let T = g.S.Server.table x.server.now in
    let r = c.replay-done.result in
    let memory = c.args.memory in
    let lent = c.deref_mut.result.now in
    let answers = c.replay-done.new.answers in
    let log = c.replay-done.new.log in
    let (es, τ, told, whole, holds) = c.replay-done.ensures.law _ c.new-session.ensures.holds in
    let blank : lent ≡ zeros_and_line = c.deref_mut.ensures.value ∙ memory.blank in
    let wide = blank-length lent blank in
    let front = length-take 65536 lent in
    -- the answers had the room of a whole buffer
    let room : length answers ≡ 65536 = omega (arith, wide, front, c.replay-done.auto.answers) in
    let done : Replayed M (new_state T) c.args.text.now (take 65536 lent) c.deref_mut-2.result.now r es τ answers log =
    search (told) in
    let all = blank-length _ memory.blank in
    let within = answers_within _ _ _ _ _ _ _ _ _ _ done c.replay-done.auto.answers in
    let rest = drop 65536 lent in
    subst (λ (s : _). Replays M (g.S.Server.table s.now) c.args.text.now (vec_items c.print_stop.new.printed) (vec_items c.truncate.new.self))
    c.new-session.ensures.server
    (assembled M g.met.S.Over.Field.laws T c.new-session.ensures.holds.sound.table c.args.text.now _ _ answers log _ _ r es τ
    (front_blank lent blank) (c.deref_mut-2.ensures.value ∙ memory.blank_log) done whole.lawful
    (c.print_stop.ensures
    ∙ ap (λ (us : List ℕ). us ++ stop_text r.stop)
    (front_kept answers rest (drop (length (answers ++ rest)) memory.printed.items) _ r.answers memory.printed.len (omega arith)
    (omega (arith, within, front, memory.printed.ok.0)) (omega (arith, within, c.replay-done.auto.answers))))
    (cut_back _ _ log _ r.log _ c.truncate.ensures.items (omega (arith, c.replay-done.auto.log, c.deref_mut-2.ensures.len)) (omega arith)))
