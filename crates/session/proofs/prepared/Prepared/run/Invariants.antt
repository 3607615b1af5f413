use Rattle.std.proofs.Common.{◌≡◌, ◌≤◌, length, take, drop, vec_len, vec_capacity}
use Rattle.law.specs.States.{State, new_state}
use Rattle.law.specs.Law.{Lawful}
use Rattle.session.specs.States.{Holds}
use Rattle.session.specs.Runs.{events, AllKept}
use Rattle.session.proofs.prepared.Prepared.run.Given as goal

abbrev pub invariant-loop-call : goal.invariant-loop-call
invariant-loop-call g l =
    let T = g.S.Server.table l.initial.session.server in
    let i = l.call-index in
    let es = events (take i l.initial.call-items) (take i l.call-items) l.replies.items in
    (l.session.server ≡ l.initial.session.server) × (vec_len l.replies ≡ i) × (length l.call-items ≤ vec_capacity l.replies)
    × (length l.call-items ≡ length l.initial.call-items) × (drop i l.call-items ≡ drop i l.initial.call-items)
    × ((τ : State) × Lawful g.S.Over.Field.model (new_state T) es τ × Holds τ l.session)
    × AllKept (take i l.initial.call-items) (take i l.call-items) l.replies.items
