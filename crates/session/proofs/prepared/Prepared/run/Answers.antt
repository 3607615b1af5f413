use Rattle.std.proofs.Common.{rules, ◌≡◌, ◌+◌, ◌<◌, List, [], ◌∷◌, ◌++◌, Result, length, get_or, take, drop, vec_items, sym, refl, ap, ◌∙◌, subst, arith, length-set, take_all}
use Rattle.std.proofs.lemmas.List.{drop-set-lt, take_at}
use Rattle.std.proofs.lemmas.Grind.{drop_more_same}
use Rattle.refusal.specs.declared.Refusal.{Refusal}
use Rattle.law.specs.States.{State, new_state, after as after_event}
use Rattle.law.specs.Law.{Due, Lawful, ends}
use Rattle.law.proofs.Facts.{lawful_more}
use Rattle.session.specs.States.{Holds}
use Rattle.session.specs.Calls.{event_of}
use Rattle.session.specs.Runs.{events, AllKept}
use Rattle.session.proofs.Running.{same_at, events_more, all_kept_more, ended}
use Rattle.session.specs.declared.calls.Call.{Call}
use Rattle.session.specs.declared.calls.Reply.{Reply}
use Rattle.session.proofs.prepared.Prepared.run.Goals as goal

nothing_kept : (replies : List (Result Reply Refusal)) → length replies ≡ 0 → AllKept [] [] replies
nothing_kept [] none = tt
nothing_kept (r ∷ replies) none = absurd (omega arith)

pub loop-call-init : goal.loop-call-init
loop-call-init g c =
    let T₀ = g.S.Server.table c.new-session.result.server in (
      refl,
      search rules,
      search rules,
      refl,
      refl,
      (new_state T₀, ends, c.new-session.ensures.holds),
      nothing_kept c.args.self.replies.items (omega (arith, c.args.self.none_yet, c.args.self.replies.ok.0)),
    )

pub loop-call-preserved : goal.loop-call-preserved
loop-call-preserved g c =
    let M = g.S.Over.Field.model in
    let inv = c.loop-call.invariant in
    let i = c.loop-call.call-index in
    let x' = c.reply_to.new.self in
    let r = c.reply_to.result in
    let none = c.call-item.result in
    let b = get_or c.loop-call.call-items i none in
    let d = c.reply_to.new.call in
    let before = c.deref_mut-call-items.result.now in
    let after = c.loop-call.call-items in
    let replies = c.loop-call.replies.items in
    let T₀ = g.S.Server.table c.new-session.result.server in
    let in_after : i < length after = omega (arith, c.loop-call-test.true, inv.3) in
    let in_before : i < length before = omega (arith, c.loop-call-test.true) in
    let was : get_or before i none ≡ b = sym (same_at after before i none in_after in_before inv.4) in
    let count : length replies ≡ i = omega (arith, inv.1, c.loop-call.replies.ok.0) in
    let told : vec_items c.push_reserved.new.self ≡ replies ++ r ∷ [] = search (c.push_reserved.ensures.items) in
    let (τ, run, holds) = inv.5 in
    let e = event_of b d r in
    let step : Due M τ e × Holds (after_event τ e) x' = c.reply_to.ensures.law τ holds in
    let whole : Lawful M (new_state T₀) (events (take i before) (take i after) replies ++ e ∷ []) (after_event τ e) = lawful_more run step.0 in (
      c.reply_to.ensures.server ∙ inv.0,
      c.push_reserved.ensures.len ∙ ap (λ k. k + 1) inv.1,
      omega (arith, inv.2, c.push_reserved.ensures.capacity, length-set after i d),
      length-set after i d ∙ inv.3,
      drop-set-lt (i + 1) after i d (omega arith) ∙ drop_more_same after before i inv.4,
      (
        after_event τ e,
        rw told (rw (events_more before after replies i none b d r was in_before in_after count) whole),
        step.1,
      ),
      rw told (all_kept_more before after replies i none b d r was in_before in_after count inv.6 c.reply_to.ensures.call),
    )

pub returns : goal.returns
returns g c =
    let inv = c.loop-call.invariant in
    let i = c.loop-call.call-index in
    let before = c.deref_mut-call-items.result.now in
    let after = c.loop-call.call-items in
    let all_before : take i before ≡ before = take_all i before c.loop-call-test.false in
    let all_after : take i after ≡ after = take_all i after (omega (arith, c.loop-call-test.false, inv.3)) in
    let len : length after ≡ c.args.self.calls.len = omega (arith, inv.3, c.deref_mut-call-items.ensures.len, c.args.self.calls.ok.0) in
    let given_back : take c.args.self.calls.len (after ++ drop (length after) c.args.self.calls.items) ≡ after =
    take_at after (drop (length after) c.args.self.calls.items) c.args.self.calls.len len in
    let value : before ≡ c.args.self.calls.items = c.deref_mut-call-items.ensures.value in
    record {
      assured =
          rw (given_back, ← value)
          (ended g.met.S.Over.Field.laws c.new-session.result.server c.args.server c.new-session.ensures.server before after c.loop-call.replies.items
          c.loop-call.session inv.0 c.new-session.ensures.holds.sound.table
          (subst (λ (l : List Call). (τ : State) × Lawful g.S.Over.Field.model (new_state (g.S.Server.table c.new-session.result.server)) (events before l c.loop-call.replies.items) τ × Holds τ c.loop-call.session) all_after
          (subst (λ (l : List Call). (τ : State) × Lawful g.S.Over.Field.model (new_state (g.S.Server.table c.new-session.result.server)) (events l (take i after) c.loop-call.replies.items) τ × Holds τ c.loop-call.session) all_before inv.5))
          (subst (λ (l : List Call). AllKept before l c.loop-call.replies.items) all_after
          (subst (λ (l : List Call). AllKept l (take i after) c.loop-call.replies.items) all_before inv.6)));
    }
