-- Calls and replies in memory, as the law has them.
--   asked c               what a call asks
--   buffer_of c           the codes in the buffer that a witness call brings
--   event_of c d r        the event of a call: c as it was made, d as it is then, r its reply
--   SameCall c d          d is c, but for what its buffer holds
--   Kept c d r            so it is after the call; where that is refused, the buffer is as it was too
-- Assumes nothing.
use Rattle.std.specs.Prelude.{◌≡◌, ℕ, List, [], length, Ok, Err, Result}
use Rattle.refusal.specs.declared.Refusal.{Refusal}
use Rattle.refusal.specs.declared.Refusal.TheVariants.{WrongCount}
use Rattle.field.specs.declared.Element.{Element}
use Rattle.server.specs.Tables.{codes}
use Rattle.law.specs.States as states
use Rattle.law.specs.States.{Event, submits, answers, withdraws, witnesses, refused, permitted, answered, withdrew, witnessed}
use Rattle.session.specs.declared.calls.Call.{Call}
use Rattle.session.specs.declared.calls.Call.TheVariants.{Submit, Answer, Withdraw, Witness}
use Rattle.session.specs.declared.calls.Reply.{Reply}
use Rattle.session.specs.declared.calls.Reply.TheVariants.{Permits, Gives, TakenBack, Filled}

abbrev pub asked : Call → states.Call
asked (Submit row) = submits row.now
asked (Answer k) = answers k
asked (Withdraw k) = withdraws k
asked (Witness i a buffer) = witnesses i.0 a.0 (length buffer.now)

abbrev pub buffer_of : Call → List ℕ
buffer_of (Witness i a buffer) = codes buffer.now
buffer_of _ = []

-- where a reply is not of the call's sort, the event is a refusal that is never due to any call
abbrev pub foreign : states.Call → Event
foreign c = refused c WrongCount

abbrev pub submit_reply : List Element → Result Reply Refusal → Event
submit_reply ws (Err e) = refused (submits ws) e
submit_reply ws (Ok (Permits k)) = permitted ws k
submit_reply ws (Ok r) = foreign (submits ws)

abbrev pub answer_reply : ℕ → Result Reply Refusal → Event
answer_reply k (Err e) = refused (answers k) e
answer_reply k (Ok (Gives v)) = answered k v.0
answer_reply k (Ok r) = foreign (answers k)

abbrev pub withdraw_reply : ℕ → Result Reply Refusal → Event
withdraw_reply k (Err e) = refused (withdraws k) e
withdraw_reply k (Ok TakenBack) = withdrew k
withdraw_reply k (Ok r) = foreign (withdraws k)

-- the buffer had l places, and then has the codes w
abbrev pub witness_reply : ℕ → ℕ → ℕ → List ℕ → Result Reply Refusal → Event
witness_reply i a l w (Err e) = refused (witnesses i a l) e
witness_reply i a l w (Ok Filled) = witnessed i a l w
witness_reply i a l w (Ok r) = foreign (witnesses i a l)

abbrev pub event_of : Call → Call → Result Reply Refusal → Event
event_of (Submit row) d r = submit_reply row.now r
event_of (Answer k) d r = answer_reply k r
event_of (Withdraw k) d r = withdraw_reply k r
event_of (Witness i a buffer) d r = witness_reply i.0 a.0 (length buffer.now) (buffer_of d) r

abbrev pub SameCall : Call → Call → Type 0
SameCall (Submit row) (Submit row') = row' ≡ row
SameCall (Answer k) (Answer k') = k' ≡ k
SameCall (Withdraw k) (Withdraw k') = k' ≡ k
SameCall (Witness i a buffer) (Witness i' a' buffer') =
    (i' ≡ i) × (a' ≡ a) × (length buffer'.now ≡ length buffer.now) × (buffer'.ghost_name ≡ buffer.ghost_name)
SameCall c d = ⊥

abbrev pub Kept : Call → Call → Result Reply Refusal → Type 0
Kept c d (Ok r) = SameCall c d
Kept c d (Err e) = d ≡ c
