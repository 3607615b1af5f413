-- A run of a list of calls on a new session.
--   calls_of p            the calls that were prepared
--   events before after replies   the events of a run, the oldest first: the calls as they were made, as they are then, and their replies
--   AllKept before after replies  one reply for each call, and each call kept
--   Ran s before after replies x  the run of those calls on a new session over the server s, and all that is promised of it; x is
--                         the session then
-- Assumes nothing.
use Rattle.std.specs.Prelude.{◌≡◌, List, [], ◌∷◌, map, vec_items, Result}
use Rattle.refusal.specs.declared.Refusal.{Refusal}
use Rattle.field.specs.declared.Field as field
use Rattle.server.specs.declared.Server as server
use Rattle.law.specs.States.{State, Event, call_of}
use Rattle.law.specs.Promises.{NewlyAssured}
use Rattle.session.specs.Calls.{asked, event_of, Kept}
use Rattle.session.specs.States.{Holds}
use Rattle.session.specs.declared.calls.Call.{Call}
use Rattle.session.specs.declared.calls.Reply.{Reply}
use Rattle.session.specs.declared.prepared.Prepared.{Prepared}
use Rattle.session.specs.declared.session.Session.{Session}

abbrev pub calls_of : Prepared → List Call
calls_of p = vec_items p.calls

abbrev pub events : List Call → List Call → List (Result Reply Refusal) → List Event
events (c ∷ before) (d ∷ after) (r ∷ replies) = event_of c d r ∷ events before after replies
events before after replies = []

abbrev pub AllKept : List Call → List Call → List (Result Reply Refusal) → Type 0
AllKept [] [] [] = Unit {0}
AllKept (c ∷ before) (d ∷ after) (r ∷ replies) = Kept c d r × AllKept before after replies
AllKept before after replies = ⊥

pub record Ran {S V : Type 0} {GS : server.Ghosts S V} {GV : field.Ghosts V} (s : S) (before after : List Call) (replies : List (Result Reply Refusal)) (x : Session S V GS GV) : Type 0 where
  pub server : x.server ≡ s
  pub kept : AllKept before after replies
  pub of_calls : map call_of (events before after replies) ≡ map asked before
  pub last : State
  pub assured : NewlyAssured GV.model (GS.table s) (events before after replies) last
  pub holds : Holds last x
