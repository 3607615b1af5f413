-- One call more of a run. Assumes nothing.
use Rattle.std.proofs.Common.{◌≡◌, ℕ, ◌+◌, ◌<◌, List, [], ◌∷◌, ◌++◌, map, length, get_or, set, take, drop, Ok, Err, Result, refl, ap, ap₂, ◌∙◌, subst, arith, length-take}
use Rattle.std.proofs.lemmas.List.{take_more, take_more_set, drop_more}
use Rattle.refusal.specs.declared.Refusal.{Refusal}
use Rattle.field.specs.declared.Field as field
use Rattle.server.specs.declared.Server as server
use Rattle.field.specs.Model.{FieldLaws}
use Rattle.server.specs.Tables.{Table}
use Rattle.law.specs.States as states
use Rattle.law.specs.States.{State, new_state, Event}
use Rattle.law.specs.Law.{Lawful}
use Rattle.law.proofs.Promised.{new_runs_are_assured_lem}
use Rattle.session.specs.States.{Holds}
use Rattle.session.specs.declared.session.Session.{Session}
use Rattle.session.specs.Calls.{asked, event_of, Kept}
use Rattle.session.specs.Runs.{events, AllKept, Ran}
use Rattle.session.specs.declared.calls.Call.{Call}
use Rattle.session.specs.declared.calls.Call.TheVariants.{Submit, Answer, Withdraw, Witness}
use Rattle.session.specs.declared.calls.Reply.{Reply}
use Rattle.session.specs.declared.calls.Reply.TheVariants.{Permits, Gives, TakenBack, Filled}

-- each event is of its call, whatever the reply
pub of_its_call : (c d : Call) (r : Result Reply Refusal) → states.call_of (event_of c d r) ≡ asked c
of_its_call (Submit row) d (Err e) = refl
of_its_call (Submit row) d (Ok (Permits k)) = refl
of_its_call (Submit row) d (Ok r) = refl
of_its_call (Answer k) d (Err e) = refl
of_its_call (Answer k) d (Ok (Gives v)) = refl
of_its_call (Answer k) d (Ok r) = refl
of_its_call (Withdraw k) d (Err e) = refl
of_its_call (Withdraw k) d (Ok TakenBack) = refl
of_its_call (Withdraw k) d (Ok r) = refl
of_its_call (Witness i a b) d (Err e) = refl
of_its_call (Witness i a b) d (Ok Filled) = refl
of_its_call (Witness i a b) d (Ok r) = refl

pub all_of_calls :
    (before after : List Call) (replies : List (Result Reply Refusal)) → AllKept before after replies
    → map states.call_of (events before after replies) ≡ map asked before
all_of_calls [] [] [] kept = refl
all_of_calls [] [] (r ∷ replies) kept = absurd kept
all_of_calls [] (d ∷ after) replies kept = absurd kept
all_of_calls (c ∷ before) [] replies kept = absurd kept
all_of_calls (c ∷ before) (d ∷ after) [] kept = absurd kept
all_of_calls (c ∷ before) (d ∷ after) (r ∷ replies) kept = ap₂ ◌∷◌ (of_its_call c d r) (all_of_calls before after replies kept.1)

onto_more :
    (before after : List Call) (replies : List (Result Reply Refusal)) (c d : Call) (r : Result Reply Refusal)
    → length before ≡ length replies → length after ≡ length replies
    → events (before ++ c ∷ []) (after ++ d ∷ []) (replies ++ r ∷ []) ≡ events before after replies ++ event_of c d r ∷ []
onto_more [] [] [] c d r m n = refl
onto_more [] [] (q ∷ replies) c d r m n = absurd (omega arith)
onto_more [] (x ∷ after) [] c d r m n = absurd (omega arith)
onto_more [] (x ∷ after) (q ∷ replies) c d r m n = absurd (omega arith)
onto_more (y ∷ before) [] [] c d r m n = absurd (omega arith)
onto_more (y ∷ before) [] (q ∷ replies) c d r m n = absurd (omega arith)
onto_more (y ∷ before) (x ∷ after) [] c d r m n = absurd (omega arith)
onto_more (y ∷ before) (x ∷ after) (q ∷ replies) c d r m n =
    ap (λ es. event_of y x q ∷ es) (onto_more before after replies c d r (omega arith) (omega arith))

kept_more :
    (before after : List Call) (replies : List (Result Reply Refusal)) (c d : Call) (r : Result Reply Refusal)
    → AllKept before after replies → Kept c d r → AllKept (before ++ c ∷ []) (after ++ d ∷ []) (replies ++ r ∷ [])
kept_more [] [] [] c d r all here = (here, tt)
kept_more [] [] (q ∷ replies) c d r all here = absurd all
kept_more [] (x ∷ after) replies c d r all here = absurd all
kept_more (y ∷ before) [] replies c d r all here = absurd all
kept_more (y ∷ before) (x ∷ after) [] c d r all here = absurd all
kept_more (y ∷ before) (x ∷ after) (q ∷ replies) c d r all here = (all.0, kept_more before after replies c d r all.1 here)

pub same_at : {X : Type 0} (xs ys : List X) (i : ℕ) (d : X) → i < length xs → i < length ys → drop i xs ≡ drop i ys → get_or xs i d ≡ get_or ys i d
same_at xs ys i d h k e = let p = drop_more xs i d h in let q = drop_more ys i d k in cc

-- the call at i is made: it was c, it becomes d, and the reply is r
module _
    (before after : List Call) (replies : List (Result Reply Refusal)) (i : ℕ) (none c d : Call) (r : Result Reply Refusal)
    (was : get_or before i none ≡ c) (in_before : i < length before) (in_after : i < length after) (count : length replies ≡ i) where
  taken : take (i + 1) before ≡ take i before ++ c ∷ []
  taken = take_more before i none in_before ∙ ap (λ x. take i before ++ x ∷ []) was

  pub events_more :
      events (take (i + 1) before) (take (i + 1) (set after i d)) (replies ++ r ∷ []) ≡ events (take i before) (take i after) replies ++ event_of c d r ∷ []
  events_more =
      rw (taken, take_more_set after i d in_after)
      (onto_more (take i before) (take i after) replies c d r
      (length-take i before ∙ omega (arith, count)) (length-take i after ∙ omega (arith, count)))

  pub all_kept_more : AllKept (take i before) (take i after) replies → Kept c d r → AllKept (take (i + 1) before) (take (i + 1) (set after i d)) (replies ++ r ∷ [])
  all_kept_more all here = rw (taken, take_more_set after i d in_after) (kept_more (take i before) (take i after) replies c d r all here)

-- a run that has made all its calls
pub ended :
    {S V : Type 0} {GS : server.Ghosts S V} {GV : field.Ghosts V} → FieldLaws GV.model → (s t : S) → s ≡ t
    → (before after : List Call) (replies : List (Result Reply Refusal)) (x : Session S V GS GV) → x.server ≡ s → Table GV.model (GS.table s)
    → ((τ : State) × Lawful GV.model (new_state (GS.table s)) (events before after replies) τ × Holds τ x) → AllKept before after replies
    → Ran t before after replies x
ended {S} {V} {GS} {GV} L s t same before after replies x server table (τ, run, holds) kept =
    subst (λ (u : S). Ran u before after replies x) same
    (record {
      server = server;
      kept = kept;
      of_calls = all_of_calls before after replies kept;
      last = τ;
      assured = new_runs_are_assured_lem GV.model L (GS.table s) table τ (events before after replies) run;
      holds = holds;
    })
