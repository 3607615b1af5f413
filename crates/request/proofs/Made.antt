-- The calls that a row makes, by the law: the run of their events. Assumes nothing.
use Rattle.std.proofs.Common.{◌≡◌, ℕ, true, ◌≢◌, List, [], ◌∷◌, length, is_ok, is_some, Some, Ok, Err, Option, option_map, Result, OnErr, refl, sym, ap, ◌∙◌, subst}
use Rattle.std.specs.Option.{IsSome}
use Rattle.refusal.specs.declared.Refusal.{Refusal}
use Rattle.field.specs.declared.Field as field
use Rattle.server.specs.declared.Server as server
use Rattle.field.specs.declared.Element.{Element}
use Rattle.law.specs.States.{State, Event, submits, refused, permitted, answered, withdrew, after}
use Rattle.law.specs.Law.{ends, goes_on}
use Rattle.field.specs.Sums.{weights_of}
use Rattle.echelon.specs.Rows.{row_with}
use Rattle.checks.specs.declared.row.CheckedRow.{CheckedRow}
use Rattle.checks.specs.CheckedRows.{row_of}
use Rattle.session.specs.States.{server_of, members_of, open_permit, open_row_of, IsOpenRow, Follows, Leads}
use Rattle.session.specs.declared.session.Session.{Session}
use Rattle.request.specs.Requests.{ask_refused, ask_answered, try_refused, try_granted}
use Rattle.request.specs.Carried.{IsThatRow, AsksRow, TriesRow}

-- the permit of the row that is open
pub open_number : {S V : Type 0} {GS : server.Ghosts S V} {GV : field.Ghosts V} (x : Session S V GS GV) (k : ℕ) (ws : List Element) → IsOpenRow x k ws → open_permit x ≡ Some k
open_number x k ws row = ap (option_map (λ p. p.0)) row.is

-- what is refused only where a fact fails, where it holds
pub not_refused : {T : Type 0} (r : Result T Refusal) (o p : Option ℕ) → OnErr r (o ≢ p) → o ≡ p → is_ok r ≡ true
not_refused (Ok x) o p err is = refl
not_refused (Err e) o p err is = absurd (err is)

module _ {S V : Type 0} {GS : server.Ghosts S V} {GV : field.Ghosts V} (x x' : Session S V GS GV) where
  -- one event
  pub one : (e : Event) (P : State → List Event → Type 0) → Follows x e x' → ((σ : State) → P σ (e ∷ [])) → Leads x P x'
  one e P step told σ H = let (due, next) = step σ H in (e ∷ [], after σ e, goes_on due ends, told σ, next)

  module _ (ws : List Element) where
    pub ask_refused_so : (e : Refusal) → Follows x (refused (submits ws) e) x' → AsksRow x ws (Err e) x'
    ask_refused_so e step = one (refused (submits ws) e) _ step (λ σ. (ask_refused e, refl))

    pub try_refused_so : (T : Type 0) (e : Refusal) → Follows x (refused (submits ws) e) x' → TriesRow {T = T} x ws (Err e) x'
    try_refused_so T e step = one (refused (submits ws) e) _ step (λ σ. (try_refused e, refl))

    -- the row is open, under that permit
    pub opened_some : (k : ℕ) → IsOpenRow x' k ws → IsSome (open_row_of x')
    opened_some k row = ap is_some (ap (option_map (λ p. p.1)) row.is)

    pub opened_row : (k : ℕ) → IsOpenRow x' k ws → (r : CheckedRow V GV) → open_row_of x' ≡ Some r → server_of x' ≡ server_of x → IsThatRow r ws (members_of x)
    opened_row k row r is same =
        let one : row.row ≡ r = let z : ◌≡◌ {A = Option (CheckedRow V GV)} (Some row.row) (Some r) = sym (ap (option_map (λ p. p.1)) row.is) ∙ is in cc in
        subst (λ (q : CheckedRow V GV). IsThatRow q ws (members_of x)) one
        (record { weights = row.weights; members = row.members ∙ ap (λ s. length (GS.table s)) same })

    module _ (k : ℕ) (granted : Follows x (permitted ws k) x') (x'' : Session S V GS GV) where
      answered_so : (r : CheckedRow V GV) → row_of r ≡ weights_of ws → (v : Element) → Follows x' (answered k v.0) x'' → AsksRow x ws (Ok (r, v)) x''
      answered_so r is v step σ H =
          let (due, next) = granted σ H in
          let (due', last) = step (after σ (permitted ws k)) next in
          (permitted ws k ∷ answered k v.0 ∷ [], _, goes_on due (goes_on due' ends), (ask_answered k v.0, ap (λ w. row_with w v.0 ∷ []) (sym is)), last)

      -- the answer v is the figure f
      pub ask_answered_so : (r : CheckedRow V GV) → row_of r ≡ weights_of ws → (v f : Element) → v.0 ≡ f.0 → Follows x' (answered k f.0) x'' → AsksRow x ws (Ok (r, v)) x''
      ask_answered_so r is v f same step = answered_so r is v (subst (λ (w : ℕ). Follows x' (answered k w) x'') (sym same) step)

      pub try_granted_so : {T : Type 0} (u : T) → Follows x' (withdrew k) x'' → TriesRow x ws (Ok u) x''
      try_granted_so u step σ H =
          let (due, next) = granted σ H in
          let (due', last) = step (after σ (permitted ws k)) next in
          (permitted ws k ∷ withdrew k ∷ [], _, goes_on due (goes_on due' ends), (try_granted k, refl), last)
