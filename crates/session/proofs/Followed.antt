-- One call more, over states. Assumes nothing.
use Rattle.std.proofs.Common.{◌≡◌, ℕ, ◌+◌, ◌<◌, ◌≤◌, true, false, ◌≢◌, List, [], length, is_some, Some, None, Option, option_map, sym, refl, ap, ◌∙◌, subst, arith}
use borrow.Author.Tests.{clash}
use Rattle.std.specs.Option.{ForSome}
use lib.ListN.{length-map, get_or-map}
use Rattle.echelon.specs.Witness.{Witness}
use Rattle.refusal.specs.declared.Refusal.{Refusal}
use Rattle.refusal.specs.declared.Refusal.TheVariants.{PermitOpen, PermitsSpent, Discloses, NotTheOpenPermit}
use Rattle.refusal.specs.declared.Site.TheVariants.{OfMember}
use Rattle.field.specs.declared.Field as field
use Rattle.server.specs.declared.Server as server
use Rattle.field.specs.Model.{FieldLaws}
use Rattle.field.specs.Sums.{sum, weights_of}
use Rattle.field.specs.declared.Element.{Element}
use Rattle.server.specs.Checks.{Lowest}
use Rattle.server.specs.Tables.{Table, value_at, codes}
use Rattle.echelon.specs.Rows.{Figured, row_with}
use Rattle.echelon.specs.Reduced.{Pivoted, all_figured, NoneAlone, PinnedWith, Reduced, ReducedForm}
use Rattle.echelon.proofs.ByForm as by_form
use Rattle.checks.specs.Checks.{RowCheck, WitnessCheck}
use Rattle.checks.specs.Rows.{IsRow}
use Rattle.checks.specs.declared.row.CheckedRow.{CheckedRow}
use Rattle.checks.specs.CheckedRows.{row_of}
use Rattle.record.specs.Judged.{Adds}
use Rattle.record.specs.Audits.{opened}
use Rattle.record.specs.Awaits.{Awaited}
use Rattle.record.specs.declared.record.Record.{Record}
use Rattle.record.specs.declared.audit.Audit.{Audit}
use Rattle.record.specs.declared.audit.OpenRow as audit
use Rattle.record.specs.Records.{rec_of}
use Rattle.session.proofs.Own.{cut_record, own_cut_form, own_fine, own_pins_none, own_pinned_with}
use Rattle.session.proofs.Rows.{is_row, awaits_free}
use Rattle.law.specs.States as states
use Rattle.law.specs.States.{State, new_state, seen, Call, Event, submits, answers, withdraws, witnesses, refused, permitted, answered, withdrew, witnessed, with_figure, after}
use Rattle.law.specs.Law.{PinnedBy, Ready, Refuses, Due, refuses, grants, figures, takes_back, fills, permit_open, permits_spent, bad_row, discloses, not_open_to_answer, not_open_to_withdraw, bad_witness}
use Rattle.law.specs.Sound.{Sound}
use Rattle.law.proofs.Facts.{new_is_sound_lem, stays_sound_lem, rows_coded}
use Rattle.log_record.proofs.Verdicts.{empty_form}
use Rattle.session.specs.States.{open_permit, open_of, state_of, Holds, Follows, StandsForSome}
use Rattle.session.specs.declared.session.Session.{Session}

module _ {S V : Type 0} {GS : server.Ghosts S V} {GV : field.Ghosts V} (L : FieldLaws GV.model) (x : Session S V GS GV) where
  -- the call is refused in every state that the session stands for, and changes nothing
  pub refused_follows :
      (c : Call) (r : Refusal) → ((given : List Figured) → Sound GV.model (state_of x given) → ReducedForm GV.model (length (GS.table x.server)) given (rec_of x.audit.«record») → Refuses GV.model (seen (state_of x given)) c r)
      → Follows x (refused c r) x
  refused_follows c r due σ H =
      let given = σ.given in
      let sound : Sound GV.model (state_of x given) = subst (Sound GV.model) H.is H.sound in
      let form : ReducedForm GV.model (length (GS.table x.server)) given (rec_of x.audit.«record») =
      subst (λ (T : List ℕ). ReducedForm GV.model (length T) given (rec_of x.audit.«record»)) (ap (λ s. s.table) H.is) H.form in
      (subst (λ (s : State). Due GV.model s (refused c r)) (sym H.is) (refuses c r (due given sound form)), H)

  -- the event is due, and leads to the state of x', which has the rows of the record that x had
  pub event_follows :
      (x' : Session S V GS GV) (e : Event)
      → ((given : List Figured) → Sound GV.model (state_of x given) → ReducedForm GV.model (length (GS.table x.server)) given (rec_of x.audit.«record»)
      → Due GV.model (state_of x given) e × (after (state_of x given) e ≡ state_of x' (after (state_of x given) e).given)
      × ReducedForm GV.model (length (after (state_of x given) e).table) (after (state_of x given) e).given (rec_of x'.audit.«record»))
      → Follows x e x'
  event_follows x' e due σ H =
      let given = σ.given in
      let sound : Sound GV.model (state_of x given) = subst (Sound GV.model) H.is H.sound in
      let form : ReducedForm GV.model (length (GS.table x.server)) given (rec_of x.audit.«record») =
      subst (λ (T : List ℕ). ReducedForm GV.model (length T) given (rec_of x.audit.«record»)) (ap (λ s. s.table) H.is) H.form in
      let (now, is, next) = due given sound form in
      subst (λ (s : State). Due GV.model s e × Holds (after s e) x') (sym H.is)
      (now, record { is = is; sound = stays_sound_lem GV.model L _ _ sound now; form = next })

  -- a number that is not the open permit's
  not_this : (k : ℕ) → open_permit x ≢ Some k → (o : states.OpenRow) → open_of (opened x.audit) ≡ Some o → o.permit ≢ k
  not_this k other = go (opened x.audit) other
    where
      go : (q : Option (ℕ × CheckedRow V GV)) → option_map (λ (p : ℕ × CheckedRow V GV). p.0) q ≢ Some k → (o : states.OpenRow) → open_of q ≡ Some o → o.permit ≢ k
      go None apart o e same = let z : ◌≡◌ {A = ℕ} 0 1 = cc in omega arith
      go (Some p) apart o e same =
          let one : record { permit = p.0; row = row_of p.1 } ≡ o = cc in
          apart (ap Some (ap (λ (q : states.OpenRow). q.permit) one ∙ same))

  -- the event that is due, under another name
  pub event_is : (x' : Session S V GS GV) (e d : Event) → e ≡ d → Follows x d x' → Follows x e x'
  event_is x' e d is due = subst (λ (f : Event). Follows x f x') (sym is) due

  -- a session with an empty record, no open row and no permit issued
  pub new_holds : Table GV.model (GS.table x.server) → x.issued ≡ 0 → opened x.audit ≡ None → rec_of x.audit.«record» ≡ [] → Holds (new_state (GS.table x.server)) x
  new_holds table issued pending none =
      let T = GS.table x.server in
      record {
        is = ap (λ o. record { table = T; given = []; pending = open_of o; issued = 0 }) (sym pending)
            ∙ ap (λ k. record { table = T; given = []; pending = open_of (opened x.audit); issued = k }) (sym issued);
        sound = new_is_sound_lem GV.model L T table;
        form = subst (λ (rec : List Pivoted). ReducedForm GV.model (length T) [] rec) (sym none) (empty_form GV.model (length T));
      }

  -- withdrawals
  pub withdrawal_refused : (k : ℕ) → (open_permit x ≢ Some k) → Follows x (refused (withdraws k) NotTheOpenPermit) x
  withdrawal_refused k other = refused_follows (withdraws k) NotTheOpenPermit (λ given sound form. not_open_to_withdraw k (not_this k other))

  pub withdrawn : (k : ℕ) (p : ℕ × CheckedRow V GV) (x' : Session S V GS GV) → opened x.audit ≡ Some p → p.0 ≡ k
      → ((given : List Figured) → after (state_of x given) (withdrew k) ≡ state_of x' given) → x'.audit.«record» ≡ x.audit.«record» → Follows x (withdrew k) x'
  withdrawn k p x' pending permit becomes same =
      event_follows x' (withdrew k)
      (λ given sound form. (
        takes_back k (record { permit = p.0; row = row_of p.1 }) (record { open_is = ap open_of pending; permit_is = permit }),
        becomes given,
        subst (λ (r : Record V GV). ReducedForm GV.model (length (GS.table x.server)) given (rec_of r)) (sym same) form,
      ))

  -- answers
  pub answer_refused : (k : ℕ) → (open_permit x ≢ Some k) → Follows x (refused (answers k) NotTheOpenPermit) x
  answer_refused k other = refused_follows (answers k) NotTheOpenPermit (λ given sound form. not_open_to_answer k (not_this k other))

  answered_so : (k v : ℕ) (p : ℕ × CheckedRow V GV) (x' : Session S V GS GV) → opened x.audit ≡ Some p → p.0 ≡ k
      → v ≡ sum GV.model (length (GS.table x.server)) (row_of p.1) (value_at (GS.table x.server))
      → Adds GV.model (length (GS.table x.server)) (rec_of x.audit.«record») (row_with (row_of p.1) v) (rec_of x'.audit.«record»)
      → ((given : List Figured) → after (state_of x given) (answered k v) ≡ state_of x' (with_figure (open_of (opened x.audit)) v given))
      → Follows x (answered k v) x'
  answered_so k v p x' pending permit told adds becomes =
      let n = length (GS.table x.server) in
      let o : states.OpenRow = record { permit = p.0; row = row_of p.1 } in
      event_follows x' (answered k v)
      (λ given sound form. (
        subst (λ (f : ℕ). Due GV.model (state_of x given) (answered k f)) (sym told)
            (figures k o (record { open_is = ap open_of pending; permit_is = permit })),
        becomes given,
        subst (λ (q : Option (ℕ × CheckedRow V GV)). ReducedForm GV.model n (with_figure (open_of q) v given) (rec_of x'.audit.«record»)) (sym pending)
            (adds given (rows_coded GV.model _ given sound.rows) form),
      ))

  -- the answer v is the figure f
  pub answered_with : (k v f : ℕ) → v ≡ f → (p : ℕ × CheckedRow V GV) (x' : Session S V GS GV) → opened x.audit ≡ Some p → p.0 ≡ k
      → f ≡ sum GV.model (length (GS.table x.server)) (row_of p.1) (value_at (GS.table x.server))
      → Adds GV.model (length (GS.table x.server)) (rec_of x.audit.«record») (row_with (row_of p.1) f) (rec_of x'.audit.«record»)
      → ((given : List Figured) → after (state_of x given) (answered k f) ≡ state_of x' (with_figure (open_of (opened x.audit)) f given))
      → Follows x (answered k v) x'
  answered_with k v f same p x' pending permit told adds becomes =
      subst (λ (w : ℕ). Follows x (answered k w) x') (sym same) (answered_so k f p x' pending permit told adds becomes)

  -- witnesses
  pub witness_refused : (i a l : ℕ) (e : Refusal) → WitnessCheck GV.model (length (GS.table x.server)) i a l (Some e) → Follows x (refused (witnesses i a l) e) x
  witness_refused i a l e fails = refused_follows (witnesses i a l) e (λ given sound form. bad_witness i a l e fails)

  pub witness_filled : (i a l : ℕ) (ws : List Element) → WitnessCheck GV.model (length (GS.table x.server)) i a l None → length ws ≡ length (GS.table x.server)
      → Witness GV.model (length (GS.table x.server)) (rec_of x.audit.«record») i a (weights_of ws) → Follows x (witnessed i a l (codes ws)) x
  witness_filled i a l ws passed long made =
      let n = length (GS.table x.server) in
      let read : (m : ℕ) → value_at (codes ws) m ≡ weights_of ws m = λ m. get_or-map (λ e. e.0) ws m (record { 0 = 0 }) in
      event_follows x (witnessed i a l (codes ws))
      (λ given sound form. (
        fills i a l (codes ws) (record {
          passed = passed;
          long = length-map ws (λ e. e.0) ∙ long;
          rec = rec_of x.audit.«record»;
          form = form;
          made = record { member = made.member; factor = made.factor; leads = made.leads; table = λ m b. read m ∙ made.table m b };
        }),
        refl,
        form,
      ))

  -- submissions
  module _ (given : List Figured) (sound : Sound GV.model (state_of x given)) (form : ReducedForm GV.model (length (GS.table x.server)) given (rec_of x.audit.«record»)) where
    pinned_by : (ws : List Element) (i : ℕ) → PinnedWith GV.model (length (GS.table x.server)) (rec_of x.audit.«record») (weights_of ws) i → PinnedBy GV.model (seen (state_of x given)) (weights_of ws) i
    pinned_by ws = by_form.pinned_by GV.model L _ given (rows_coded GV.model _ given sound.rows) (rec_of x.audit.«record») form (weights_of ws)

    pinned_with : (ws : List Element) (i : ℕ) → PinnedBy GV.model (seen (state_of x given)) (weights_of ws) i → PinnedWith GV.model (length (GS.table x.server)) (rec_of x.audit.«record») (weights_of ws) i
    pinned_with ws = by_form.pinned_with GV.model L _ given (rows_coded GV.model _ given sound.rows) (rec_of x.audit.«record») form (weights_of ws)

  module _ (ws : List Element) where
    pub submit_open : is_some (opened x.audit) ≡ true → Follows x (refused (submits ws) PermitOpen) x
    submit_open some = refused_follows (submits ws) PermitOpen (λ given sound form. permit_open ws (λ none. go (opened x.audit) some none))
      where
        go : (o : Option (ℕ × CheckedRow V GV)) → is_some o ≡ true → open_of o ≡ None → ⊥
        go None some none = clash some
        go (Some p) some none = let z : ◌≡◌ {A = ℕ} 0 1 = cc in omega arith

    none_open : is_some (opened x.audit) ≡ false → open_of (opened x.audit) ≡ None
    none_open none = go (opened x.audit) none
      where
        go : (o : Option (ℕ × CheckedRow V GV)) → is_some o ≡ false → open_of o ≡ None
        go None e = refl
        go (Some p) e = absurd (clash (sym e))

    pub submit_spent : is_some (opened x.audit) ≡ false → x.issued ≡ 65535 → Follows x (refused (submits ws) PermitsSpent) x
    submit_spent none spent = refused_follows (submits ws) PermitsSpent (λ given sound form. permits_spent ws (none_open none) spent)

    module _ (none : is_some (opened x.audit) ≡ false) (left : x.issued < 65535) where
      ready : (given : List Figured) → Ready (seen (state_of x given))
      ready given = record { none_open = none_open none; left = left }

      pub submit_bad : (e : Refusal) → RowCheck GV.model (length (GS.table x.server)) ws (Some e) → Follows x (refused (submits ws) e) x
      submit_bad e fails = refused_follows (submits ws) e (λ given sound form. bad_row ws e (ready given) fails)

      pub submit_disclosing : (i : ℕ) → RowCheck GV.model (length (GS.table x.server)) ws None
          → Lowest (PinnedWith GV.model (length (GS.table x.server)) (rec_of x.audit.«record») (weights_of ws)) i
          → Follows x (refused (submits ws) (Discloses (OfMember (record { 0 = i })))) x
      submit_disclosing i passed low =
          refused_follows (submits ws) (Discloses (OfMember (record { 0 = i })))
          (λ given sound form. discloses ws i (ready given) passed (record { holds = pinned_by given sound form ws i low.holds; none_below = λ k b p. low.none_below k b (pinned_with given sound form ws k p) }))

      granted_so : (x' : Session S V GS GV) → RowCheck GV.model (length (GS.table x.server)) ws None
          → ((i : ℕ) → PinnedWith GV.model (length (GS.table x.server)) (rec_of x.audit.«record») (weights_of ws) i → ⊥)
          → ((given : List Figured) → after (state_of x given) (permitted ws (x.issued + 1)) ≡ state_of x' given) → x'.audit.«record» ≡ x.audit.«record»
          → Follows x (permitted ws (x.issued + 1)) x'
      granted_so x' passed free becomes same =
          event_follows x' (permitted ws (x.issued + 1))
          (λ given sound form. (
            grants ws (record { ready = ready given; passed = passed; pins_nobody = λ i p. free i (pinned_with given sound form ws i p) }),
            becomes given,
            subst (λ (r : Record V GV). ReducedForm GV.model (length (GS.table x.server)) given (rec_of r)) (sym same) form,
          ))

      -- the session x' has issued one permit more, and its row is open
      pub granted : (e : Event) (row : CheckedRow V GV) (x' : Session S V GS GV) → e ≡ permitted ws (x.issued + 1) → x'.issued ≡ x.issued + 1 → x'.server ≡ x.server
          → opened x'.audit ≡ Some (x.issued + 1, row) → row_of row ≡ weights_of ws → x'.audit.«record» ≡ x.audit.«record»
          → RowCheck GV.model (length (GS.table x.server)) ws None
          → ((i : ℕ) → PinnedWith GV.model (length (GS.table x.server)) (rec_of x.audit.«record») (weights_of ws) i → ⊥)
          → Follows x e x'
      granted e row x' event issued server pending weights same passed free =
          let n = x.issued + 1 in
          event_is x' e (permitted ws n) event
          (granted_so x' passed free
          (λ given. ap (λ w. record { table = GS.table x.server; given = given; pending = Some (record { permit = n; row = w }); issued = n }) (sym weights)
          ∙ ap (λ o. record { table = GS.table x.server; given = given; pending = open_of o; issued = n }) (sym pending)
          ∙ ap (λ s. record { table = GS.table s; given = given; pending = open_of (opened x'.audit); issued = n }) (sym server)
          ∙ ap (λ m. record { table = GS.table x'.server; given = given; pending = open_of (opened x'.audit); issued = m }) (sym issued))
          same)

-- what the open row passed when its permit was issued
module _ {V : Type 0} {GV : field.Ghosts V} (L : FieldLaws GV.model) (n : ℕ) (a : Audit V GV) (counted : a.«record».count ≡ n)
    (whole : ForSome (opened a) (λ p. p.1.count ≡ n)) where
  open_facts :
      (p : Option (audit.OpenRow V GV)) → a.pending ≡ p → (o : states.OpenRow)
      → open_of (option_map (λ (q : audit.OpenRow V GV). (q.permit, q.row)) p) ≡ Some o
      → IsRow GV.model n o.row × ((i : ℕ) → PinnedWith GV.model n (rec_of a.«record») o.row i → ⊥)
  open_facts None is o e = absurd (let z : ◌≡◌ {A = ℕ} 0 1 = cc in omega arith)
  open_facts (Some p) is o e =
      let one : record { permit = p.permit; row = row_of p.row } ≡ o = cc in
      let here : opened a ≡ Some (p.permit, p.row) = ap (option_map (λ (q : audit.OpenRow V GV). (q.permit, q.row))) is in
      let kept = subst (λ (q : Option (audit.OpenRow V GV)). Awaited GV.model a.«record».count (rec_of a.«record») q) is a.awaited in
      let free : (i : ℕ) → PinnedWith GV.model a.«record».count (rec_of a.«record») (row_of p.row) i → ⊥ =
      awaits_free L a.«record» p.row p.fresh kept in
      subst (λ (q : states.OpenRow). IsRow GV.model n q.row × ((i : ℕ) → PinnedWith GV.model n (rec_of a.«record») q.row i → ⊥)) one (
        is_row p.row n (whole (p.permit, p.row) here),
        subst (λ (k : ℕ). (i : ℕ) → PinnedWith GV.model k (rec_of a.«record») (row_of p.row) i → ⊥) counted free,
      )

-- a session stands for the state in which the rows of its record were answered
pub stands_for :
    {S V : Type 0} {GS : server.Ghosts S V} {GV : field.Ghosts V} → FieldLaws GV.model → (x : Session S V GS GV) → Table GV.model (GS.table x.server)
    → x.issued ≤ 65535 → StandsForSome x
stands_for {GS = GS} {GV = GV} L x table few =
    let M = GV.model in
    let n = length (GS.table x.server) in
    let r = x.audit.«record» in
    let rec = rec_of r in
    let R : Reduced M n rec = subst (λ (k : ℕ). Reduced M k rec) x.counted r.reduced in
    let none : NoneAlone n rec = subst (λ (k : ℕ). NoneAlone k rec) x.counted r.none_alone in
    let given = all_figured (cut_record n rec) in (
      state_of x given,
      record {
        is = refl;
        sound = record {
          table = table;
          rows = own_fine M L n rec R;
          pins_nobody = own_pins_none M L n rec R none;
          few_permits = few;
          open_facts = λ o e. let facts = open_facts L n x.audit x.counted x.whole_row x.audit.pending refl o e in
              record { row = facts.0; pins_nobody = λ i p. facts.1 i (own_pinned_with M L n rec R o.row i p) };
        };
        form = own_cut_form M L n rec R;
      },
    )
