-- What a line is told is short, and its figure an element: both by the law. Assumes nothing.
use Rattle.std.proofs.Common.{◌≡◌, ℕ, ◌<◌, ◌≤◌, List, length, Some, None, Option, IfSome, refl, ap, ◌∙◌, subst, arith}
use Rattle.std.specs.List.{AllByRecursion}
use Rattle.refusal.specs.declared.Refusal.{Refusal}
use Rattle.refusal.specs.Numbered.{number}
use Rattle.field.specs.Model.{FieldModel, FieldLaws}
use Rattle.field.specs.declared.Element.{Element}
use Rattle.server.specs.Tables.{value_at}
use Rattle.echelon.proofs.Codes.{sum_below}
use Rattle.echelon.proofs.Tables.{witness-fits}
use Rattle.checks.specs.Checks as checks
use Rattle.checks.specs.Checks.{RowCheck, WitnessCheck}
use Rattle.law.specs.States as law
use Rattle.law.specs.States.{State, seen, Seen, Event, permitted, answered, withdrew, witnessed, after}
use Rattle.law.specs.Law.{Refuses, permit_open, permits_spent, bad_row, discloses, not_open_to_answer, not_open_to_withdraw, bad_witness, Due, refuses, grants, figures, takes_back, fills, Lawful, ends, goes_on}
use Rattle.law.specs.Sound.{Sound}
use Rattle.law.proofs.Facts.{stays_sound_lem, same_table}
use Rattle.query.specs.declared.faults.NumberFault.{NumberFault}
use Rattle.query.specs.declared.faults.NumberFault.TheVariants.{NoDigit, LeadingZero, TooManyDigits, OutOfRange}
use Rattle.query.specs.declared.faults.ItemFault.{ItemFault}
use Rattle.query.specs.declared.faults.ItemFault.TheVariants.{NoSpace, Number, Repeated}
use Rattle.query.specs.declared.faults.LineFault.{LineFault}
use Rattle.query.specs.declared.faults.LineFault.TheVariants.{TooLong, NoKind, Item, NotEnded}
use Rattle.query.specs.declared.lines.Request.{Request}
use Rattle.query.specs.Lines.{limits}
use Rattle.query.specs.Refusals.{number_refusal, item_refusal, line_refusal}
use Rattle.query.proofs.Places.{within}
use Rattle.request.specs.Requests.{row, Asked, ask_refused, ask_answered, Tried, try_refused, try_granted, Served, ask, try, witness_refused, witness_filled, Handled, remark, faulty, served}
use Rattle.answer_text.specs.AnswerLines.{Told, figure, table, refused, Short}

-- what the law says of an event over n members, as far as a line needs it
abbrev pub Fine : FieldModel → ℕ → Event → Type 0
Fine M n (law.refused c e) = Short (refused e)
Fine M n (permitted ws k) = RowCheck M n ws None
Fine M n (answered k v) = v < M.size
Fine M n (withdrew k) = Unit {0}
Fine M n (witnessed i a l w) = Short (table w)

abbrev ShortRefusal : Option Refusal → Type 0
ShortRefusal o = IfSome o (λ e. Short (refused e))

row_brief : (M : FieldModel) (n : ℕ) (ws : List Element) (o : Option Refusal) → n ≤ 64 → RowCheck M n ws o → ShortRefusal o
row_brief M n ws o few (checks.wrong_length p) = (omega arith, omega arith)
row_brief M n ws o few (checks.not_an_element p m low) = let b = low.holds.0 in (omega arith, omega (arith, p, b))
row_brief M n ws o few (checks.none_named p c none) = (omega arith, omega arith)
row_brief M n ws o few (checks.accepted p c some) = tt

witness_brief : (M : FieldModel) (n i a k : ℕ) (o : Option Refusal) → WitnessCheck M n i a k o → ShortRefusal o
witness_brief M n i a k o (checks.no_such_member p) = (omega arith, omega arith)
witness_brief M n i a k o (checks.not_an_element p q) = (omega arith, omega arith)
witness_brief M n i a k o (checks.wrong_length p q d) = (omega arith, omega arith)
witness_brief M n i a k o (checks.accepted p q d) = tt

witness_inside : (M : FieldModel) (n i a k : ℕ) → WitnessCheck M n i a k None → (i < n) × (a < M.size)
witness_inside M n i a k (checks.accepted p q d) = (p, q)

refusal_brief : (M : FieldModel) (v : Seen) (c : law.Call) (e : Refusal) → v.count ≤ 64 → Refuses M v c e → Short (refused e)
refusal_brief M v c e few (permit_open ws p) = (omega arith, omega arith)
refusal_brief M v c e few (permits_spent ws p q) = (omega arith, omega arith)
refusal_brief M v c e few (bad_row ws r ready check) = row_brief M v.count ws (Some r) few check
refusal_brief M v c e few (discloses ws i ready check low) = let b = low.holds.0 in (omega arith, omega (arith, b, few))
refusal_brief M v c e few (not_open_to_answer k other) = (omega arith, omega arith)
refusal_brief M v c e few (not_open_to_withdraw k other) = (omega arith, omega arith)
refusal_brief M v c e few (bad_witness i a l r check) = witness_brief M v.count i a l (Some r) check

module _ {M : FieldModel} (L : FieldLaws M) where
  due_fine : (σ : State) (e : Event) → Sound M σ → Due M σ e → Fine M (length σ.table) e
  due_fine σ e sound (refuses c r refusal) = refusal_brief M (seen σ) c r sound.table.few refusal
  due_fine σ e sound (grants ws g) = g.passed
  due_fine σ e sound (figures k o is) =
      sum_below M L (length σ.table) o.row (value_at σ.table) (sound.open_facts o is.open_is).row.weights sound.table.elements
  due_fine σ e sound (takes_back k o is) = tt
  due_fine σ e sound (fills i a l w made) =
      let n = length σ.table in
      let inside = witness_inside M n i a l made.passed in
      let codes = (witness-fits M L n made.rec made.form.reduced i a inside.0 inside.1 (value_at w) made.made).0 in
      let bound = L.size_bound in
      let few = sound.table.few in
      let long = made.long in
      (omega arith, λ m b. let code = codes m (omega arith) in omega arith)

  pub each_fine : (n : ℕ) {σ τ : State} {es : List Event} → length σ.table ≡ n → Sound M σ → Lawful M σ es τ → AllByRecursion (Fine M n) es
  each_fine n size sound ends = tt
  each_fine n {σ} size sound (goes_on {e = e} due more) = (
    subst (λ (k : ℕ). Fine M k e) size (due_fine σ e sound due),
    each_fine n (ap length (same_table σ e) ∙ size) (stays_sound_lem M L σ e sound due) more,
  )

-- the number of a fault's refusal has two digits
number_small : (f : NumberFault) → number (number_refusal f) < 100000
number_small (NoDigit d) = omega arith
number_small (LeadingZero p) = omega arith
number_small (TooManyDigits p) = omega arith
number_small (OutOfRange p) = omega arith

item_small : (f : ItemFault) → number (item_refusal f) < 100000
item_small (NoSpace p) = omega arith
item_small (Number f) = number_small f
item_small (Repeated p) = omega arith

fault_small : (f : LineFault) → number (line_refusal f) < 100000
fault_small TooLong = omega arith
fault_small NoKind = omega arith
fault_small (Item f) = item_small f
fault_small (NotEnded p) = omega arith

module _ (M : FieldModel) (L : FieldLaws M) (n : ℕ) where
  asked_brief : (ws : List Element) (a : Told) (es : List Event) → Asked ws a es → AllByRecursion (Fine M n) es → Short a
  asked_brief ws a es (ask_refused e) fine = fine.0
  asked_brief ws a es (ask_answered k v) fine = let code = fine.1.0 in let bound = L.size_bound in omega arith

  tried_brief : (ws : List Element) (a : Told) (es : List Event) → Tried ws a es → AllByRecursion (Fine M n) es → Short a
  tried_brief ws a es (try_refused e) fine = fine.0
  tried_brief ws a es (try_granted k) fine = tt

  served_brief : (q : Request) (a : Told) (es : List Event) → Served n q a es → AllByRecursion (Fine M n) es → Short a
  served_brief q a es (ask w b ds asked) fine = asked_brief (row n w) a es asked fine
  served_brief q a es (try w b ds tried) fine = tried_brief (row n w) a es tried fine
  served_brief q a es (witness_refused i b e) fine = fine.0
  served_brief q a es (witness_filled i b w) fine = fine.0

  pub handled_brief : (line : List ℕ) (o : Option Told) (es : List Event) → Handled M n line o es → AllByRecursion (Fine M n) es → IfSome o Short
  handled_brief line o es (remark is) fine = tt
  handled_brief line o es (faulty f is) fine =
      let place = (within (limits M n) line _ refl f is).1 in (fault_small f, omega (arith, place))
  handled_brief line o es (served q a ds is by) fine = served_brief q a es by fine

  -- a figure that was answered is an element
  asked_code : (ws : List Element) (a : Told) (es : List Event) (v : ℕ) → Asked ws a es → a ≡ figure v → AllByRecursion (Fine M n) es → v < M.size
  asked_code ws a es v (ask_refused e) is fine = absurd (let z : ◌≡◌ {A = ℕ} 0 1 = cc in omega arith)
  asked_code ws a es v (ask_answered k f) is fine = let same : f ≡ v = cc in subst (λ (x : ℕ). x < M.size) same fine.1.0

  served_code : (q : Request) (a : Told) (es : List Event) (v : ℕ) → Served n q a es → a ≡ figure v → AllByRecursion (Fine M n) es → v < M.size
  served_code q a es v (ask u b ds asked) told fine = asked_code (row n u) a es v asked told fine
  served_code q a es v (try u b ds (try_refused e)) told fine = absurd (let z : ◌≡◌ {A = ℕ} 0 1 = cc in omega arith)
  served_code q a es v (try u b ds (try_granted k)) told fine = absurd (let z : ◌≡◌ {A = ℕ} 0 1 = cc in omega arith)
  served_code q a es v (witness_refused i b e) told fine = absurd (let z : ◌≡◌ {A = ℕ} 0 1 = cc in omega arith)
  served_code q a es v (witness_filled i b t) told fine = absurd (let z : ◌≡◌ {A = ℕ} 0 1 = cc in omega arith)

  pub handled_code : (line : List ℕ) (o : Option Told) (es : List Event) (v : ℕ) → Handled M n line o es → o ≡ Some (figure v) → AllByRecursion (Fine M n) es → v < M.size
  handled_code line o es v (remark is) told fine = absurd (let z : ◌≡◌ {A = ℕ} 0 1 = cc in omega arith)
  handled_code line o es v (faulty f is) told fine = absurd (let z : ◌≡◌ {A = ℕ} 0 1 = cc in omega arith)
  handled_code line o es v (served q a ds is by) told fine = let gave : a ≡ figure v = cc in served_code q a es v by gave fine
