-- What a checked row is over the members of a session, and what the audit of one that waits tells. Assumes nothing.
use Rattle.std.proofs.Common.{◌≡◌, ℕ, ◌<◌, true, List, length, is_ok, Some, None, Option, Ok, Err, Result, OnOk, refl, subst, sym, ap, ap₂, ◌∙◌, arith, length-take}
use native.Mathlib.Decide.{dec_lt}
use borrow.Author.Tests.{clash}
use Rattle.std.proofs.lemmas.List.{get_or-take}
use Rattle.refusal.specs.declared.Refusal.{Refusal}
use Rattle.field.specs.declared.Field as field
use Rattle.field.specs.Model.{FieldModel, FieldLaws}
use Rattle.field.specs.declared.Element.{Element}
use Rattle.server.specs.Checks.{Count}
use Rattle.echelon.specs.Reduced.{Pivoted, PinnedWith}
use Rattle.checks.specs.Checks.{RowCheck, RowMade, wrong_count, checked}
use Rattle.checks.specs.Rows.{IsRow}
use Rattle.field.specs.Sums.{weights_of}
use Rattle.echelon.specs.Rows.{row_with}
use Rattle.checks.specs.CheckedRows.{row_of, listed_row}
use Rattle.checks.proofs.Weights.{past_end, zero_element}
use Rattle.record.specs.Judged.{Adds}
use Rattle.server.specs.declared.Server as server
use Rattle.std.specs.Option.{ForSome}
use Rattle.std.specs.Coded.{Coded-set, coded_ℕ, Π_prop, →_prop}
use Rattle.record.specs.declared.audit.Audit.{Audit}
use Rattle.session.specs.declared.session.Session.{Session}
use Rattle.record.specs.Audits.{opened, Answered, none_open, no_figure, kept, joined}
use Rattle.record.specs.declared.judge.Admission.{Admission}
use Rattle.checks.specs.declared.row.CheckedRow.{CheckedRow}
use Rattle.record.specs.Records.{rec_of}
use Rattle.record.specs.Awaits.{Awaits}
use Rattle.record.specs.declared.record.Record.{Record}
use Rattle.record.specs.declared.rows.FreshRow.{FreshRow}
use Rattle.record.proofs.Verdict.{fixed-pins_none}

-- over a count that a server can have, the making of a row answers what its check does
pub made_check : (M : FieldModel) (n : ℕ) (ws : List Element) (r : Option Refusal) → Count n → RowMade M n ws r → RowCheck M n ws r
made_check M n ws r count (wrong_count not) = absurd (not count)
made_check M n ws r count (checked _ _ check) = check

-- what holds where an answer was given
pub closed_so : {T : Type 0} (r : Result T Refusal) (P : Type 0) → is_ok r ≡ true → OnOk r P → P
closed_so (Ok x) P fine here = here
closed_so (Err e) P fine here = absurd (clash fine)

module _ {V : Type 0} {GV : field.Ghosts V} where
  one_row : (q p : ℕ × CheckedRow V GV) → ◌≡◌ {A = Option (ℕ × CheckedRow V GV)} (Some q) (Some p) → q ≡ p
  one_row q p e = cc

  pub is_row : (r : CheckedRow V GV) (n : ℕ) → r.count ≡ n → IsRow GV.model n (row_of r)
  is_row r n is = record {
    weights = λ m h. r.elements m (let few = r.members.1 in omega arith);
    none_past = λ m past. r.none_past m (omega arith);
    some_named = λ none. r.some_named (λ m h. none m (omega arith));
  }

  -- the weights of its members are the row
  pub listed_is : (r : CheckedRow V GV) → weights_of (listed_row r) ≡ row_of r
  listed_is r = λ i m. (same m) i
    where
      same : (m : ℕ) → weights_of (listed_row r) m ≡ row_of r m
      same m =
          elim (dec_lt m r.count) [
            | yes h ↦ ap (λ (e : Element). e.0) (get_or-take r.count r.weights m zero_element h)
            | no h ↦ past_end (listed_row r) m (let e = length-take r.count r.weights in omega arith) ∙ sym (r.none_past m (omega arith))
          ]

  -- an answer to the open row with a figure that is an element is none of the refusals
  pub answered_ok :
      (M : FieldModel) (n : ℕ) (rec : List Pivoted) (o : Option (ℕ × CheckedRow V GV)) (f : ℕ) (rec' : List Pivoted) (s : Result Admission Refusal)
      → Answered M n rec o f rec' s → (p : ℕ × CheckedRow V GV) → o ≡ Some p → f < M.size → (is_ok s ≡ true) × Adds M n rec (row_with (row_of p.1) f) rec'
  answered_ok M n rec o f rec' s (none_open none same) p is small =
      absurd (let z : ◌≡◌ {A = Option (ℕ × CheckedRow V GV)} None (Some p) = sym none ∙ is in let y : ◌≡◌ {A = ℕ} 0 1 = cc in omega arith)
  answered_ok M n rec o f rec' s (no_figure q at large same) p is small = absurd (omega arith)
  answered_ok M n rec o f rec' s (kept q at few fixes same adds) p is small = (refl, subst (λ (w : ℕ × CheckedRow V GV). Adds M n rec (row_with (row_of w.1) f) rec') (one_row q p (sym at ∙ is)) adds)
  answered_ok M n rec o f rec' s (joined q at few loose fits adds) p is small = (refl, subst (λ (w : ℕ × CheckedRow V GV). Adds M n rec (row_with (row_of w.1) f) rec') (one_row q p (sym at ∙ is)) adds)

  -- a row that waits for its figure pins nobody
  pub awaits_free :
      FieldLaws GV.model → (r : Record V GV) (w : CheckedRow V GV) (o : Option FreshRow) → Awaits GV.model r.count (rec_of r) (row_of w) o
      → (i : ℕ) → PinnedWith GV.model r.count (rec_of r) (row_of w) i → ⊥
  awaits_free L r w None fixes = fixed-pins_none GV.model L r.count (rec_of r) r.reduced r.none_alone (row_of w) fixes
  awaits_free L r w (Some x) may = may.none_pinned

-- sessions are equal where their parts are: what their type asks has one proof at most
module _ (S V : Type 0) (GS : server.Ghosts S V) (GV : field.Ghosts V) (s : S) (k : ℕ) where
  abbrev pub Counted : Audit V GV → Type 0
  Counted a = a.«record».count ≡ length (GS.table s)

  abbrev pub Whole : Audit V GV → Type 0
  Whole a = ForSome (opened a) (λ p. p.1.count ≡ length (GS.table s))

  abbrev pub made_of : (a : Audit V GV) → Counted a → Whole a → Session S V GS GV
  made_of a counted whole = record { server = s; audit = a; issued = k; counted = counted; whole_row = whole }

  pub same_session :
      (a b : Audit V GV) → a ≡ b → (c : Counted a) (w : Whole a) (c' : Counted b) (w' : Whole b) → made_of a c w ≡ made_of b c' w'
  same_session a b e =
      subst (λ (b : Audit V GV). (c : Counted a) (w : Whole a) (c' : Counted b) (w' : Whole b) → made_of a c w ≡ made_of b c' w') e
      (λ c w c' w'. ap₂ (made_of a) (Coded-set coded_ℕ _ _ c c') (Π_prop (λ p. →_prop (Coded-set coded_ℕ _ _)) w w'))
