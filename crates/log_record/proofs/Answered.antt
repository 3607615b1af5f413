-- What a new session answered is in order. Assumes nothing.
use Rattle.std.proofs.Common.{ℕ, List, length, Option, sym, refl, subst}
use Rattle.field.specs.Model.{FieldModel, FieldLaws}
use Rattle.field.specs.Sums.{sum}
use Rattle.server.specs.Tables.{value_at}
use Rattle.echelon.proofs.Codes.{sum_below}
use Rattle.law.specs.States.{OpenRow, State, Event, with_figure, after}
use Rattle.law.specs.Law.{Due, refuses, grants, figures, takes_back, fills, Lawful, ends, goes_on}
use Rattle.law.specs.Sound.{Sound, TrueFigures}
use Rattle.law.proofs.Facts.{stays_sound_lem, new_is_sound_lem, true_after, last_table}
use Rattle.log_record.specs.Theorems.{InOrder, AnsweredIsAccepted}
use Rattle.log_record.proofs.Written.{written_is_accepted_lem}

module _ (M : FieldModel) (L : FieldLaws M) where
  -- an answered row is one that a log can hold after those before it
  order_one :
      (σ : State) (e : Event) → Sound M σ → TrueFigures M σ → InOrder M (length σ.table) σ.given → Due M σ e
      → InOrder M (length (after σ e).table) (after σ e).given
  order_one σ e sound told order (refuses c r x) = order
  order_one σ e sound told order (grants ws g) = order
  order_one σ e sound told order (figures k o is) =
      let n = length σ.table in
      let t = value_at σ.table in
      let v = sum M n o.row t in
      let facts = sound.open_facts o is.open_is in
      subst (λ (x : Option OpenRow). InOrder M n (with_figure x v σ.given)) (sym is.open_is) (
        record { row = facts.row; figure = sum_below M L n o.row t facts.row.weights sound.table.elements },
        facts.pins_nobody,
        λ (fixes, never). never t sound.table.elements told refl,
        order,
      )
  order_one σ e sound told order (takes_back k o is) = order
  order_one σ e sound told order (fills i a l w f) = order

  in_order :
      {σ τ : State} {es : List Event} → Sound M σ → TrueFigures M σ → InOrder M (length σ.table) σ.given → Lawful M σ es τ
      → InOrder M (length τ.table) τ.given
  in_order sound told order ends = order
  in_order sound told order (goes_on due more) =
      in_order (stays_sound_lem M L _ _ sound due) (true_after due told) (order_one _ _ sound told order due) more

pub answered_is_accepted_lem : AnsweredIsAccepted
answered_is_accepted_lem M L T table τ es run =
    let order : InOrder M (length T) τ.given =
    subst (λ (U : List ℕ). InOrder M (length U) τ.given) (last_table run) (in_order M L (new_is_sound_lem M L T table) tt tt run)
    in
    written_is_accepted_lem M (length T) (table.some, table.few) τ.given order
