-- A row whose weights were read in order passes the checks of a row. Assumes nothing.
use Rattle.std.proofs.Common.{◌≡◌, ℕ, zero, suc, ◌<◌, ◌≤◌, false, List, length, take, None, sym, ap, ◌∙◌, inr, ⊎_elim, add-one, arith}
use Rattle.std.proofs.lemmas.List.{length-take-le, get_or-take}
use Rattle.std.proofs.lemmas.Bool.{cases_Bool}
use Rattle.field.specs.Model.{FieldModel, FieldLaws}
use Rattle.field.specs.Sums.{weights_of}
use Rattle.field.specs.declared.Element.{Element}
use Rattle.member_map.specs.Maps.{named, named_below}
use Rattle.member_map.proofs.Counts.{none_below, below_unnamed}
use Rattle.checks.specs.Checks.{RowCheck, accepted}
use Rattle.answer_log.specs.Entries.{map_of, row_weight, Weighed}
use Rattle.answer_log.proofs.Logs.{weight-below}

-- where no member is named, none is counted
pub none_counted : (map : List ℕ) (n : ℕ) → ((m : ℕ) → m < n → named map m ≡ false) → named_below map n ≡ 0
none_counted map zero none = none_below map
none_counted map (suc n) none =
    sym (ap (named_below map) (add-one n)) ∙ below_unnamed map n (none n (omega arith)) ∙ none_counted map n (λ m h. none m (omega arith))

module _
    (M : FieldModel) (L : FieldLaws M) (n : ℕ) (bs : List ℕ) (ws : List Element) (fine : Weighed M n bs) (long : n ≤ length ws)
    (same : (m : ℕ) → m < n → weights_of ws m ≡ row_weight M n bs m) where
  pub cut_same_weight : (m : ℕ) → m < n → weights_of (take n ws) m ≡ row_weight M n bs m
  cut_same_weight m h = ap (λ e. e.0) (get_or-take n ws m (record { 0 = 0 }) h) ∙ same m h

  pub cut_passes : RowCheck M n (take n ws) None
  cut_passes =
      let size = length-take-le n ws long in
      accepted size (λ m h. rw (cut_same_weight m h) (weight-below M n bs L fine.no_fault m h))
      (λ none.
      fine.framed.named.some_named
      (none_counted (map_of bs) n
      (λ m h.
      ⊎_elim (λ e. absurd (fine.no_fault m (h, e, inr (sym (cut_same_weight m h) ∙ none m (omega arith))))) (λ e. e)
      (cases_Bool (named (map_of bs) m)))))
