-- A row that was read is one that a log can hold. Assumes nothing.
use Rattle.std.proofs.Common.{◌≡◌, ℕ, ◌<◌, List, None, sym, ◌∙◌, inr, ⊎_elim}
use Rattle.std.proofs.lemmas.Bool.{cases_Bool}
use Rattle.refusal.specs.declared.LogRow.{LogRow}
use Rattle.field.specs.Model.{FieldModel, FieldLaws}
use Rattle.field.specs.Sums.{Vector}
use Rattle.member_map.specs.Maps.{named}
use Rattle.answer_log.specs.Entries.{map_of, Weighed, EntryCheck, accepted, Reads}
use Rattle.answer_log.proofs.Logs.{weight-below}
use Rattle.answer_log.proofs.Passing.{none_counted}
use Rattle.echelon.specs.Rows.{row_with}
use Rattle.law.specs.Sound.{RowFine}

pub reads_fine :
    (M : FieldModel) → FieldLaws M → (n : ℕ) (k : LogRow) (bs : List ℕ) (w : Vector) (f size : ℕ) → Reads M n k bs w f size
    → RowFine M n (row_with w f)
reads_fine M L n k bs w f size r = go r.check
  where
    some : Weighed M n bs → ((m : ℕ) → m < n → w m ≡ 0) → ⊥
    some fine none =
        fine.framed.named.some_named
        (none_counted (map_of bs) n
        (λ m h.
        ⊎_elim (λ e. absurd (fine.no_fault m (h, e, inr (sym (r.weights m h) ∙ none m h)))) (λ e. e) (cases_Bool (named (map_of bs) m))))

    go : EntryCheck M n k bs None → RowFine M n (row_with w f)
    go (accepted fine below) = record {
      row = record { weights = λ m h. rw (r.weights m h) (weight-below M n bs L fine.no_fault m h); none_past = r.none_past; some_named = some fine };
      figure = rw r.figure below;
    }
