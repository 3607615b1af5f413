-- A log has one answer, and holds one list of rows. Assumes nothing.
use Rattle.std.proofs.Common.{◌≡◌, ℕ, ◌+◌, List, [], ◌∷◌, drop, Some, None, Option, sym, refl, ◌∙◌, subst, ap₂, ⊎_elim, arith}
use mathlib.Core.Path.{fun_ext}
use Rattle.std.proofs.lemmas.Bool.{cases_lt}
use Rattle.refusal.specs.declared.Refusal.{Refusal}
use Rattle.refusal.specs.declared.LogRow.{LogRow}
use Rattle.field.specs.Model.{FieldModel, FieldLaws}
use Rattle.field.specs.Sums.{Vector}
use Rattle.echelon.specs.Rows.{Figured, row_with}
use Rattle.answer_log.specs.Entries.{Reads}
use Rattle.answer_log.proofs.Logs.{excluded}
use Rattle.log_record.specs.Joins.{JoinCheck, discloses, other_figure, joins, RowsJoin, no_more, bad_row, kept_out, next_row, bad_header, rows}
use Rattle.log_record.specs.Theorems.{OneAnswer}
use Rattle.log_record.proofs.Entries.{header-one, row_one}

pub some_none : {A : Type 0} (x : A) → ◌≡◌ {A = Option A} (Some x) None → ⊥
some_none x p = let z : ◌≡◌ {A = ℕ} 0 1 = cc in omega arith

-- a row is read in one way
module _ (M : FieldModel) (n : ℕ) (bs : List ℕ) (k : LogRow) (w w' : Vector) (f f' size size' : ℕ)
    (r : Reads M n k bs w f size) (r' : Reads M n k bs w' f' size') where
  same_row : row_with w' f' ≡ row_with w f
  same_row =
      ap₂ row_with
      (fun_ext
      (λ m. ⊎_elim (λ h. r'.weights m h ∙ sym (r.weights m h)) (λ h. r'.none_past m h ∙ sym (r.none_past m h)) (cases_lt m n)))
      (r'.figure ∙ sym r.figure)

  same_size : size' ≡ size
  same_size = r'.whole ∙ sym r.whole

join_one :
    (M : FieldModel) (n : ℕ) (k : LogRow) (before : List Figured) (g : Figured) (r r' : Option Refusal) → JoinCheck M n k before g r
    → JoinCheck M n k before g r' → r ≡ r'
join_one M n k before g _ _ (discloses i pins) (discloses i' pins') = refl
join_one M n k before g _ _ (discloses i pins) (other_figure none also) = absurd (none i pins)
join_one M n k before g _ _ (discloses i pins) (joins none also) = absurd (none i pins)
join_one M n k before g _ _ (other_figure none against) (discloses i pins) = absurd (none i pins)
join_one M n k before g _ _ (other_figure none against) (other_figure none' against') = refl
join_one M n k before g _ _ (other_figure none against) (joins none' agrees) = absurd (agrees against)
join_one M n k before g _ _ (joins none agrees) (discloses i pins) = absurd (none i pins)
join_one M n k before g _ _ (joins none agrees) (other_figure none' against) = absurd (agrees against)
join_one M n k before g _ _ (joins none agrees) (joins none' agrees') = refl

module _ (M : FieldModel) (L : FieldLaws M) (n : ℕ) where
  -- the verdict on the row that was read, whichever reading it is of
  module _ (k : ℕ) (before : List Figured) (bs : List ℕ) (w w' : Vector) (f f' size size' : ℕ)
      (reads : Reads M n (record { 0 = k }) bs w f size) (reads' : Reads M n (record { 0 = k }) bs w' f' size') where
    verdict_one :
        (r r' : Option Refusal) → JoinCheck M n (record { 0 = k }) before (row_with w f) r
        → JoinCheck M n (record { 0 = k }) before (row_with w' f') r' → r ≡ r'
    verdict_one r r' x y =
        join_one M n (record { 0 = k }) before (row_with w f) r r' x
        (subst (λ (g : Figured). JoinCheck M n (record { 0 = k }) before g r') (same_row M n bs (record { 0 = k }) w w' f f' size size' reads reads') y)

    rest_of :
        (r : Option Refusal) (given : List Figured) → RowsJoin M n (k + 1) (row_with w' f' ∷ before) (drop size' bs) r given
        → RowsJoin M n (k + 1) (row_with w f ∷ before) (drop size bs) r given
    rest_of r given rest =
        subst (λ (g : Figured). RowsJoin M n (k + 1) (g ∷ before) (drop size bs) r given) (same_row M n bs (record { 0 = k }) w w' f f' size size' reads reads')
        (subst (λ (i : ℕ). RowsJoin M n (k + 1) (row_with w' f' ∷ before) (drop i bs) r given)
        (same_size M n bs (record { 0 = k }) w w' f f' size size' reads reads') rest)

  rows-one :
      (k : ℕ) (before : List Figured) (bs : List ℕ) (r r' : Option Refusal) (given given' : List Figured)
      → RowsJoin M n k before bs r given → RowsJoin M n k before bs r' given' → (r ≡ r') × (given ≡ given')
  rows-one k before bs r r' given given' (no_more _ _ _ none) (no_more _ _ _ none') = (refl, refl)
  rows-one k before bs r r' given given' (no_more _ _ _ none) (bad_row _ _ _ e some bad) = absurd (omega arith)
  rows-one k before bs r r' given given' (no_more _ _ _ none) (kept_out _ _ _ e some w f size reads bad) = absurd (omega arith)
  rows-one k before bs r r' given given' (no_more _ _ _ none) (next_row _ _ _ _ _ some w f size reads fine rest) = absurd (omega arith)
  rows-one k before bs r r' given given' (bad_row _ _ _ e some bad) (no_more _ _ _ none) = absurd (omega arith)
  rows-one k before bs r r' given given' (bad_row _ _ _ e some bad) (bad_row _ _ _ e' some' bad') =
      (row_one M L n (record { 0 = k }) bs (Some e) (Some e') bad bad', refl)
  rows-one k before bs r r' given given' (bad_row _ _ _ e some bad) (kept_out _ _ _ e' some' w f size reads bad') =
      absurd (excluded M n (record { 0 = k }) bs e reads.check bad)
  rows-one k before bs r r' given given' (bad_row _ _ _ e some bad) (next_row _ _ _ _ _ some' w f size reads fine rest) =
      absurd (excluded M n (record { 0 = k }) bs e reads.check bad)
  rows-one k before bs r r' given given' (kept_out _ _ _ e some w f size reads bad) (no_more _ _ _ none) = absurd (omega arith)
  rows-one k before bs r r' given given' (kept_out _ _ _ e some w f size reads bad) (bad_row _ _ _ e' some' bad') =
      absurd (excluded M n (record { 0 = k }) bs e' reads.check bad')
  rows-one k before bs r r' given given' (kept_out _ _ _ e some w f size reads bad) (kept_out _ _ _ e' some' w' f' size' reads' bad') =
      (verdict_one k before bs w w' f f' size size' reads reads' (Some e) (Some e') bad bad', refl)
  rows-one k before bs r r' given given' (kept_out _ _ _ e some w f size reads bad) (next_row _ _ _ _ _ some' w' f' size' reads' fine rest) =
      absurd (some_none e (verdict_one k before bs w w' f f' size size' reads reads' (Some e) None bad fine))
  rows-one k before bs r r' given given' (next_row _ _ _ _ _ some w f size reads fine rest) (no_more _ _ _ none) = absurd (omega arith)
  rows-one k before bs r r' given given' (next_row _ _ _ _ _ some w f size reads fine rest) (bad_row _ _ _ e some' bad) =
      absurd (excluded M n (record { 0 = k }) bs e reads.check bad)
  rows-one k before bs r r' given given' (next_row _ _ _ _ _ some w f size reads fine rest) (kept_out _ _ _ e some' w' f' size' reads' bad) =
      absurd (some_none e (sym (verdict_one k before bs w w' f f' size size' reads reads' None (Some e) fine bad)))
  rows-one k before bs r r' given given' (next_row _ _ _ _ _ some w f size reads fine rest) (next_row _ _ _ _ _ some' w' f' size' reads' fine' rest') =
      rows-one (k + 1) (row_with w f ∷ before) (drop size bs) r r' given given' rest (rest_of k before bs w w' f f' size size' reads reads' r' given' rest')

pub one_answer : OneAnswer
one_answer M L n bs r r' given given' (bad_header e bad) (bad_header e' bad') = (header-one M n bs (Some e) (Some e') bad bad', refl)
one_answer M L n bs r r' given given' (bad_header e bad) (rows _ _ header join) = absurd (some_none e (header-one M n bs (Some e) None bad header))
one_answer M L n bs r r' given given' (rows _ _ header join) (bad_header e bad) = absurd (some_none e (header-one M n bs (Some e) None bad header))
one_answer M L n bs r r' given given' (rows _ _ header join) (rows _ _ header' join') =
    rows-one M L n 0 [] (drop 2 bs) r r' given given' join join'
