-- The rows of a record, 0 from the count on, as rows that were given: the record is their reduced form. Assumes nothing.
use Rattle.std.proofs.Common.{◌≡◌, ℕ, zero, suc, ◌<◌, ◌≤◌, List, [], ◌∷◌, map, length, sym, refl, ap, ◌∙◌, arith}
use native.Mathlib.Decide.{dec_lt}
use lib.ListN.{length-map}
use Rattle.std.specs.List.{AllByRecursion}
use Rattle.field.specs.Model.{FieldModel, FieldLaws}
use Rattle.field.specs.Sums.{Vector}
use Rattle.echelon.specs.Rows.{Figured, rows_of, RowsCodes, Pins}
use Rattle.echelon.specs.Reduced.{Pivoted, at, figured, all_figured, NoneAlone, PinnedWith, Reduced, ReducedForm, Same}
use Rattle.echelon.proofs.Own.{own_form, pins_none}
use Rattle.echelon.proofs.Unique.{same-fits, same_sym, same-reduced}
use Rattle.echelon.proofs.Forms.{form_agrees_lem}
use Rattle.echelon.proofs.ByForm.{PinnedGiven, pinned_with}
use Rattle.law.specs.Sound.{RowFine, AllFine}
use Rattle.law.proofs.Facts.{rows_coded}

-- a row, 0 from the count on
pub cut_at : (w : Vector) (n m : ℕ) → Dec (m < n) → ℕ
cut_at w n m (yes h) = w m
cut_at w n m (no h) = 0

cut_inside : (w : Vector) (n m : ℕ) (d : Dec (m < n)) → m < n → w m ≡ cut_at w n m d
unfolding cut_at
cut_inside w n m (yes h) b = refl
cut_inside w n m (no h) b = absurd (h b)

cut_past : (w : Vector) (n m : ℕ) (d : Dec (m < n)) → n ≤ m → cut_at w n m d ≡ 0
unfolding cut_at
cut_past w n m (yes h) b = absurd (omega arith)
cut_past w n m (no h) b = refl

abbrev cut_row : ℕ → Pivoted → Pivoted
cut_row n e = record { pivot = e.pivot; weights = λ m. cut_at e.weights n m (dec_lt m n); figure = e.figure }

abbrev pub cut_record : ℕ → List Pivoted → List Pivoted
cut_record n rec = map (cut_row n) rec

at_cut : (n : ℕ) (rec : List Pivoted) (a : ℕ) → a < length rec → at (cut_record n rec) a ≡ cut_row n (at rec a)
at_cut n [] a h = absurd (omega arith)
at_cut n (e ∷ rec) zero h = refl
at_cut n (e ∷ rec) (suc a) h = at_cut n rec a (omega arith)

all_from : (P : Figured → Type 0) (rec : List Pivoted) → ((a : ℕ) → a < length rec → P (figured (at rec a))) → AllByRecursion P (all_figured rec)
all_from P [] each = tt
all_from P (e ∷ rec) each = (each 0 (omega arith), all_from P rec (λ a h. each (suc a) (omega arith)))

module _ (M : FieldModel) (L : FieldLaws M) (n : ℕ) (rec : List Pivoted) (R : Reduced M n rec) where
  same : Same n rec (cut_record n rec)
  same = record {
    lengths = sym (length-map rec (cut_row n));
    pivots = λ a h. sym (ap (λ e. e.pivot) (at_cut n rec a h));
    figures = λ a h. sym (ap (λ e. e.figure) (at_cut n rec a h));
    weights = λ a m h b. cut_inside (at rec a).weights n m (dec_lt m n) b ∙ sym (ap (λ e. e.weights m) (at_cut n rec a h));
  }

  pub cut_reduced : Reduced M n (cut_record n rec)
  cut_reduced = same-reduced n rec (cut_record n rec) same M R

  pub own_cut_form : ReducedForm M n (all_figured (cut_record n rec)) rec
  own_cut_form =
      let F = own_form M L n (cut_record n rec) cut_reduced in
      record {
        reduced = R;
        fits = λ t ct f. same-fits M n (cut_record n rec) rec (same_sym n rec (cut_record n rec) same) t (F.fits t ct f);
        given_fits = λ t ct f. F.given_fits t ct (same-fits M n rec (cut_record n rec) same t f);
      }

  pub own_fine : AllFine M n (all_figured (cut_record n rec))
  own_fine =
      let C = cut_reduced in
      all_from (RowFine M n) (cut_record n rec)
      (λ a h. record {
        row = record {
          weights = C.weights_codes a h;
          none_past = λ m past.
              let inside : a < length rec = let e = same.lengths in omega arith in
              ap (λ e. e.weights m) (at_cut n rec a inside) ∙ cut_past (at rec a).weights n m (dec_lt m n) past;
          some_named = λ none. let z : ◌≡◌ {A = ℕ} 1 0 = sym (C.own_pivot a h) ∙ none _ (C.pivot_below a h) in omega arith;
        };
        figure = C.figure_code a h;
      })

  pub own_codes : RowsCodes M n (rows_of (all_figured (cut_record n rec)))
  own_codes = rows_coded M n _ own_fine

  pub own_pins_none : NoneAlone n rec → (i : ℕ) → i < n → Pins M n (rows_of (all_figured (cut_record n rec))) i → ⊥
  own_pins_none none i b pins =
      pins_none M L n rec R none i b
      (λ t u ct cu agree. pins t u ct cu ((form_agrees_lem M L n (all_figured (cut_record n rec)) rec own_cut_form own_codes t u ct cu).1 agree))

  pub own_pinned_with : (r : Vector) (i : ℕ) → PinnedGiven M L n (all_figured (cut_record n rec)) own_codes rec own_cut_form r i → PinnedWith M n rec r i
  own_pinned_with r i p = pinned_with M L n (all_figured (cut_record n rec)) own_codes rec own_cut_form r i p
