-- What the record answers about a row of a log, in terms of the rows before it. Assumes nothing.
use Rattle.std.proofs.Common.{◌≡◌, ℕ, ◌<◌, true, ◌≢◌, List, [], ◌∷◌, is_ok, Some, None, Result, sym, refl, ◌∙◌, arith}
use Rattle.refusal.specs.declared.Refusal.{Refusal}
use Rattle.refusal.specs.declared.Refusal.TheVariants.{Discloses, OtherFigure}
use Rattle.refusal.specs.declared.Site.TheVariants.{OfRow}
use Rattle.refusal.specs.declared.LogRow.{LogRow}
use Rattle.refusal.specs.declared.Member.{Member}
use Rattle.field.specs.Model.{FieldModel, FieldLaws}
use Rattle.field.specs.Sums.{Vector, Codes}
use Rattle.field.specs.declared.Element.{Element}
use Rattle.echelon.specs.Rows.{Figured, rows_of, Agree, Fixes, row_with}
use Rattle.echelon.specs.Reduced.{Pivoted, ReducedForm, record_rows, FixedFigure}
use Rattle.echelon.specs.Witness.{base}
use Rattle.echelon.proofs.Tables.{base-fits}
use Rattle.echelon.proofs.Forms.{form_agrees_lem, form-kept}
use Rattle.echelon.proofs.Given.{fits-given}
use Rattle.echelon.proofs.Own.{pins_none}
use Rattle.record.specs.Judged as judged
use Rattle.record.specs.Judged.{Judged, Adds, FitsBoth, Admitted}
use Rattle.record.specs.declared.judge.Judgement.TheVariants.{Fixed, Pinning, Free}
use Rattle.record.specs.declared.judge.Admission.{Admission}
use Rattle.log_record.specs.Joins.{PinsWith, Contradicts, JoinCheck, discloses, other_figure, joins, Recorded}

module _
    (M : FieldModel) (L : FieldLaws M) (n : ℕ) (k : LogRow) (before : List Figured) (rec : List Pivoted) (B : Recorded M n before rec)
    (r : Vector) (cr : Codes M n r) (f : ℕ) where
  agree_before : (t u : Vector) → Codes M n t → Codes M n u → Agree M n (record_rows rec) t u → Agree M n (rows_of before) t u
  agree_before t u ct cu agree = (form_agrees_lem M L n before rec B.form B.codes t u ct cu).1 agree

  agree_record : (t u : Vector) → Codes M n t → Codes M n u → Agree M n (rows_of before) t u → Agree M n (record_rows rec) t u
  agree_record t u ct cu agree = (form_agrees_lem M L n before rec B.form B.codes t u ct cu).0 agree

  -- the row pins a member
  pub pinning : (i : Member) → Judged M n rec r (Pinning i) → JoinCheck M n k before (row_with r f) (Some (Discloses (OfRow k)))
  pinning i (judged.pins not j low) =
      let (inside, pins) = low.holds in
      discloses j (inside, λ t u ct cu agree. pins t u ct cu (agree.0, agree_record t u ct cu agree.1))

  module _ (fixes : Fixes M n (record_rows rec) r) (v : ℕ) (figure : FixedFigure M n rec r v) where
    none_pinned : (i : ℕ) → PinsWith M n before (row_with r f) i → ⊥
    none_pinned i (inside, pins) =
        B.pins_nobody i inside (λ t u ct cu agree. pins t u ct cu (fixes t u ct cu (agree_record t u ct cu agree), agree))

    contradicts : v ≢ f → Contradicts M n before (row_with r f)
    contradicts ne = (
      λ t u ct cu agree. fixes t u ct cu (agree_record t u ct cu agree),
      λ t ct fits is. ne (sym (figure t ct (B.form.fits t ct (fits-given M n before t fits))) ∙ is),
    )

    agrees : v ≡ f → Contradicts M n before (row_with r f) → ⊥
    agrees e (_, none) =
        let (cb, fb) = base-fits M L n rec B.form.reduced in none (base rec) cb (B.figures (base rec) cb fb) (figure (base rec) cb fb ∙ e)

    still : v ≡ f → Recorded M n (row_with r f ∷ before) rec
    still e = record {
      codes = (cr, B.codes);
      pins_nobody = λ i h pins. none_pinned i (h, pins);
      form = form-kept M L n before rec B.form B.codes (row_with r f) fixes;
      figures = λ t ct fits. (figure t ct fits ∙ e, B.figures t ct fits);
    }

  -- the rows before fix another figure
  pub fixed_otherwise :
      (v : Element) → Judged M n rec r (Fixed v) → v.0 ≢ f → JoinCheck M n k before (row_with r f) (Some (OtherFigure k))
  fixed_otherwise v (judged.fixed fixes x figure) ne = other_figure (none_pinned fixes x figure) (contradicts fixes x figure ne)

  -- they fix this figure
  pub fixed_so :
      (v : Element) → Judged M n rec r (Fixed v) → v.0 ≡ f
      → JoinCheck M n k before (row_with r f) None × Recorded M n (row_with r f ∷ before) rec
  fixed_so v (judged.fixed fixes x figure) e = (joins (none_pinned fixes x figure) (agrees fixes x figure e), still fixes x figure e)

  -- they leave it open, and the row joins
  pub free-joins :
      (rec' : List Pivoted) → Judged M n rec r Free → FitsBoth M n rec (row_with r f) rec' → Adds M n rec (row_with r f) rec'
      → JoinCheck M n k before (row_with r f) None × Recorded M n (row_with r f ∷ before) rec'
  free-joins rec' (judged.free loose free) fits adds =
      let none : (i : ℕ) → PinsWith M n before (row_with r f) i → ⊥ =
      λ i (inside, pins). free i (inside, λ t u ct cu agree. pins t u ct cu (agree.0, agree_before t u ct cu agree.1))
      in (
        joins none
            (λ (fixes, _). loose (λ t u ct cu agree. fixes t u ct cu (agree_before t u ct cu agree))),
        record {
          codes = (cr, B.codes);
          pins_nobody = λ i h pins. none i (h, pins);
          form = adds before B.codes B.form;
          figures = λ t ct ft. let (is, rest) = (fits t ct).0 ft in (is, B.figures t ct rest);
        },
      )

-- a row that is judged free joins, and cannot be refused
pub admitted :
    (M : FieldModel) (n : ℕ) (rec : List Pivoted) (r : Vector) (f : ℕ) (rec' : List Pivoted) (a : Result Admission Refusal)
    → f < M.size → Judged M n rec r Free → Admitted M n rec r f rec' a
    → (is_ok a ≡ true) × FitsBoth M n rec (row_with r f) rec' × Adds M n rec (row_with r f) rec'
admitted M n rec r f rec' a small verdict (judged.no_figure large same) = absurd (omega arith)
admitted M n rec r f rec' a small (judged.free loose free) (judged.kept figure fixes same adds) = absurd (loose fixes)
admitted M n rec r f rec' a small (judged.free loose free) (judged.discloses figure i (judged.pins not j low) same) =
    absurd (free j low.holds)
admitted M n rec r f rec' a small verdict (judged.joined figure loose fits adds) = (refl, fits, adds)

pub empty_form : (M : FieldModel) (n : ℕ) → ReducedForm M n [] []
empty_form M n = record {
  reduced = record {
    weights_codes = λ a h. absurd (omega arith);
    figure_code = λ a h. absurd (omega arith);
    pivot_below = λ a h. absurd (omega arith);
    pivots_rise = λ a b h k. absurd (omega arith);
    own_pivot = λ a h. absurd (omega arith);
    lowest_named = λ a m h. absurd (omega arith);
    other_pivots = λ a b h. absurd (omega arith);
  };
  fits = λ t ct f. tt;
  given_fits = λ t ct f. tt;
}

-- before the first row
pub nothing_yet : (M : FieldModel) → FieldLaws M → (n : ℕ) → Recorded M n [] []
nothing_yet M L n = record {
  codes = tt;
  pins_nobody = pins_none M L n [] (empty_form M n).reduced (λ a h. absurd (omega arith));
  form = empty_form M n;
  figures = λ t ct fits. tt;
}
