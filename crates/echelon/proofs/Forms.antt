-- The reduced form of given rows: form_grown_lem, and for rows of elements form_agrees_lem and form-kept.
-- Assumes nothing.
use mathlib.Core.Path.{◌≡◌, sym, ap, ap₂, ◌∙◌}
use mathlib.Core.Logic.{◌↔◌}
use mathlib.Core.List.{List, [], ◌∷◌}
use Prim.Native.Nat.{ℕ, suc, ◌<◌}
use native.Mathlib.Decide.{ℕ_discrete}
use native.Mathlib.Omega.{arith}
use lib.ListN.{length}
use Rattle.field.specs.Model.{FieldModel, FieldLaws}
use Rattle.echelon.specs.Rows.{RowsCodes, Vector, Codes, sum, Figured, rows_of, Agree, Fits, Fixes}
use Rattle.echelon.specs.Reduced.{Pivoted, at, all_figured, FitsGiven}
use Rattle.echelon.specs.Witness.{base}
use Rattle.echelon.specs.Theorems.{FormAgrees, FormKept, FormGrown}
use Rattle.echelon.proofs.Field.{plus_cancel, zero_right, difference_zero, neg_times}
use Rattle.echelon.proofs.Codes.{field_of, elt, elt_path, elt_one, elt_opposite, one_code, sum_below, along, along_codes, elt_sum_along}
use Rattle.echelon.proofs.Indexed.{fits-at, at-fits, agree_at, at_agree}
use Rattle.echelon.proofs.Tables.{base-fits}

module _ (M : FieldModel) (n : ℕ) where
  -- the rows that others fix have one sum over all tables that fit
  pub given-agree :
      (given : List Figured) (t u : Vector) → Codes M n t → Codes M n u → FitsGiven M n given t → FitsGiven M n given u
      → Agree M n (rows_of given) t u
  given-agree [] t u ct cu ft fu = tt
  given-agree (g ∷ given) t u ct cu ft fu =
      let rest = given-agree given t u ct cu ft.1 fu.1 in
      let x = sum M n g.row t in
      let y = sum M n g.row u in
      let apart : (x ≡ y → ⊥) → ⊥ = λ d.
      let loose : Fixes M n (rows_of given) g.row → ⊥ = λ fixes. d (fixes t u ct cu rest) in
      d (ft.0 loose ∙ sym (fu.0 loose))
      in
      (elim (ℕ_discrete x y) [ yes e ↦ e | no d ↦ absurd (apart d) ], rest)

  pub agree-given : (given : List Figured) (t u : Vector) → Agree M n (rows_of given) t u → FitsGiven M n given t → FitsGiven M n given u
  agree-given [] t u agree ft = tt
  agree-given (g ∷ given) t u agree ft = (λ loose. sym agree.0 ∙ ft.0 loose, agree-given given t u agree.1 ft.1)

  -- the rows of a reduced record
  pub record_rows : (rec : List Pivoted) → ((a : ℕ) → a < length rec → Codes M n (at rec a).weights) → RowsCodes M n (rows_of (all_figured rec))
  record_rows [] codes = tt
  record_rows (e ∷ rec) codes = (codes 0 (omega arith), record_rows rec (λ a b. codes (suc a) (omega arith)))

  pub agree-fits : (rec : List Pivoted) (t u : Vector) → Agree M n (rows_of (all_figured rec)) t u → Fits M n (all_figured rec) t → Fits M n (all_figured rec) u
  agree-fits rec t u agree fits = at-fits M n rec u (λ a b. sym (agree_at M n rec t u agree a b) ∙ fits-at M n rec t fits a b)

  pub fits-agree : (rec : List Pivoted) (t u : Vector) → Fits M n (all_figured rec) t → Fits M n (all_figured rec) u → Agree M n (rows_of (all_figured rec)) t u
  fits-agree rec t u ft fu = at_agree M n rec t u (λ a b. fits-at M n rec t ft a b ∙ sym (fits-at M n rec u fu a b))

module _ (M : FieldModel) (L : FieldLaws M) (n : ℕ) (b t u : Vector) (cb : Codes M n b) (ct : Codes M n t) (cu : Codes M n u) where
  open field_of M L use {zer, one, ◌⊕◌, ◌⊗◌, neg, plus_assoc, plus_neg, times_one}

  infixl 60 ◌⊕◌
  infixl 70 ◌⊗◌
  -- the table b, and the difference of t and u
  abbrev moved : Vector
  moved = along M L (along M L b 1 t) (M.opposite 1) u

  half_codes : Codes M n (along M L b 1 t)
  half_codes = along_codes M L n b 1 t cb (one_code M L) ct

  less_code : M.opposite 1 < M.size
  less_code = L.opposite_below 1 (one_code M L)

  moved_codes : Codes M n moved
  moved_codes = along_codes M L n (along M L b 1 t) (M.opposite 1) u half_codes less_code cu

  moved_sum : (r : Vector) → Codes M n r → elt M L (sum M n r moved) ≡ elt M L (sum M n r b) ⊕ (elt M L (sum M n r t) ⊕ neg (elt M L (sum M n r u)))
  moved_sum r cr =
      let x = elt M L (sum M n r b) in
      let y = elt M L (sum M n r t) in
      let z = elt M L (sum M n r u) in
      elt_sum_along M L n r (along M L b 1 t) (M.opposite 1) u cr half_codes less_code cu
      ∙ ap₂ ◌⊕◌
      (elt_sum_along M L n r b 1 t cr cb (one_code M L) ct ∙ ap (λ i. x ⊕ i) (ap (λ i. i ⊗ y) (elt_one M L) ∙ times_one y))
      (ap (λ i. i ⊗ z) (elt_opposite M L 1 (one_code M L) ∙ ap neg (elt_one M L)) ∙ neg_times (field_of M L) one z ∙ ap neg (times_one z))
      ∙ plus_assoc x y (neg z)

  moved_row : (r : Vector) → Codes M n r → (sum M n r t ≡ sum M n r u) ↔ (sum M n r b ≡ sum M n r moved)
  moved_row r cr =
      let F = field_of M L in
      let x = elt M L (sum M n r b) in
      let y = elt M L (sum M n r t) in
      let z = elt M L (sum M n r u) in
      let below : (v : Vector) → Codes M n v → sum M n r v < M.size = λ v cv. sum_below M L n r v cr cv in (
        λ e.
            elt_path M L (sum M n r b) (sum M n r moved) (below b cb) (below moved moved_codes)
            (sym (moved_sum r cr ∙ ap (λ i. x ⊕ (elt M L i ⊕ neg z)) e ∙ ap (λ i. x ⊕ i) (plus_neg z) ∙ zero_right F x)),
        λ e.
            elt_path M L (sum M n r t) (sum M n r u) (below t ct) (below u cu)
            (difference_zero F y z (plus_cancel F x (y ⊕ neg z) zer (sym (moved_sum r cr) ∙ ap (elt M L) (sym e) ∙ sym (zero_right F x)))),
      )

  moved_to : (rows : List Vector) → RowsCodes M n rows → Agree M n rows t u → Agree M n rows b moved
  moved_to [] codes agree = tt
  moved_to (r ∷ rows) codes agree = ((moved_row r codes.0).0 agree.0, moved_to rows codes.1 agree.1)

  moved_from : (rows : List Vector) → RowsCodes M n rows → Agree M n rows b moved → Agree M n rows t u
  moved_from [] codes agree = tt
  moved_from (r ∷ rows) codes agree = ((moved_row r codes.0).1 agree.0, moved_from rows codes.1 agree.1)

pub form_agrees_lem : FormAgrees
form_agrees_lem M L n given rec G codes t u ct cu =
    let (cb, fb) = base-fits M L n rec G.reduced in
    let B = base rec in
    let w = moved M L n B t u cb ct cu in
    let cw = moved_codes M L n B t u cb ct cu in
    let gb = G.given_fits B cb fb in
    let rows = record_rows M n rec G.reduced.weights_codes in (
      λ agree.
          let fw = G.fits w cw (agree-given M n given B w (moved_to M L n B t u cb ct cu (rows_of given) codes agree) gb) in
          moved_from M L n B t u cb ct cu (rows_of (all_figured rec)) rows (fits-agree M n rec B w fb fw),
      λ agree.
          let fw = agree-fits M n rec B w (moved_to M L n B t u cb ct cu (rows_of (all_figured rec)) rows agree) fb in
          moved_from M L n B t u cb ct cu (rows_of given) codes (given-agree M n given B w cb cw gb (G.given_fits w cw fw)),
    )

pub form-kept : FormKept
form-kept M L n given rec G codes g fixes =
    let known : Fixes M n (rows_of given) g.row =
    λ t u ct cu agree. fixes t u ct cu ((form_agrees_lem M L n given rec G codes t u ct cu).0 agree)
    in
    record {
      reduced = G.reduced;
      fits = λ t ct f. G.fits t ct f.1;
      given_fits = λ t ct f. (λ loose. absurd (loose known), G.given_fits t ct f);
    }

pub form_grown_lem : FormGrown
form_grown_lem M L n given rec rec' G g free R' both =
    let (cb, fb) = base-fits M L n rec' R' in
    let B = base rec' in
    let (eb, rb) = (both B cb).0 fb in
    let figure : (t : Vector) → Codes M n t → FitsGiven M n (g ∷ given) t → sum M n g.row t ≡ g.figure =
    λ t ct f.
    let known : Fixes M n (rows_of given) g.row → sum M n g.row t ≡ g.figure =
    λ fixes. fixes t B ct cb (given-agree M n given t B ct cb f.1 (G.given_fits B cb rb)) ∙ eb
    in
    elim (ℕ_discrete (sum M n g.row t) g.figure) [ yes e ↦ e | no d ↦ f.0 (λ fixes. d (known fixes)) ]
    in
    record {
      reduced = R';
      fits = λ t ct f. (both t ct).1 (figure t ct f, G.fits t ct f.1);
      given_fits = λ t ct f. let (e, r) = (both t ct).0 f in (λ loose. e, G.given_fits t ct r);
    }
