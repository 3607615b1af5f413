-- What fits rows given, and fits all of them but the fixed ones. Assumes nothing.
use Rattle.std.proofs.Common.{ℕ, List, [], ◌∷◌, sym, ◌∙◌}
use Rattle.field.specs.Model.{FieldModel}
use Rattle.field.specs.Sums.{Vector, Codes}
use Rattle.echelon.specs.Rows.{Figured, rows_of, Agree, Fits}
use Rattle.echelon.specs.Reduced.{FitsGiven}
use Rattle.echelon.proofs.Forms.{given-agree}

module _ (M : FieldModel) (n : ℕ) where
  pub fits-given : (rows : List Figured) (t : Vector) → Fits M n rows t → FitsGiven M n rows t
  fits-given [] t fits = tt
  fits-given (g ∷ rows) t fits = (λ loose. fits.0, fits-given rows t fits.1)

  agree-fits : (rows : List Figured) (t u : Vector) → Agree M n (rows_of rows) t u → Fits M n rows t → Fits M n rows u
  agree-fits [] t u agree fits = tt
  agree-fits (g ∷ rows) t u agree fits = (sym agree.0 ∙ fits.0, agree-fits rows t u agree.1 fits.1)

  -- where one table has every figure, another that fits all but the fixed rows has every figure too
  pub given-fits_all :
      (rows : List Figured) (t u : Vector) → Codes M n t → Codes M n u → Fits M n rows t → FitsGiven M n rows u → Fits M n rows u
  given-fits_all rows t u ct cu fits fu = agree-fits rows t u (given-agree M n rows t u ct cu (fits-given rows t fits) fu) fits
