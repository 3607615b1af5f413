-- What the reduced form of the rows given tells: whom a row would pin, and what the table's sums are. Assumes nothing.
use Rattle.std.proofs.Common.{◌≡◌, ℕ, ◌<◌, List, [], ◌∷◌, arith}
use Rattle.field.specs.Model.{FieldModel, FieldLaws}
use Rattle.field.specs.Sums.{Vector, Codes}
use Rattle.field.proofs.Zero.{zero-code}
use Rattle.echelon.specs.Rows.{Figured, rows_of, RowsCodes, Fits, Pins, Fixes}
use Rattle.echelon.specs.Reduced.{Pivoted, all_figured, record_rows, PinnedWith, ReducedForm}
use Rattle.echelon.proofs.Codes.{one_code}
use Rattle.echelon.proofs.Forms.{form_agrees_lem}
use Rattle.echelon.proofs.Given.{fits-given}

-- no rows pin nobody
pub nothing_pins : (M : FieldModel) → FieldLaws M → (n i : ℕ) → i < n → Pins M n [] i → ⊥
nothing_pins M L n i b pins =
    let z : ◌≡◌ {A = ℕ} 0 1 = pins (λ m. 0) (λ m. 1) (λ m h. zero-code M L) (λ m h. one_code M L) tt in omega arith

module _
    (M : FieldModel) (L : FieldLaws M) (n : ℕ) (given : List Figured) (codes : RowsCodes M n (rows_of given))
    (rec : List Pivoted) (G : ReducedForm M n given rec) where
  -- with the rows given, the row r pins the member i
  abbrev pub PinnedGiven : Vector → ℕ → Type 0
  PinnedGiven r i = (i < n) × Pins M n (r ∷ rows_of given) i

  pub pinned_by : (r : Vector) (i : ℕ) → PinnedWith M n rec r i → PinnedGiven r i
  pinned_by r i (b, pins) =
      (b, λ t u ct cu agree. pins t u ct cu (agree.0, (form_agrees_lem M L n given rec G codes t u ct cu).0 agree.1))

  pub pinned_with : (r : Vector) (i : ℕ) → PinnedGiven r i → PinnedWith M n rec r i
  pinned_with r i (b, pins) =
      (b, λ t u ct cu agree. pins t u ct cu (agree.0, (form_agrees_lem M L n given rec G codes t u ct cu).1 agree.1))

  module _ (nobody : (i : ℕ) → i < n → Pins M n (rows_of given) i → ⊥) where
    -- a row that the record fixes pins nobody
    pub fixed-pins_none : (r : Vector) → Fixes M n (record_rows rec) r → (i : ℕ) → PinnedGiven r i → ⊥
    fixed-pins_none r fixes i (b, pins) =
        nobody i b (λ t u ct cu agree. pins t u ct cu (fixes t u ct cu ((form_agrees_lem M L n given rec G codes t u ct cu).0 agree), agree))

  -- a table that has every figure given fits the record
  pub record_fits : (t : Vector) → Codes M n t → Fits M n given t → Fits M n (all_figured rec) t
  record_fits t ct fits = G.fits t ct (fits-given M n given t fits)
