-- Members that stand alone once a row has joined: what the search for the lowest finds. Assumes nothing.
use Rattle.std.proofs.Common.{◌≡◌, ℕ, ◌<◌, ◌≢◌, List, length, sym, refl, ap, ◌∙◌, subst, inl, inr, arith}
use native.Mathlib.Decide.{ℕ_discrete, dec_lt}
use Rattle.field.specs.Model.{FieldModel, FieldLaws}
use Rattle.field.specs.Sums.{Vector}
use Rattle.server.specs.Checks.{Lowest}
use Rattle.echelon.specs.Rows.{CodedRow}
use Rattle.echelon.specs.Reduced.{Pivoted, at, figured, Alone, Reduced, NoneAlone}
use Rattle.echelon.specs.Elimination.{cleared, pivot_cleared, AloneWith}
use Rattle.echelon.proofs.Values.{less_none}

-- a weight beside the pivot, and none
pub not_alone : (n : ℕ) (w : Vector) (i p : ℕ) → p < n → p ≢ i → w p ≢ 0 → Alone n w i → ⊥
not_alone n w i p below ne named alone = named (alone.1 p below ne)

module _
    (M : FieldModel) (L : FieldLaws M) (n : ℕ) (rec : List Pivoted) (R : Reduced M n rec) (none : NoneAlone n rec)
    (e : Pivoted) (ep : e.pivot < n) (ce : CodedRow M n (figured e))
    (own : e.weights e.pivot ≡ 1) (others : (a : ℕ) → a < length rec → e.weights (at rec a).pivot ≡ 0) where
  abbrev cleared_weights : ℕ → Vector
  cleared_weights a = (pivot_cleared M e (at rec a)).weights

  -- a cleared row still has 1 at its pivot
  still_one : (a : ℕ) → a < length rec → cleared_weights a (at rec a).pivot ≡ 1
  still_one a h =
      let p = R.pivot_below a h in
      less_none M L n _ _ _ (R.weights_codes a h _ p) (R.weights_codes a h _ ep) (ce.0 _ p) (inr (others a h)) ∙ R.own_pivot a h

  -- a row whose pivot is above e's is not changed
  unchanged : (a : ℕ) → a < length rec → e.pivot < (at rec a).pivot → (m : ℕ) → m < n → cleared_weights a m ≡ (at rec a).weights m
  unchanged a h above m b =
      less_none M L n _ _ _ (R.weights_codes a h m b) (R.weights_codes a h _ ep) (ce.0 m b) (inl (R.lowest_named a _ h above))

  abbrev pub AloneAt : ℕ → Type 0
  AloneAt a = Alone n (cleared_weights a) (at rec a).pivot

  pub alone-found :
      (a : ℕ) (x : Pivoted) → a < length rec → at rec a ≡ x
      → ((m : ℕ) → m < n → m ≢ x.pivot → (cleared M e (figured x)).row m ≡ 0) → AloneAt a
  alone-found a x h is zero = (
    λ z. let one : ◌≡◌ {A = ℕ} 1 0 = sym (still_one a h) ∙ z in omega arith,
    λ m b ne.
        ap (λ y. (cleared M e (figured y)).row m) is ∙ zero m b (λ z. ne (z ∙ ap (λ y. y.pivot) (sym is))),
  )

  pub alone_missed :
      (a p : ℕ) (x : Pivoted) → at rec a ≡ x → p < n → p ≢ x.pivot → (cleared M e (figured x)).row p ≢ 0 → AloneAt a → ⊥
  alone_missed a p x is below ne named alone =
      named (ap (λ y. (cleared M e (figured y)).row p) (sym is) ∙ alone.1 p below (λ z. ne (z ∙ ap (λ y. y.pivot) is)))

  -- a row that stands alone is lower than e's pivot
  lower : (a : ℕ) → a < length rec → AloneAt a → (at rec a).pivot < e.pivot
  lower a h alone =
      elim (dec_lt e.pivot (at rec a).pivot) [
        | yes above ↦
            absurd (none a h
            (λ z. alone.0 (unchanged a h above _ (R.pivot_below a h) ∙ z), λ m b ne. sym (unchanged a h above m b) ∙ alone.1 m b ne))
        | no not-above ↦
            elim (ℕ_discrete (at rec a).pivot e.pivot) [
              | yes same ↦ let one : ◌≡◌ {A = ℕ} 1 0 = sym own ∙ ap e.weights (sym same) ∙ others a h in absurd (omega arith)
              | no ne ↦ omega arith
            ]
      ]

  in_order : (a b : ℕ) → a < length rec → b < length rec → (at rec b).pivot < (at rec a).pivot → b < a
  in_order a b ha hb less =
      elim (dec_lt b a) [
        | yes h ↦ h
        | no h ↦
            elim (ℕ_discrete a b) [
              | yes same ↦ absurd (let e = ap (λ k. (at rec k).pivot) same in omega arith)
              | no ne ↦ absurd (let up : (at rec a).pivot < (at rec b).pivot = R.pivots_rise a b (omega arith) hb in omega arith)
            ]
      ]

  -- the first row that stands alone has the lowest member that does
  pub row_is_lowest :
      (a : ℕ) → a < length rec → AloneAt a → ((b : ℕ) → b < a → AloneAt b → ⊥) → Lowest (AloneWith M n rec e) (at rec a).pivot
  row_is_lowest a h alone before = record { holds = inl (a, h, refl, alone); none_below = below }
    where
      below : (k : ℕ) → k < (at rec a).pivot → AloneWith M n rec e k → ⊥
      below k less (inl (b, hb, same, alone-b)) =
          before b (in_order a b h hb (omega arith)) (subst (Alone n (cleared_weights b)) (sym same) alone-b)
      below k less (inr (same, alone-e)) = let low = lower a h alone in omega arith

  module _ (no_row : (b : ℕ) → b < length rec → AloneAt b → ⊥) where
    rows_none : (k a : ℕ) → a < length rec → (at rec a).pivot ≡ k → Alone n (cleared_weights a) k → ⊥
    rows_none k a h same alone = no_row a h (subst (Alone n (cleared_weights a)) (sym same) alone)

    pub fresh_is_lowest : Alone n e.weights e.pivot → Lowest (AloneWith M n rec e) e.pivot
    fresh_is_lowest alone = record { holds = inr (refl, alone); none_below = below }
      where
        below : (k : ℕ) → k < e.pivot → AloneWith M n rec e k → ⊥
        below k less (inl (b, hb, same, alone-b)) = rows_none k b hb same alone-b
        below k less (inr (same, alone-e)) = omega arith

    pub none_is : (Alone n e.weights e.pivot → ⊥) → (i : ℕ) → AloneWith M n rec e i → ⊥
    none_is not i (inl (b, hb, same, alone-b)) = rows_none i b hb same alone-b
    none_is not i (inr (same, alone-e)) = not (subst (Alone n e.weights) (sym same) alone-e)
