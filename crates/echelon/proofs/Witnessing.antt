-- The witness in memory: the free member and factor that it leads by, and the table that it fills in. Assumes nothing.
use Rattle.std.proofs.Common.{◌≡◌, ℕ, ◌<◌, ◌≢◌, List, length, sym, ap, ◌∙◌, subst, ap₂, ⊎_elim, arith}
use Rattle.field.specs.Model.{FieldModel, FieldLaws}
use Rattle.field.specs.Sums.{Vector, minus}
use Rattle.field.proofs.Zero.{zero-code, times_zero}
use Rattle.echelon.specs.Reduced.{Pivoted, at, Reduced}
use Rattle.echelon.specs.Witness.{Free, base, direction, LowestFree, Leads, from_pivot}
use Rattle.echelon.proofs.Indexed.{pivot_or_free, base-free, base-pivot, direction_self, direction_other, direction-pivot}
use Rattle.echelon.proofs.Tables.{distinct, beside}

module _ (M : FieldModel) (L : FieldLaws M) (n : ℕ) (rec : List Pivoted) (R : Reduced M n rec) where
  free_beside : (r j : ℕ) → r < length rec → j ≢ (at rec r).pivot → (at rec r).weights j ≢ 0 → Free rec j
  free_beside r j h ne named = ⊎_elim (λ z. absurd (named z)) (λ free. free) (beside M L n rec R r j h ne)

  pub leads-pivot :
      (r j i a t : ℕ) → r < length rec → (at rec r).pivot ≡ i → j < n → j ≢ i → (at rec r).weights j ≢ 0
      → ((m : ℕ) → m < j → m ≢ i → (at rec r).weights m ≡ 0)
      → t ≡ M.times (minus M (at rec r).figure a) (M.inverse ((at rec r).weights j))
      → Leads M n rec i a j t × Free rec j
  leads-pivot r j i a t h pivot below ne named lowest is =
      let free = free_beside r j h (λ z. ne (z ∙ pivot)) named in
      let lowest-free : LowestFree n rec (at rec r).weights j = record {
        below = below;
        is_free = free;
        named = named;
        lowest = λ k b free-k. lowest k b (λ z. free-k r h (pivot ∙ sym z));
      } in
      let figure : base rec i ≡ (at rec r).figure = ap (base rec) (sym pivot) ∙ base-pivot rec (distinct M L n rec R) r h in (
        subst (Leads M n rec i a j) (ap (λ f. M.times (minus M f a) (M.inverse ((at rec r).weights j))) figure ∙ sym is)
            (from_pivot r j h pivot lowest-free),
        free,
      )

  -- the table that is to be filled in
  abbrev pub target : ℕ → ℕ → Vector
  target t j m = M.plus (base rec m) (M.times t (direction M rec j m))

  pub target_pivot :
      (t j a : ℕ) → a < length rec → target t j (at rec a).pivot ≡ M.plus (at rec a).figure (M.times t (M.opposite ((at rec a).weights j)))
  target_pivot t j a h =
      ap₂ (λ b d. M.plus b (M.times t d)) (base-pivot rec (distinct M L n rec R) a h) (direction-pivot M rec (distinct M L n rec R) j a h)

  pub target_self : (t j : ℕ) → t < M.size → Free rec j → target t j j ≡ t
  target_self t j ht free =
      ap₂ (λ b d. M.plus b (M.times t d)) (base-free rec j free) (direction_self M rec j free)
      ∙ ap (M.plus 0) (L.times_comm t 1 ht (let two = L.two_elements in omega arith) ∙ L.times_one t ht)
      ∙ L.plus_zero t ht

  pub target_other : (t j m : ℕ) → t < M.size → Free rec m → m ≢ j → target t j m ≡ 0
  target_other t j m ht free ne =
      ap₂ (λ b d. M.plus b (M.times t d)) (base-free rec m free) (direction_other M rec j m free ne)
      ∙ ap (M.plus 0) (times_zero M L t ht)
      ∙ L.plus_zero 0 (zero-code M L)

  -- pivots and free members are all there is
  pub target_all :
      (t j : ℕ) (w : Vector) → ((a : ℕ) → a < length rec → w (at rec a).pivot ≡ target t j (at rec a).pivot)
      → ((m : ℕ) → m < n → Free rec m → w m ≡ target t j m) → (m : ℕ) → m < n → w m ≡ target t j m
  target_all t j w pivots frees m h =
      ⊎_elim (λ p. ap w (sym p.2) ∙ pivots p.0 p.1 ∙ ap (target t j) p.2) (λ free. frees m h free) (pivot_or_free rec m)

  pub apart : (a b : ℕ) → a < length rec → b < a → (at rec b).pivot ≢ (at rec a).pivot
  apart a b h less same = let up = R.pivots_rise b a less h in omega arith
