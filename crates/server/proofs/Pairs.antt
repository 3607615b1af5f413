-- Two tables added member by member are a table. Assumes nothing.
use Rattle.std.proofs.Common.{◌≡◌, ℕ, ◌<◌, ◌≤◌, ◌⊎◌, ⊎_elim, min, List, length, get_or, zero-add, arith}
use Rattle.std.proofs.lemmas.List.FromFn.{length-map-range_with_len, get_or-map-range_with_len}
use Rattle.field.specs.Model.{FieldModel, FieldLaws}
use Rattle.server.specs.Tables.{Table, value_at, sums}

module _ (M : FieldModel) (t u : List ℕ) where
  pub sums-length : length (sums M t u) ≡ min (length t) (length u)
  sums-length = length-map-range_with_len (λ m. M.plus (value_at t m) (value_at u m)) 0 (min (length t) (length u))

  -- no member past either of the two
  pub sums_past : (m : ℕ) → (length t ≤ m) ⊎ (length u ≤ m) → length (sums M t u) ≤ m
  sums_past m past = rw sums-length (⊎_elim (λ h. omega arith) (λ h. omega arith) past)

  pub sums_at : (m : ℕ) → m < length t → m < length u → get_or (sums M t u) m 0 ≡ M.plus (get_or t m 0) (get_or u m 0)
  sums_at m ht hu =
      get_or-map-range_with_len (λ i. M.plus (value_at t i) (value_at u i)) 0 (min (length t) (length u)) m m 0 (omega arith) (zero-add m)

  pub sums-table : FieldLaws M → Table M t → Table M u → Table M (sums M t u)
  sums-table L a b = record {
    some = rw sums-length (omega (arith, a.some, b.some));
    few = rw sums-length (omega (arith, a.few));
    elements = λ m h.
        let inside : m < min (length t) (length u) = rw sums-length at h in
        let ht : m < length t = omega arith in
        let hu : m < length u = omega arith in
        rw (sums_at m ht hu) (L.plus_below _ _ (a.elements m ht) (b.elements m hu));
  }
