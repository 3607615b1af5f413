-- The table that lists k values: a table always, and the values' own list wherever that is a table. Assumes nothing.
use Rattle.std.proofs.Common.{◌≡◌, ℕ, ◌<◌, Bool, true, false, ltb, List, length, get_or, sym, refl, ap, ◌∙◌, zero-add, arith, ltb-true, lt-ltb}
use Rattle.std.proofs.lemmas.List.FromFn.{length-map-range_with_len, get_or-map-range_with_len}
use Rattle.std.proofs.lemmas.List.{ext_get_or}
use Rattle.field.specs.Model.{FieldModel, FieldLaws}
use Rattle.field.specs.Sums.{Vector}
use Rattle.field.proofs.Zero.{zero-code}
use Rattle.server.specs.Tables.{Table, element_or_zero_lem, bounded, listed}

pub element_kept : (M : FieldModel) (e : ℕ) → e < M.size → element_or_zero_lem M e ≡ e
element_kept M e h = ap (λ b. elim b [ true ↦ e | false ↦ 0 ]) (lt-ltb e M.size h)

pub element_below : (M : FieldModel) → FieldLaws M → (e : ℕ) → element_or_zero_lem M e < M.size
element_below M L e = go (ltb e M.size) refl
  where
    go : (b : Bool) → ltb e M.size ≡ b → (elim b [ true ↦ e | false ↦ 0 ]) < M.size
    go true h = ltb-true e M.size h
    go false h = zero-code M L

module _ (M : FieldModel) (k : ℕ) (f : Vector) where
  pub listed-length : length (listed M k f) ≡ bounded k
  listed-length = length-map-range_with_len (λ m. element_or_zero_lem M (f m)) 0 (bounded k)

  pub listed_at : (m : ℕ) → m < bounded k → get_or (listed M k f) m 0 ≡ element_or_zero_lem M (f m)
  listed_at m h = get_or-map-range_with_len (λ i. element_or_zero_lem M (f i)) 0 (bounded k) m m 0 h (zero-add m)

  pub listed-table : FieldLaws M → Table M (listed M k f)
  listed-table L = record {
    some = rw listed-length (omega arith);
    few = rw listed-length (omega arith);
    elements = λ m h.
        let below : m < bounded k = rw listed-length at h in
        rw (listed_at m below) (element_below M L (f m));
  }

  -- the list of the values, where it is a table of k elements
  pub listed_is : (xs : List ℕ) → Table M xs → length xs ≡ k → ((m : ℕ) → m < k → f m ≡ get_or xs m 0) → listed M k f ≡ xs
  listed_is xs t e same =
      let fits : bounded k ≡ k = omega (arith, t.some, t.few) in
      ext_get_or 0 (listed M k f) xs (listed-length ∙ fits ∙ sym e)
      (λ m h.
      let below : m < bounded k = rw listed-length at h in
      let inside : m < k = omega arith in
      let within : m < length xs = omega arith in
      listed_at m below ∙ ap (element_or_zero_lem M) (same m inside) ∙ element_kept M (get_or xs m 0) (t.elements m within))

  -- the value of a member, from the code that its element is made of
  pub answered :
      (m e : ℕ) → m < length (listed M k f) → e ≡ element_or_zero_lem M (f m)
      → (m < length (listed M k f)) × (e ≡ get_or (listed M k f) m 0)
  answered m e h is = (h, is ∙ sym (listed_at m (rw listed-length at h)))
