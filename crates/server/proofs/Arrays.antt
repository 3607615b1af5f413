-- The checks of an array, from what its maker finds in the slice. Assumes nothing.
use Rattle.std.proofs.Common.{◌≡◌, ℕ, ◌<◌, ◌≤◌, List, length, get_or, Some, None, refl, arith}
use native.Mathlib.Decide.{dec_lt}
use Rattle.std.proofs.Math.ListN.{length-map, get_or-map}
use Rattle.refusal.specs.declared.Refusal.TheVariants.{WrongCount, NotAnElement}
use Rattle.refusal.specs.declared.Site.TheVariants.{OfMember}
use Rattle.field.specs.Model.{FieldModel}
use Rattle.field.specs.declared.Element.{Element}
use Rattle.server.specs.Tables.{Table, value_at, codes, listed}
use Rattle.server.specs.Checks.{Count, Stray, ArrayCheck, wrong_count, not_an_element, accepted}
use Rattle.server.proofs.Listed.{listed_is}

-- element m of a slice, as its code reads in the list of codes, 0 past the last
pub code_at : (es : List Element) (m : ℕ) → get_or (codes es) m 0 ≡ (get_or es m (record { 0 = 0 })).0
code_at es m = get_or-map (λ e. e.0) es m (record { 0 = 0 })

module _ (M : FieldModel) (es : List Element) where
  same_length : length (codes es) ≡ length es
  same_length = length-map es (λ e. e.0)

  pub wrong : (Count (length es) → ⊥) → ArrayCheck M (codes es) (Some WrongCount)
  wrong h = wrong_count (λ k. h (rw same_length at k))

  pub is_stray : (m : ℕ) → m < length es → M.size ≤ (get_or es m (record { 0 = 0 })).0 → Stray M (codes es) m
  is_stray m h past = (rw same_length h, rw (code_at es m) past)

  pub not_stray : (m : ℕ) → m < length es → (get_or es m (record { 0 = 0 })).0 < M.size → Stray M (codes es) m → ⊥
  not_stray m h within s = let past = rw (code_at es m) at s.1 in omega arith

  pub stray :
      (m : ℕ) → Count (length es) → m < length es → M.size ≤ (get_or es m (record { 0 = 0 })).0
      → ((k : ℕ) → k < m → Stray M (codes es) k → ⊥) → ArrayCheck M (codes es) (Some (NotAnElement (OfMember (record { 0 = m }))))
  stray m n h past before =
      not_an_element (rw same_length n) m (record { holds = is_stray m h past; none_below = before })

  pub fine :
      Count (length es) → ((k : ℕ) → k < length es → Stray M (codes es) k → ⊥)
      → ArrayCheck M (codes es) None × (listed M (length (codes es)) (value_at (codes es)) ≡ codes es)
  fine n none =
      let below : (m : ℕ) → m < length (codes es) → get_or (codes es) m 0 < M.size =
      λ m h. elim (dec_lt (get_or (codes es) m 0) M.size) [ yes k ↦ k | no k ↦ absurd (none m (rw same_length at h) (h, omega arith)) ] in
      let t : Table M (codes es) = record { some = rw same_length n.0; few = rw same_length n.1; elements = below } in
      (accepted (rw same_length n) (λ m s. none m (rw same_length at s.0) s), listed_is M _ _ (codes es) t refl (λ m h. refl))
