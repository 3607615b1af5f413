-- What makes a member's stored code faulty or not, and what an accepted file means. Assumes nothing.
use Rattle.std.proofs.Common.{◌≡◌, ℕ, ◌<◌, ◌≤◌, Bool, true, false, ◌⊎◌, List, length, get_or, Some, None, sym, refl, ap, ◌∙◌, inl, inr, ⊎_elim, true≢false, zero-add, arith}
use native.Mathlib.Decide.{dec_lt}
use Rattle.std.proofs.lemmas.List.FromFn.{length-map-range_with_len, get_or-map-range_with_len}
use Rattle.refusal.specs.declared.Refusal.{Refusal}
use Rattle.refusal.specs.declared.Site.{Site}
use Rattle.refusal.specs.declared.Site.TheVariants.{OfMember}
use Rattle.field.specs.Model.{FieldModel, FieldLaws}
use Rattle.field.specs.Bytes.{code_at}
use Rattle.field.proofs.Zero.{zero-code}
use Rattle.server.specs.Checks.{Lowest}
use Rattle.server.specs.Tables.{Table, listed}
use Rattle.server.proofs.Listed.{listed_is}
use Rattle.member_map.specs.Maps.{named}
use Rattle.table_file.specs.Files.{count_of, map_of, value_place, file_value, file_table, Framed, Faulty, FileCheck, no_header, wrong_kind, wrong_count, not_an_element, stored_zero, accepted}
use Rattle.stored.specs.Stored.{CountCheck, ValueCheck, no_header, wrong_kind, wrong_count, not_an_element, stored_zero, accepted}

-- what the header's check says of a file
module _ (M : FieldModel) (bs : List ℕ) where
  pub header_refused : (e : Refusal) → CountCheck M bs (Some e) → FileCheck M bs (Some e)
  header_refused _ (no_header h) = no_header h
  header_refused _ (wrong_kind h k) = wrong_kind h k
  header_refused _ (wrong_count h k n) = wrong_count h k n

module _ (M : FieldModel) (bs : List ℕ) where
  pub no_fault : (m e : ℕ) (s : Site) → e ≡ file_value M bs m → ValueCheck M e s None → Faulty M bs m → ⊥
  no_fault m e s code (accepted below stored) f = ⊎_elim (λ past. omega arith) (λ z. stored (code ∙ z)) f.2

  value_unnamed : (m : ℕ) → named (map_of bs) m ≡ false → file_value M bs m ≡ 0
  value_unnamed m e = ap (λ b. elim b [ true ↦ code_at M bs (value_place M bs m) | false ↦ 0 ]) e

  pub unnamed_no_fault : (m : ℕ) → named (map_of bs) m ≡ false → Faulty M bs m → ⊥
  unnamed_no_fault m e f = true≢false (sym f.1 ∙ e)

  -- the lowest fault, at the member that a check stopped at
  module _ (fr : Framed M bs) (m k e : ℕ) (same : k ≡ m) (h : m < count_of bs) (bit : named (map_of bs) k ≡ true)
      (code : e ≡ file_value M bs m) (before : (j : ℕ) → j < m → Faulty M bs j → ⊥) where
    code_is : file_value M bs k ≡ e
    code_is = ap (file_value M bs) same ∙ sym code

    lowest : (M.size ≤ file_value M bs k) ⊎ (file_value M bs k ≡ 0) → Lowest (Faulty M bs) k
    lowest why = record { holds = (omega arith, bit, why); none_below = λ j l. before j (omega arith) }

    pub value_refused : (r : Refusal) → ValueCheck M e (OfMember (record { 0 = k })) (Some r) → FileCheck M bs (Some r)
    value_refused _ (not_an_element p) =
        let past : M.size ≤ file_value M bs k = rw code_is p in not_an_element fr k (lowest (inl past)) past
    value_refused _ (stored_zero below z) = stored_zero fr k (lowest (inr (code_is ∙ z))) (code_is ∙ z)

  -- every code that an accepted file means is an element
  value_below : FieldLaws M → ((m : ℕ) → Faulty M bs m → ⊥) → (m : ℕ) → m < count_of bs → file_value M bs m < M.size
  value_below L none m h = go (named (map_of bs) m) refl
    where
      go : (b : Bool) → named (map_of bs) m ≡ b → file_value M bs m < M.size
      go true e =
          elim (dec_lt (file_value M bs m) M.size) [ yes k ↦ k | no k ↦ absurd (none m (h, e, inl (omega arith))) ]
      go false e = rw (value_unnamed m e) (zero-code M L)

  framed_means : FieldLaws M → Framed M bs → ((m : ℕ) → Faulty M bs m → ⊥) → listed M (count_of bs) (file_value M bs) ≡ file_table M bs
  framed_means L fr none =
      let n = count_of bs in
      let long : length (file_table M bs) ≡ n = length-map-range_with_len (file_value M bs) 0 n in
      let at : (m : ℕ) → m < n → get_or (file_table M bs) m 0 ≡ file_value M bs m =
      λ m h. get_or-map-range_with_len (file_value M bs) 0 n m m 0 h (zero-add m) in
      let count = fr.mapped.headed.count in
      let table : Table M (file_table M bs) = record {
        some = rw long count.0;
        few = rw long count.1;
        elements = λ m h. let inside : m < n = rw long at h in rw (at m inside) (value_below L none m inside);
      } in
      listed_is M n (file_value M bs) (file_table M bs) table long (λ m h. sym (at m h))

  pub means : FieldLaws M → FileCheck M bs None → listed M (count_of bs) (file_value M bs) ≡ file_table M bs
  means L (accepted fr none) = framed_means L fr none
