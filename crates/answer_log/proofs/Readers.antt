-- What the code reads of a row, in the words of the specification. Assumes nothing.
use Rattle.std.proofs.Common.{◌≡◌, ℕ, ◌+◌, ◌-◌, ◌*◌, ◌<◌, ◌≤◌, ◌⊎◌, min, Bool, true, false, cond, List, length, get_or, take, drop, Some, None, sym, ap, ◌∙◌, subst, ap₂, inl, inr, ⊎_elim, true≢false, arith}
use Rattle.std.proofs.lemmas.List.{take_rest, drop_all, length-drop, get_or-drop}
use Rattle.std.proofs.lemmas.Bool.{cases_lt, eq-eqb, ne_eqb}
use Rattle.refusal.specs.declared.LogRow.{LogRow}
use Rattle.refusal.specs.declared.Refusal.{Refusal}
use Rattle.refusal.specs.declared.Refusal.TheVariants.{CountsDiffer}
use Rattle.refusal.specs.declared.Site.{Site}
use Rattle.refusal.specs.declared.Site.TheVariants.{OfRow}
use Rattle.field.specs.Model.{FieldModel}
use Rattle.field.specs.Bytes.{width}
use Rattle.field.specs.Sums.{Vector}
use Rattle.server.specs.Checks.{Lowest}
use Rattle.member_map.specs.Maps.{map_length_lem, named, named_below, Stray}
use Rattle.answer_log.specs.Rows.{plain}
use Rattle.answer_log.specs.Entries.{mark_of, map_of, weighted, weight_place, figure_place, row_length_lem, row_weight, Framed, Faulty, EntryCheck, not_an_element, stored_zero, accepted, Reads, RowAt, HeaderCheck, no_header, wrong_kind, wrong_count, counts_differ}
use Rattle.stored.specs.Stored.{count_of, CountCheck, ValueCheck, no_header, wrong_kind, wrong_count, not_an_element, stored_zero, accepted}
use Rattle.answer_log.proofs.Elements.{some-width}
use Rattle.answer_log.proofs.Weights.{plain-same, plain_past}
use Rattle.answer_log.proofs.Again.{again}

module _ (bs : List ℕ) (n : ℕ) where
  -- the bytes from the map on, as the code cuts them
  abbrev part : List ℕ
  part = take (length bs - 1) (drop 1 bs)

  part_is : part ≡ map_of bs
  part_is = take_rest bs 1

  pub stray_of : (b : ℕ) → Stray part n b → Stray (map_of bs) n b
  stray_of b = subst (λ (map : List ℕ). Stray map n b) part_is

  pub none_stray : ((b : ℕ) → Stray part n b → ⊥) → (b : ℕ) → Stray (map_of bs) n b → ⊥
  none_stray none b s = none b (subst (λ (map : List ℕ). Stray map n b) (sym part_is) s)

  pub count_is : (m k : ℕ) → k ≡ named_below part m → k ≡ named_below (map_of bs) m
  count_is m k e = e ∙ ap (λ map. named_below map m) part_is

  pub bit_is : (m i : ℕ) (b : Bool) → i ≡ m → b ≡ named part i → named (map_of bs) m ≡ b
  bit_is m i b ei eb = sym (eb ∙ ap₂ named part_is ei)

-- what the header's check says of a log for a server of n members
module _ (M : FieldModel) (n : ℕ) (bs : List ℕ) where
  pub header_refused : (e : Refusal) → CountCheck M bs (Some e) → HeaderCheck M n bs (Some e)
  header_refused _ (no_header h) = no_header h
  header_refused _ (wrong_kind h k) = wrong_kind h k
  header_refused _ (wrong_count h k c) = wrong_count h k c

  pub header_differs : CountCheck M bs None → (count_of bs ≡ n → ⊥) → HeaderCheck M n bs (Some CountsDiffer)
  header_differs (accepted h) other = counts_differ h.header h.kind h.count other

  pub header_same : CountCheck M bs None → count_of bs ≡ n → HeaderCheck M n bs None
  header_same (accepted h) same = accepted h.header h.kind (rw (← same) h.count) same

-- the mark, as the code tests it
pub is_weighted : (bs : List ℕ) (k : ℕ) → k ≡ mark_of bs → k ≡ 1 → weighted bs ≡ true
is_weighted bs k e one = eq-eqb (mark_of bs) 1 (sym e ∙ one)

pub not_weighted : (bs : List ℕ) (k : ℕ) → k ≡ mark_of bs → (k ≡ 1 → ⊥) → weighted bs ≡ false
not_weighted bs k e other = ne_eqb (mark_of bs) 1 (λ one. other (e ∙ one))

module _ (M : FieldModel) (n : ℕ) (bs : List ℕ) where
  pub figure_stored :
      (l w k : ℕ) → weighted bs ≡ true → l ≡ map_length_lem n → w ≡ width M → k ≡ named_below (map_of bs) n
      → 1 + l + w * k ≡ figure_place M n bs
  figure_stored l w k e el ew ek =
      ap₂ (λ x y. 1 + x + y) el (ap₂ (λ x y. x * y) ew ek)
      ∙ sym (ap (λ b. cond b (weight_place M n bs n) (1 + map_length_lem n)) e)

  pub figure_unstored : (l : ℕ) → weighted bs ≡ false → l ≡ map_length_lem n → 1 + l ≡ figure_place M n bs
  figure_unstored l e el =
      ap (λ x. 1 + x) el ∙ sym (ap (λ b. cond b (weight_place M n bs n) (1 + map_length_lem n)) e)

  pub no_fault : (m e : ℕ) (s : Site) → e ≡ row_weight M n bs m → ValueCheck M e s None → Faulty M n bs m → ⊥
  no_fault m e s code (accepted below stored) f = ⊎_elim (λ past. omega arith) (λ z. stored (code ∙ z)) f.2

  pub unnamed_no_fault : (m : ℕ) → named (map_of bs) m ≡ false → Faulty M n bs m → ⊥
  unnamed_no_fault m e f = true≢false (sym f.1 ∙ e)

  -- the lowest fault, at the member that a check stopped at
  module _ (fr : Framed M n bs) (row : LogRow) (m e : ℕ) (h : m < n) (bit : named (map_of bs) m ≡ true)
      (code : e ≡ row_weight M n bs m) (before : (j : ℕ) → j < m → Faulty M n bs j → ⊥) where
    lowest : (M.size ≤ row_weight M n bs m) ⊎ (row_weight M n bs m ≡ 0) → Lowest (Faulty M n bs) m
    lowest why = record { holds = (h, bit, why); none_below = before }

    pub value_refused : (r : Refusal) → ValueCheck M e (OfRow row) (Some r) → EntryCheck M n row bs (Some r)
    value_refused _ (not_an_element p) =
        let past : M.size ≤ row_weight M n bs m = rw (← code) p in not_an_element fr m (lowest (inl past)) past
    value_refused _ (stored_zero below z) = stored_zero fr m (lowest (inr (sym code ∙ z))) (sym code ∙ z)

-- the weights that were read, 0 from the count on, are plain as those of the row are
pub plain_read :
    (M : FieldModel) (n : ℕ) (bs : List ℕ) (w : Vector) (k : ℕ) → n ≤ k
    → ((m : ℕ) → m < n → w m ≡ row_weight M n bs m) → ((m : ℕ) → n ≤ m → w m ≡ 0)
    → plain w k ≡ plain (row_weight M n bs) n
plain_read M n bs w k h same past = plain_past w n k h past ∙ plain-same w (row_weight M n bs) n same

module _ (M : FieldModel) (n : ℕ) (k : LogRow) (bytes : List ℕ) (at : ℕ) where
  -- the bytes from a place on, as the code cuts them
  pub rest_is : (start : ℕ) → start ≡ min at (length bytes) → take (length bytes - start) (drop start bytes) ≡ drop at bytes
  rest_is start e =
      take_rest bytes start
      ∙ ⊎_elim (λ l. ap (λ i. drop i bytes) (omega arith))
      (λ l. drop_all start bytes (omega arith) ∙ sym (drop_all at bytes l))
      (cases_lt at (length bytes))

  module _ (w : Vector) (f size : ℕ) where
    pub row_within : Reads M n k (drop at bytes) w f size → (1 ≤ size) × (at + size ≤ length bytes)
    unfolding row_length_lem
    row_within r = go r.check
      where
        go : EntryCheck M n k (drop at bytes) None → (1 ≤ size) × (at + size ≤ length bytes)
        go (accepted fine below) =
            let whole : size ≡ figure_place M n (drop at bytes) + width M = r.whole in
            let rest : figure_place M n (drop at bytes) + width M ≤ length (drop at bytes) = fine.framed.rest in
            let cut = length-drop at bytes in
            let wide = some-width M in
            (omega arith, omega arith)

    pub row_at :
        ((i : ℕ) → get_or bytes i 0 < 256) → (next : ℕ) → next ≡ size + at → Reads M n k (drop at bytes) w f size
        → RowAt M n k bytes at w f next
    row_at fit next e r =
        let inside = row_within r in
        let long : size ≡ next - at = omega arith in
        record {
          on = omega arith;
          within = omega arith;
          reads = subst (λ (i : ℕ). Reads M n k (drop at bytes) w f i) long r;
          same =
              ap (λ i. take i (drop at bytes)) (sym long)
              ∙ again M n k (drop at bytes) (λ i. rw get_or-drop (fit (at + i))) w f size r;
        }
