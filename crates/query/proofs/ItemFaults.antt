-- An item's fault by 19 or 20: what stands there, and that of a row, after some entries. Assumes nothing.
use Rattle.std.proofs.Common.{◌≡◌, ℕ, zero, suc, ◌+◌, ◌-◌, ◌<◌, ◌≤◌, true, eqb, ◌≢◌, List, [], ◌∷◌, ◌++◌, length, drop, set, Ok, Err, decimal, Result, sym, refl, ap, ◌∙◌, subst, append_assoc, arith, length-drop}
use Rattle.std.specs.List.{flat_map, AllByRecursion}
use Rattle.std.proofs.ByRecursion.{All-weaker}
use Rattle.std.proofs.lemmas.List.{length-append, length-set}
use Rattle.std.proofs.lemmas.Bool.{eqb-true, both_ways, not-false}
use Rattle.field.specs.Sums.{weights_of}
use Rattle.field.specs.declared.Element.{Element}
use Rattle.query.specs.declared.faults.NumberFault.{NumberFault}
use Rattle.query.specs.declared.faults.ItemFault.{ItemFault}
use Rattle.query.specs.declared.faults.ItemFault.TheVariants.{NoSpace, Number, Repeated}
use Rattle.query.specs.declared.faults.LineFault.{LineFault}
use Rattle.query.specs.declared.faults.LineFault.TheVariants.{Item}
use Rattle.query.specs.declared.numbers.Numeral.{Numeral}
use Rattle.query.specs.declared.items.Limits.{Limits}
use Rattle.query.specs.declared.items.Item.{Item as ItemOf}
use Rattle.query.specs.declared.items.Weights.{Weights}
use Rattle.query.specs.declared.lines.Request.{Request}
use Rattle.query.specs.Refusals.{item_refusal}
use Rattle.query.specs.Numbers.{place, stands_at, digits, read_number}
use Rattle.query.specs.Items.{code, no_weights, names, then, of_item, weighed, read_item_lem, items_in, read_items_lem}
use Rattle.query.specs.Lines.{of_line}
use Rattle.query.specs.Grammar.{Entry, member, weight, text, Named, with_weights}
use Rattle.query.specs.Firsts.{NoNumber}
use Rattle.query.proofs.Bytes.{stands-front}
use Rattle.query.proofs.ItemChecks.{unnamed_zero, item_ok, item_moves}
use Rattle.query.proofs.LineChecks.{rows}
use Rattle.query.proofs.Soundness.{Was, weighed_was, apart}
use Rattle.query.proofs.Stops.{split, err_same, no_err, cond_err, then_err, of_item_err, of_line_err}
use Rattle.query.proofs.NumberFaults.{Bad, Again, again_bad, same_again, number_again, number_bad, spaced_bad, spaced_again, member_read}

-- a bad number that is the first thing in what is left of a line: a member, or the weight of a member that the row has not
pub data NumberHere (lim : Limits) (row : List Element) (rest : List ℕ) (j : ℕ) : Type 0 where
  member_here : (t : List ℕ) → rest ≡ 32 ∷ t → NoNumber 0 lim.members t → j ≡ 1 → NumberHere lim row rest j
  weight_here :
      (m : ℕ) (t : List ℕ) → rest ≡ 32 ∷ (decimal m ++ (58 ∷ t)) → m < lim.members → weights_of row m ≡ 0 → NoNumber 1 lim.size t
      → j ≡ length (decimal m) + 2 → NumberHere lim row rest j

-- the same of a member that the row has
pub record AgainHere (row : List Element) (rest : List ℕ) (j : ℕ) : Type 0 where
  pub again : ℕ
  pub behind : List ℕ
  pub is : rest ≡ 32 ∷ (decimal again ++ behind)
  pub whole : digits behind ≡ []
  pub named : weights_of row again ≢ 0
  pub place_is : j ≡ 1

-- the fault of what follows a member is that of its weight
weight_fault :
    (lim : Limits) (line : List ℕ) (m : Numeral) (f : ItemFault) → weighed lim line m ≡ Err f
    → (stands_at line m.after.0 58 ≡ true)
    × ((g : NumberFault) × ((read_number 1 lim.size line (m.after.0 + 1) ≡ Err g) × (Number g ≡ f)))
weight_fault lim line m f e =
    let weight = of_item (read_number 1 lim.size line (m.after.0 + 1)) in
    let with_weight : Numeral → Result ItemOf ItemFault =
    λ w. Ok (record { member = record { 0 = m.value }; weight = code w.value; after = w.after }) in
    split
    (cond_err (stands_at line m.after.0 58) (then weight with_weight)
    (Ok (record { member = record { 0 = m.value }; weight = code 1; after = m.after })) f e)
    (λ c.
    split (then_err weight with_weight f c.1)
    (λ w. let g = of_item_err (read_number 1 lim.size line (m.after.0 + 1)) f w in (c.0, (g.0, (g.1, g.2))))
    (λ w. no_err _ f w.2))
    (λ c. no_err _ f c.1)

module _ (lim : Limits) (few : lim.members ≤ 64) (size : lim.size ≤ 65536) (line : List ℕ) (q : ℕ) where
  pub item_bad :
      (row : List Element) (p : ℕ) (f : ItemFault) → read_item_lem lim row line p ≡ Err f → Bad q (item_refusal f)
      → (j : ℕ) × ((q ≡ p + j) × NumberHere lim row (drop p line) j)
  unfolding read_item_lem
  item_bad row p f e u =
      split (then_err _ _ f e)
      (λ h. let s = spaced_bad lim.members line p q f (omega arith) h u in (1, (s.1.0, member_here (drop (p + 1) line) s.0 s.1.1 refl)))
      (λ h.
      let m : Numeral = h.0 in
      let s = member_read lim.members line p m h.1 in
      split (cond_err (names row m.value) (Err (Repeated m.start)) (weighed lim line m) f h.2)
      (λ k. again_bad m.start.0 q (ap item_refusal (err_same (Repeated m.start) f k.1) ∙ u))
      (λ k.
      let g = weight_fault lim line m f k.1 in
      let n = number_bad 1 lim.size line (m.after.0 + 1) q g.1.0 size g.1.1.0 (ap item_refusal g.1.1.1 ∙ u) in
      let colon = stands-front line m.after.0 58 g.0 in
      let after = s.after_is in
      let at = n.0 in (
        length (decimal m.value) + 2,
        (
          omega arith,
          weight_here m.value (drop (m.after.0 + 1) line) (s.is ∙ ap (λ t. 32 ∷ (decimal m.value ++ t)) colon) s.below
              (eqb-true _ _ (not-false _ k.0)) n.1 refl,
        ),
      )))

  pub item_again :
      (row : List Element) (p : ℕ) (f : ItemFault) → read_item_lem lim row line p ≡ Err f → Again q (item_refusal f)
      → (j : ℕ) × ((q ≡ p + j) × AgainHere row (drop p line) j)
  unfolding read_item_lem
  item_again row p f e u =
      split (then_err _ _ f e) (λ h. spaced_again lim.members line p q f h u)
      (λ h.
      let m : Numeral = h.0 in
      let s = member_read lim.members line p m h.1 in
      split (cond_err (names row m.value) (Err (Repeated m.start)) (weighed lim line m) f h.2)
      (λ k.
      let at : q ≡ m.start.0 = same_again m.start.0 q (ap item_refusal (err_same (Repeated m.start) f k.1) ∙ u) in (
        1,
        (
          at ∙ s.start_is,
          record {
            again = m.value;
            behind = drop m.after.0 line;
            is = s.is;
            whole = s.ends;
            named = λ z. both_ways _ (unnamed_zero row m.value z) k.0;
            place_is = refl;
          },
        ),
      ))
      (λ k. let g = weight_fault lim line m f k.1 in number_again q g.1.0 (ap item_refusal g.1.1.1 ∙ u)))

-- the fault of a line of a row is that of its items
pub rows_fault :
    (make : Weights → Request) (lim : Limits) (line : List ℕ) (f : LineFault) → rows make (read_items_lem lim no_weights line 1) ≡ Err f
    → (g : ItemFault) × ((read_items_lem lim no_weights line 1 ≡ Err g) × (Item g ≡ f))
unfolding rows
rows_fault make lim line f e =
    split (then_err (of_line (read_items_lem lim no_weights line 1)) (λ row. Ok (make row)) f e)
    (λ h. let g = of_line_err (read_items_lem lim no_weights line 1) f h in (g.0, (g.1, g.2))) (λ h. no_err _ f h.2)

-- what is found at an item holds of a whole row: some entries in order, and then an item that is at fault
module _ (lim : Limits) (few : lim.members ≤ 64) (line : List ℕ) (q : ℕ) (Told : ItemFault → Type 0)
    (Here : List Element → List ℕ → ℕ → Type 0)
    (never : (p : ℕ) → Told (NoSpace (place p)) → ⊥)
    (found :
    (row : List Element) (p : ℕ) (f : ItemFault) → read_item_lem lim row line p ≡ Err f → Told f
    → (j : ℕ) × ((q ≡ p + j) × Here row (drop p line) j)) where
  pub record After (row : List Element) (p : ℕ) : Type 0 where
    pub entries : List Entry
    pub tail : List ℕ
    pub at : ℕ
    pub named : Named lim entries
    pub fresh : AllByRecursion (λ f. weights_of row (member f) ≡ 0) entries
    pub is : drop p line ≡ flat_map text entries ++ tail
    pub place_is : q ≡ p + (length (flat_map text entries) + at)
    pub here : Here (with_weights row entries) tail at

  added :
      (row : List Element) (p : ℕ) (i : ItemOf) (m : ℕ) → length row ≡ 64 → m < 64 → weights_of row m ≡ 0 → p < i.after.0
      → i.after.0 ≤ length line → Was lim line p i m → After (set row i.member.0 i.weight) i.after.0 → After row p
  added row p i m long below unset on within w b =
      let e : Entry = w.entry in
      let set_is : set row i.member.0 i.weight ≡ set row (member e) (code (weight e)) =
      ap (λ k. set row k i.weight) (w.member_is ∙ sym w.of_member) ∙ ap (set row (member e)) w.weight_is in
      let clean : AllByRecursion (λ f. weights_of (set row (member e) (code (weight e))) (member f) ≡ 0) b.entries =
      subst (λ r. AllByRecursion (λ f. weights_of r (member f) ≡ 0) b.entries) set_is b.fresh in
      let in_row : member e < length row = let o = w.of_member in omega arith in
      let both = All-weaker _ _ (apart row (member e) (weight e) in_row w.some) b.entries clean in
      let n = ap length w.is ∙ length-append (text e) (drop i.after.0 line) in
      let k = length-drop p line in
      let l = length-drop i.after.0 line in
      let z = length-append (text e) (flat_map text b.entries) in
      let y = b.place_is in
      record {
        entries = e ∷ b.entries;
        tail = b.tail;
        at = b.at;
        named =
            record {
              in_range = (w.in_range, b.named.in_range);
              apart = (All-weaker _ (λ f. member f ≢ member e) (λ f h. h.0) b.entries both, b.named.apart);
            };
        fresh = (ap (weights_of row) w.of_member ∙ unset, All-weaker _ (λ f. weights_of row (member f) ≡ 0) (λ f h. h.1) b.entries both);
        is = w.is ∙ ap (λ u. text e ++ u) b.is ∙ sym (append_assoc (text e) (flat_map text b.entries) b.tail);
        place_is = omega arith;
        here = subst (λ r. Here (with_weights r b.entries) b.tail b.at) set_is b.here;
      }

  items_after :
      (turns : ℕ) (row : List Element) (p : ℕ) (f : ItemFault) → length row ≡ 64 → items_in turns lim row line p ≡ Err f → Told f
      → After row p
  items_after zero row p f long e t = absurd (never p (subst Told (sym (err_same _ _ e)) t))
  items_after (suc turns) row p f long e t =
      split (then_err _ _ f e)
      (λ k.
      let h = found row p f k t in
      record {
        entries = [];
        tail = drop p line;
        at = h.0;
        named = record { in_range = tt; apart = tt };
        fresh = tt;
        is = refl;
        place_is = let z = h.1.0 in omega arith;
        here = h.1.1;
      })
      (λ k.
      let i : ItemOf = k.0 in
      let r = item_ok lim row line p i k.1 in
      let w = weighed_was lim line p r.member i r.found r.item in
      let m = item_moves lim row line p i k.1 in
      let below : r.member.value < 64 = let a = m.2 in let b = w.member_is in omega arith in
      split
      (cond_err (eqb i.after.0 (length line)) (Ok (record { 0 = set row i.member.0 i.weight }))
      (items_in turns lim (set row i.member.0 i.weight) line i.after.0) f k.2)
      (λ l. no_err _ f l.1)
      (λ l.
      added row p i r.member.value long below r.unnamed m.0 m.1 w
      (items_after turns (set row i.member.0 i.weight) i.after.0 f (length-set row _ _ ∙ long) l.1 t)))

  pub rows_after :
      (make : Weights → Request) (f : LineFault) → ((g : ItemFault) → Item g ≡ f → Told g)
      → rows make (read_items_lem lim no_weights line 1) ≡ Err f → After no_weights 1
  unfolding read_items_lem
  rows_after make f told e =
      let g = rows_fault make lim line f e in
      items_after (length line - 1) no_weights 1 g.0 refl g.1.0 (told g.0 g.1.1)
