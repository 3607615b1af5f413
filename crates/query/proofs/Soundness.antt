-- What is accepted spells its request. Assumes nothing.
use Rattle.std.proofs.Common.{◌≡◌, ℕ, zero, suc, ◌+◌, ◌-◌, ◌<◌, ◌≤◌, eqb, ◌≢◌, ◌⊎◌, List, [], ◌∷◌, ◌++◌, length, drop, set, Some, Ok, Err, decimal, Result, sym, refl, ap, ◌∙◌, subst, inl, inr, ⊎_elim, append_assoc, arith}
use Rattle.std.specs.List.{flat_map, AllByRecursion}
use Rattle.std.proofs.lemmas.List.{append-nil, drop_all, length-set, get_or-set_same, get_or-set_other}
use Rattle.std.proofs.ByRecursion.{All-weaker}
use Rattle.std.proofs.lemmas.Bool.{cases_Bool, cases_eq, cases_lt, eqb-true, ltb-false, cond-true, cond-false}
use Rattle.field.specs.Sums.{weights_of}
use Rattle.field.specs.declared.Element.{Element}
use Rattle.query.specs.declared.faults.ItemFault.{ItemFault}
use Rattle.query.specs.declared.numbers.Numeral.{Numeral}
use Rattle.query.specs.declared.items.Limits.{Limits}
use Rattle.query.specs.declared.items.Item.{Item}
use Rattle.query.specs.declared.items.Weights.{Weights}
use Rattle.query.specs.declared.lines.Request.{Request}
use Rattle.query.specs.declared.lines.Request.TheVariants.{Ask, Try, Witness, Remark}
use Rattle.query.specs.Items.{code, no_weights, read_spaced_lem, items_in, read_items_lem}
use Rattle.query.specs.Lines.{read_witness_lem, by_kind, reading}
use Rattle.query.specs.Grammar.{Entry, alone, weighted, member, weight, text, InRange, Named, with_weights, Spells, ask, try, witness, remark, Accepted}
use Rattle.query.proofs.Bytes.{stands-front}
use Rattle.query.proofs.Checks.{ok_same, past_fault, number_ok}
use Rattle.query.proofs.Decimals.{was_decimal}
use Rattle.query.proofs.ItemChecks as items
use Rattle.query.proofs.ItemChecks.{Weighed, then_ok, spaced_ok, item_ok, item_moves}
use Rattle.query.proofs.LineChecks.{of_line_ok, rows, kind-ask, kind-try, kind-witness, kind_none, reading-remark, reading_long, reading-short}

pub spaced_was :
    (limit : ℕ) (line : List ℕ) (p : ℕ) (x : Numeral) → read_spaced_lem limit line p ≡ Ok x
    → (drop p line ≡ (32 ∷ decimal x.value) ++ drop x.after.0 line) × (x.value < limit)
spaced_was limit line p x e =
    let s = spaced_ok limit line p x e in (
      stands-front line p 32 s.0 ∙ ap (λ u. 32 ∷ u) (was_decimal 0 limit line (p + 1) x s.1),
      (number_ok 0 limit line (p + 1) x s.1).high,
    )

-- an item that was read, as an entry
pub record Was (lim : Limits) (line : List ℕ) (p : ℕ) (i : Item) (m : ℕ) : Type 0 where
  pub entry : Entry
  pub is : drop p line ≡ text entry ++ drop i.after.0 line
  pub in_range : InRange lim entry
  pub of_member : member entry ≡ m
  pub member_is : i.member.0 ≡ m
  pub weight_is : i.weight ≡ code (weight entry)
  pub some : 0 < weight entry

pub weighed_was :
    (lim : Limits) (line : List ℕ) (p : ℕ) (m : Numeral) (i : Item) → read_spaced_lem lim.members line p ≡ Ok m
    → Weighed lim line m i → Was lim line p i m.value
weighed_was lim line p m i e (items.plain f) =
    let s = spaced_was lim.members line p m e in
    record {
      entry = alone m.value;
      is = s.0;
      in_range = s.1;
      of_member = refl;
      member_is = refl;
      weight_is = refl;
      some = omega arith;
    }
weighed_was lim line p m i e (items.weighted t w n) =
    let s = spaced_was lim.members line p m e in
    let r = number_ok 1 lim.size line (m.after.0 + 1) w n in
    let d = was_decimal 1 lim.size line (m.after.0 + 1) w n in
    let c = stands-front line m.after.0 58 t in
    record {
      entry = weighted m.value w.value;
      is =
          s.0
          ∙ ap (λ u. 32 ∷ (decimal m.value ++ u)) (c ∙ ap (λ u. 58 ∷ u) d)
          ∙ ap (λ u. 32 ∷ u) (sym (append_assoc (decimal m.value) (58 ∷ decimal w.value) (drop w.after.0 line)));
      in_range = (s.1, r.low, r.high);
      of_member = refl;
      member_is = refl;
      weight_is = refl;
      some = let l = r.low in omega arith;
    }

-- items that were read, as entries of members that the row did not name
record Entries (lim : Limits) (row : List Element) (rest : List ℕ) (final : List Element) : Type 0 where
  first : Entry
  others : List Entry
  is : rest ≡ flat_map text (first ∷ others)
  named : Named lim (first ∷ others)
  fresh : AllByRecursion (λ f. weights_of row (member f) ≡ 0) (first ∷ others)
  final_is : final ≡ with_weights row (first ∷ others)

-- a member unnamed after a weight was set is another one, and was unnamed before
pub apart :
    (row : List Element) (m w : ℕ) → m < length row → 0 < w → (f : Entry) → weights_of (set row m (code w)) (member f) ≡ 0
    → (member f ≢ m) × (weights_of row (member f) ≡ 0)
apart row m w h s f z =
    let other : member f ≢ m =
    λ e.
    let k : weights_of (set row m (code w)) m ≡ 0 = ap (weights_of (set row m (code w))) (sym e) ∙ z in
    let same = ap (λ x. x.0) (get_or-set_same row m (code w) (code 0) h) in omega arith in
    (other, ap (λ x. x.0) (sym (get_or-set_other row m (member f) (code w) (code 0) other)) ∙ z)

entered :
    (lim : Limits) (row : List Element) (line : List ℕ) (p : ℕ) (i : Item) (m : ℕ) (final : List Element) → length row ≡ 64
    → m < 64 → weights_of row m ≡ 0 → (w : Was lim line p i m)
    → ((drop i.after.0 line ≡ []) × (final ≡ set row i.member.0 i.weight))
    ⊎ Entries lim (set row i.member.0 i.weight) (drop i.after.0 line) final
    → Entries lim row (drop p line) final
entered lim row line p i m final long below unnamed w (inl last) =
    record {
      first = w.entry;
      others = [];
      is = w.is ∙ ap (λ u. text w.entry ++ u) last.0;
      named = record { in_range = (w.in_range, tt); apart = (tt, tt) };
      fresh = (ap (weights_of row) w.of_member ∙ unnamed, tt);
      final_is =
          last.1 ∙ ap (λ k. set row k i.weight) (w.member_is ∙ sym w.of_member) ∙ ap (set row (member w.entry)) w.weight_is;
    }
entered lim row line p i m final long below unnamed w (inr more) =
    let set_is : set row i.member.0 i.weight ≡ set row (member w.entry) (code (weight w.entry)) =
    ap (λ k. set row k i.weight) (w.member_is ∙ sym w.of_member) ∙ ap (set row (member w.entry)) w.weight_is in
    let es : List Entry = more.first ∷ more.others in
    let clean : AllByRecursion (λ f. weights_of (set row (member w.entry) (code (weight w.entry))) (member f) ≡ 0) es =
    subst (λ r. AllByRecursion (λ f. weights_of r (member f) ≡ 0) es) set_is more.fresh in
    let at : member w.entry < length row = let o = w.of_member in omega arith in
    let both = All-weaker _ _ (apart row (member w.entry) (weight w.entry) at w.some) es clean in
    record {
      first = w.entry;
      others = es;
      is = w.is ∙ ap (λ u. text w.entry ++ u) more.is;
      named =
          record {
            in_range = (w.in_range, more.named.in_range);
            apart = (All-weaker _ (λ f. member f ≢ member w.entry) (λ f h. h.0) es both, more.named.apart);
          };
      fresh = (ap (weights_of row) w.of_member ∙ unnamed, All-weaker _ (λ f. weights_of row (member f) ≡ 0) (λ f h. h.1) es both);
      final_is = more.final_is ∙ ap (λ r. with_weights r es) set_is;
    }

module _ (lim : Limits) (few : lim.members ≤ 64) (line : List ℕ) where
  items_were :
      (turns : ℕ) (row : List Element) (p : ℕ) (ws : Weights) → length row ≡ 64 → items_in turns lim row line p ≡ Ok ws
      → Entries lim row (drop p line) ws.0
  items_were zero row p ws long e = absurd (let z : ◌≡◌ {A = ℕ} 0 1 = cc in omega arith)
  items_were (suc turns) row p ws long e =
      let k = then_ok _ _ ws e in
      let i : Item = k.0 in
      let r = item_ok lim row line p i k.1 in
      let w = weighed_was lim line p r.member i r.found r.item in
      let m = item_moves lim row line p i k.1 in
      let below : r.member.value < 64 = let a = m.2 in let b = w.member_is in omega arith in
      entered lim row line p i r.member.value ws.0 long below r.unnamed w
      (⊎_elim
      (λ t.
      inl (
        drop_all i.after.0 line (let z = eqb-true i.after.0 (length line) t in omega arith),
        ap (λ x. x.0) (sym (ok_same _ _ (sym (cond-true _ _ _ t) ∙ k.2))),
      ))
      (λ f.
      inr
      (items_were turns (set row i.member.0 i.weight) i.after.0 ws (length-set row _ _ ∙ long)
      (sym (cond-false _ _ _ f) ∙ k.2)))
      (cases_Bool (eqb i.after.0 (length line))))

  rows_were :
      (p : ℕ) (ws : Weights) → read_items_lem lim no_weights line p ≡ Ok ws → Entries lim no_weights (drop p line) ws.0
  unfolding read_items_lem
  rows_were p ws e = items_were (length line - p) no_weights p ws refl e

rows_ok :
    (make : Weights → Request) (r : Result Weights ItemFault) (q : Request) → rows make r ≡ Ok q
    → (ws : Weights) × (r ≡ Ok ws) × (make ws ≡ q)
unfolding rows
rows_ok make r q e = let k = then_ok _ _ q e in (k.0, of_line_ok r k.0 k.1, ok_same _ _ k.2)

no_fault : {A E : Type 0} (f : E) (x : A) → ◌≡◌ {A = Result A E} (Err f) (Ok x) → ⊥
no_fault f x e = let z : ◌≡◌ {A = ℕ} 0 1 = cc in omega arith

module _ (lim : Limits) (few : lim.members ≤ 64) where
  witness_was : (b : ℕ) (bs : List ℕ) (q : Request) → b ≡ 119 → read_witness_lem lim (b ∷ bs) 1 ≡ Ok q → Spells lim (b ∷ bs) q
  unfolding read_witness_lem
  witness_was b bs q is e =
      let k = then_ok _ _ q e in
      let l = then_ok _ _ q k.2 in
      let m : Numeral = k.0 in
      let x : Numeral = l.0 in
      let end = past_fault _ _ _ q l.2 in
      let s = spaced_was lim.members (b ∷ bs) 1 m (of_line_ok _ _ k.1) in
      let t = spaced_was lim.size (b ∷ bs) m.after.0 x (of_line_ok _ _ l.1) in
      let none : drop x.after.0 (b ∷ bs) ≡ [] =
      drop_all x.after.0 (b ∷ bs) (ltb-false x.after.0 (length (b ∷ bs)) end.0) in
      let rest : bs ≡ (32 ∷ decimal m.value) ++ (32 ∷ decimal x.value) =
      s.0 ∙ ap (λ u. (32 ∷ decimal m.value) ++ u) (t.0 ∙ ap (λ u. (32 ∷ decimal x.value) ++ u) none ∙ append-nil _) in
      let whole : 119 ∷ ((32 ∷ decimal m.value) ++ (32 ∷ decimal x.value)) ≡ b ∷ bs = cc in
      let here : Spells lim (b ∷ bs) (Witness (record { 0 = m.value }) (code x.value)) =
      subst (λ line. Spells lim line (Witness (record { 0 = m.value }) (code x.value))) whole (witness m.value x.value s.1 t.1) in
      subst (Spells lim (b ∷ bs)) (ok_same _ _ end.1) here

  ask_was : (b : ℕ) (bs : List ℕ) (q : Request) → b ≡ 97 → rows Ask (read_items_lem lim no_weights (b ∷ bs) 1) ≡ Ok q → Spells lim (b ∷ bs) q
  ask_was b bs q is e =
      let k = rows_ok Ask _ q e in
      let r = rows_were lim few (b ∷ bs) 1 k.0 k.1 in
      let whole : 97 ∷ flat_map text (r.first ∷ r.others) ≡ b ∷ bs = let j = r.is in cc in
      let row : Ask (record { 0 = with_weights no_weights (r.first ∷ r.others) }) ≡ q =
      ap (λ x. Ask (record { 0 = x })) (sym r.final_is) ∙ k.2 in
      subst (Spells lim (b ∷ bs)) row
      (subst (λ line. Spells lim line (Ask (record { 0 = with_weights no_weights (r.first ∷ r.others) }))) whole (ask r.first r.others r.named))

  try_was : (b : ℕ) (bs : List ℕ) (q : Request) → b ≡ 116 → rows Try (read_items_lem lim no_weights (b ∷ bs) 1) ≡ Ok q → Spells lim (b ∷ bs) q
  try_was b bs q is e =
      let k = rows_ok Try _ q e in
      let r = rows_were lim few (b ∷ bs) 1 k.0 k.1 in
      let whole : 116 ∷ flat_map text (r.first ∷ r.others) ≡ b ∷ bs = let j = r.is in cc in
      let row : Try (record { 0 = with_weights no_weights (r.first ∷ r.others) }) ≡ q =
      ap (λ x. Try (record { 0 = x })) (sym r.final_is) ∙ k.2 in
      subst (Spells lim (b ∷ bs)) row
      (subst (λ line. Spells lim line (Try (record { 0 = with_weights no_weights (r.first ∷ r.others) }))) whole (try r.first r.others r.named))

  kind_was : (b : ℕ) (bs : List ℕ) (q : Request) → by_kind b lim (b ∷ bs) ≡ Ok q → Spells lim (b ∷ bs) q
  kind_was b bs q e =
      ⊎_elim (λ a. ask_was b bs q a (sym (kind-ask lim b (b ∷ bs) a) ∙ e))
      (λ a.
      ⊎_elim (λ t. try_was b bs q t (sym (kind-try lim b (b ∷ bs) t) ∙ e))
      (λ t.
      ⊎_elim (λ w. witness_was b bs q w (sym (kind-witness lim b (b ∷ bs) w) ∙ e))
      (λ w. absurd (no_fault _ q (sym (kind_none lim b (b ∷ bs) a t w) ∙ e))) (cases_eq b 119))
      (cases_eq b 116))
      (cases_eq b 97)

  pub sound : (line : List ℕ) (q : Request) → reading lim line ≡ Ok q → Accepted lim line q
  unfolding reading
  sound [] q e = absurd (no_fault _ q e)
  sound (b ∷ bs) q e =
      ⊎_elim
      (λ r.
      let same : Remark ≡ q = ok_same _ _ (sym (reading-remark lim (b ∷ bs) b refl r) ∙ e) in
      let here : Spells lim (b ∷ bs) Remark = subst (λ c. Spells lim (c ∷ bs) Remark) (sym r) (remark bs) in
      record { spells = subst (Spells lim (b ∷ bs)) same here; short = λ n. absurd (n (ap Some r)) })
      (λ r.
      ⊎_elim (λ long. absurd (no_fault _ q (sym (reading_long lim (b ∷ bs) b refl r long) ∙ e)))
      (λ short.
      record { spells = kind_was b bs q (sym (reading-short lim (b ∷ bs) b refl r short) ∙ e); short = λ _. short })
      (cases_lt 640 (length (b ∷ bs))))
      (cases_eq b 35)
