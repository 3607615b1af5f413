-- The items of a line, from what their reader finds. A limit, a weight or a place that the code names is an argument, with the
-- equation that says which it has to be. Assumes nothing.
use Rattle.std.proofs.Common.{◌≡◌, ℕ, zero, suc, ◌+◌, ◌-◌, ◌<◌, ◌≤◌, true, false, cond, eqb, List, length, set, Ok, Err, Result, sym, refl, ap, ◌∙◌, subst, ⊎_elim, arith}
use Rattle.std.proofs.lemmas.Bool.{cases_Bool, cases_lt, cond-true, cond-false, eq-eqb, ne_eqb, eqb-true, not-false, not_from_true}
use Rattle.field.specs.Sums.{weights_of}
use Rattle.field.specs.declared.Element.{Element}
use Rattle.refusal.specs.declared.BytePlace.{BytePlace}
use Rattle.query.specs.declared.faults.NumberFault.{NumberFault}
use Rattle.query.specs.declared.faults.ItemFault.{ItemFault}
use Rattle.query.specs.declared.faults.ItemFault.TheVariants.{NoSpace, Number, Repeated}
use Rattle.query.specs.declared.numbers.Numeral.{Numeral}
use Rattle.query.specs.declared.items.Limits.{Limits}
use Rattle.query.specs.declared.items.Item.{Item}
use Rattle.query.specs.declared.items.Weights.{Weights}
use Rattle.query.specs.Numbers.{place, is_byte, stands_at, read_number}
use Rattle.query.specs.Items.{code, names, then, of_item, read_spaced_lem, weighed, read_item_lem, items_in, read_items_lem}
use Rattle.query.proofs.Bytes.{byte_past}
use Rattle.query.proofs.Checks.{past_fault, before_fault, ok_same, number_ok, number_moves}

pub unnamed_zero : (row : List Element) (m : ℕ) → weights_of row m ≡ 0 → names row m ≡ false
unnamed_zero row m z = not_from_true _ (eq-eqb _ _ z)

-- a byte stands only within the line
pub stands-within : (line : List ℕ) (p b : ℕ) → stands_at line p b ≡ true → p < length line
stands-within line p b t =
    ⊎_elim (λ h. h) (λ h. absurd (let k : false ≡ true = rw (byte_past line p h) at t in let z : ◌≡◌ {A = ℕ} 0 1 = cc in omega arith))
    (cases_lt p (length line))

of_item_ok : {A : Type 0} (r : Result A NumberFault) (x : A) → of_item r ≡ Ok x → r ≡ Ok x
of_item_ok (Ok y) x e = ap Ok (ok_same _ _ e)
of_item_ok (Err f) x e = absurd (let z : ◌≡◌ {A = ℕ} 0 1 = cc in omega arith)

pub then_ok : {A B E : Type 0} (r : Result A E) (k : A → Result B E) (y : B) → then r k ≡ Ok y → (x : A) × (r ≡ Ok x) × (k x ≡ Ok y)
then_ok (Ok x) k y e = (x, refl, e)
then_ok (Err f) k y e = absurd (let z : ◌≡◌ {A = ℕ} 0 1 = cc in omega arith)

module _ (limit : ℕ) (line : List ℕ) (p : ℕ) where
  pub spaced_none : stands_at line p 32 ≡ false → read_spaced_lem limit line p ≡ Err (NoSpace (place p))
  unfolding read_spaced_lem
  spaced_none f = cond-false _ _ _ f

  pub spaced-some : stands_at line p 32 ≡ true → read_spaced_lem limit line p ≡ of_item (read_number 0 limit line (p + 1))
  unfolding read_spaced_lem
  spaced-some t = cond-true _ _ _ t

  pub spaced_ok : (x : Numeral) → read_spaced_lem limit line p ≡ Ok x → (stands_at line p 32 ≡ true) × (read_number 0 limit line (p + 1) ≡ Ok x)
  unfolding read_spaced_lem
  spaced_ok x e = let h = before_fault _ _ _ x e in (h.0, of_item_ok _ x h.1)

  pub spaced_moves : (x : Numeral) → read_spaced_lem limit line p ≡ Ok x → (p < x.after.0) × (x.after.0 ≤ length line) × (x.value < limit)
  spaced_moves x e =
      let n = (spaced_ok x e).1 in
      let m = number_moves 0 limit line (p + 1) x n in (omega arith, m.1, (number_ok 0 limit line (p + 1) x n).high)

-- the item of a member: of weight 1, or of the weight after its colon
pub data Weighed (lim : Limits) (line : List ℕ) (m : Numeral) : Item → Type 0 where
  plain :
      stands_at line m.after.0 58 ≡ false
      → Weighed lim line m (record { member = record { 0 = m.value }; weight = code 1; after = m.after })
  weighted :
      stands_at line m.after.0 58 ≡ true → (w : Numeral) → read_number 1 lim.size line (m.after.0 + 1) ≡ Ok w
      → Weighed lim line m (record { member = record { 0 = m.value }; weight = code w.value; after = w.after })

module _ (lim : Limits) (line : List ℕ) (m : Numeral) where
  pub weighed-plain :
      {weight : ℕ} (one : weight ≡ 1) → stands_at line m.after.0 58 ≡ false
      → weighed lim line m ≡ Ok (record { member = record { 0 = m.value }; weight = code weight; after = m.after })
  weighed-plain one f =
      cond-false _ _ _ f ∙ ap (λ w. Ok (record { member = record { 0 = m.value }; weight = code w; after = m.after })) (sym one)

  colon : Result Numeral NumberFault → Result Item ItemFault
  colon r = then (of_item r) (λ w. Ok (record { member = record { 0 = m.value }; weight = code w.value; after = w.after }))

  -- the weight read after a colon, as its reader was asked for it
  from_one :
      {least : ℕ} {r : Result Numeral NumberFault} → least ≡ 1 → read_number least lim.size line (m.after.0 + 1) ≡ r
      → read_number 1 lim.size line (m.after.0 + 1) ≡ r
  from_one one e = ap (λ l. read_number l lim.size line (m.after.0 + 1)) (sym one) ∙ e

  pub weighed_fault :
      (f : NumberFault) {least : ℕ} (one : least ≡ 1) → stands_at line m.after.0 58 ≡ true
      → read_number least lim.size line (m.after.0 + 1) ≡ Err f → weighed lim line m ≡ Err (Number f)
  unfolding colon
  weighed_fault f one t e = cond-true _ _ _ t ∙ ap colon (from_one one e)

  pub weighed_more :
      (w : Numeral) {least : ℕ} (one : least ≡ 1) → stands_at line m.after.0 58 ≡ true
      → read_number least lim.size line (m.after.0 + 1) ≡ Ok w
      → weighed lim line m ≡ Ok (record { member = record { 0 = m.value }; weight = code w.value; after = w.after })
  unfolding colon
  weighed_more w one t e = cond-true _ _ _ t ∙ ap colon (from_one one e)

  pub weighed_ok : (i : Item) → weighed lim line m ≡ Ok i → Weighed lim line m i
  unfolding colon
  weighed_ok i e =
      ⊎_elim
      (λ t.
      let k = then_ok _ _ i (sym (cond-true _ _ _ t) ∙ e) in
      subst (Weighed lim line m) (ok_same _ _ k.2) (weighted t k.0 (of_item_ok _ _ k.1)))
      (λ f. subst (Weighed lim line m) (ok_same _ _ (sym (cond-false _ _ _ f) ∙ e)) (plain f))
      (cases_Bool (stands_at line m.after.0 58))

module _ (lim : Limits) (row : List Element) (line : List ℕ) (p : ℕ) where
  after_member : Numeral → Result Item ItemFault
  after_member m = cond (names row m.value) (Err (Repeated m.start)) (weighed lim line m)

  pub item_fault : (f : ItemFault) → read_spaced_lem lim.members line p ≡ Err f → read_item_lem lim row line p ≡ Err f
  unfolding read_item_lem after_member
  item_fault f e = ap (λ r. then r after_member) e

  pub item_repeated :
      (m : Numeral) {start : BytePlace} → start ≡ m.start → read_spaced_lem lim.members line p ≡ Ok m → names row m.value ≡ true
      → read_item_lem lim row line p ≡ Err (Repeated start)
  unfolding read_item_lem after_member
  item_repeated m s e n = ap (λ r. then r after_member) e ∙ cond-true _ _ _ n ∙ ap (λ q. Err (Repeated q)) (sym s)

  pub item_weighed :
      (m : Numeral) → read_spaced_lem lim.members line p ≡ Ok m → names row m.value ≡ false
      → read_item_lem lim row line p ≡ weighed lim line m
  unfolding read_item_lem after_member
  item_weighed m e z = ap (λ r. then r after_member) e ∙ cond-false _ _ _ z

  pub record ItemRead (i : Item) : Type 0 where
    pub member : Numeral
    pub found : read_spaced_lem lim.members line p ≡ Ok member
    pub unnamed : weights_of row member.value ≡ 0
    pub item : Weighed lim line member i

  pub item_ok : (i : Item) → read_item_lem lim row line p ≡ Ok i → ItemRead i
  unfolding read_item_lem after_member
  item_ok i e =
      let k = then_ok _ _ i e in
      let h = past_fault _ _ _ i k.2 in
      record { member = k.0; found = k.1; unnamed = eqb-true _ _ (not-false _ h.0); item = weighed_ok lim line k.0 i h.1 }

moved :
    (lim : Limits) (line : List ℕ) (p : ℕ) (m : Numeral) (i : Item) → read_spaced_lem lim.members line p ≡ Ok m → Weighed lim line m i
    → (p < i.after.0) × (i.after.0 ≤ length line) × (i.member.0 < lim.members)
moved lim line p m i e (plain f) = spaced_moves lim.members line p m e
moved lim line p m i e (weighted t w n) =
    let a = spaced_moves lim.members line p m e in
    let b = number_moves 1 lim.size line (m.after.0 + 1) w n in
    (let x = a.0 in let y = b.0 in omega arith, b.1, a.2)

-- an item ends after its start, within the line, and names a member below the limit
pub item_moves :
    (lim : Limits) (row : List Element) (line : List ℕ) (p : ℕ) (i : Item) → read_item_lem lim row line p ≡ Ok i
    → (p < i.after.0) × (i.after.0 ≤ length line) × (i.member.0 < lim.members)
item_moves lim row line p i e =
    let r = item_ok lim row line p i e in moved lim line p r.member i r.found r.item

-- no item stands at the line's end
pub item_past : (lim : Limits) (row : List Element) (line : List ℕ) (p : ℕ) → length line ≤ p → read_item_lem lim row line p ≡ Err (NoSpace (place p))
item_past lim row line p h =
    item_fault lim row line p _ (spaced_none lim.members line p (ap (is_byte 32) (byte_past line p h)))

then_same :
    {A B E : Type 0} (r : Result A E) (j k : A → Result B E) → ((x : A) → r ≡ Ok x → j x ≡ k x) → then r j ≡ then r k
then_same (Ok x) j k h = h x refl
then_same (Err f) j k h = refl

-- what follows an item: the line's end, or more items
module _ (lim : Limits) (line : List ℕ) where
  pub next : ℕ → List Element → Item → Result Weights ItemFault
  next turns row i =
      cond (eqb i.after.0 (length line)) (Ok (record { 0 = set row i.member.0 i.weight }))
      (items_in turns lim (set row i.member.0 i.weight) line i.after.0)

  -- turns enough are as good as any more
  enough :
      (j k : ℕ) (row : List Element) (p : ℕ) → length line - p ≤ j → length line - p ≤ k
      → items_in j lim row line p ≡ items_in k lim row line p
  unfolding next
  enough zero zero row p h g = refl
  enough zero (suc k) row p h g = sym (ap (λ r. then r (next k row)) (item_past lim row line p (omega arith)))
  enough (suc j) zero row p h g = ap (λ r. then r (next j row)) (item_past lim row line p (omega arith))
  enough (suc j) (suc k) row p h g =
      then_same (read_item_lem lim row line p) (next j row) (next k row)
      (λ i e.
      let m = (item_moves lim row line p i e).0 in
      ap (λ r. cond (eqb i.after.0 (length line)) (Ok (record { 0 = set row i.member.0 i.weight })) r)
      (enough j k (set row i.member.0 i.weight) i.after.0 (omega arith) (omega arith)))

module _ (lim : Limits) (row : List Element) (line : List ℕ) (p : ℕ) where
  pub onward : Item → Result Weights ItemFault
  onward i =
      cond (eqb i.after.0 (length line)) (Ok (record { 0 = set row i.member.0 i.weight }))
      (read_items_lem lim (set row i.member.0 i.weight) line i.after.0)

  pub items_unroll : read_items_lem lim row line p ≡ then (read_item_lem lim row line p) onward
  unfolding read_items_lem next onward
  items_unroll =
      enough lim line (length line - p) (suc (length line - p)) row p (omega arith) (omega arith)
      ∙ then_same (read_item_lem lim row line p) (next lim line (length line - p) row) onward
      (λ i e.
      let m = (item_moves lim row line p i e).0 in
      ap (λ r. cond (eqb i.after.0 (length line)) (Ok (record { 0 = set row i.member.0 i.weight })) r)
      (enough lim line (length line - p) (length line - i.after.0) (set row i.member.0 i.weight) i.after.0 (omega arith) (omega arith)))

  pub items_fault : (f : ItemFault) → read_item_lem lim row line p ≡ Err f → read_items_lem lim row line p ≡ Err f
  items_fault f e = items_unroll ∙ ap (λ r. then r onward) e

  pub items_last :
      (i : Item) → read_item_lem lim row line p ≡ Ok i → i.after.0 ≡ length line
      → read_items_lem lim row line p ≡ Ok (record { 0 = set row i.member.0 i.weight })
  unfolding onward
  items_last i e h = items_unroll ∙ ap (λ r. then r onward) e ∙ cond-true _ _ _ (eq-eqb _ _ h)

  pub items_more :
      (i : Item) → read_item_lem lim row line p ≡ Ok i → (i.after.0 ≡ length line → ⊥)
      → read_items_lem lim row line p ≡ read_items_lem lim (set row i.member.0 i.weight) line i.after.0
  unfolding onward
  items_more i e h = items_unroll ∙ ap (λ r. then r onward) e ∙ cond-false _ _ _ (ne_eqb _ _ h)
