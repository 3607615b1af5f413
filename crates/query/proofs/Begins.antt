-- Up to the place of an 18 the line begins a line of the grammar. Assumes nothing.
use Rattle.std.proofs.Common.{◌≡◌, ℕ, ◌+◌, ◌-◌, ◌<◌, ◌≤◌, ◌⊎◌, List, [], ◌∷◌, ◌++◌, length, drop, Ok, decimal, sym, refl, ap, ◌∙◌, subst, inl, inr, append_assoc, arith}
use Rattle.std.specs.List.{flat_map, AllByRecursion}
use Rattle.std.proofs.lemmas.List.{append-nil, length-append}
use Rattle.query.specs.declared.numbers.Numeral.{Numeral}
use Rattle.query.specs.declared.items.Limits.{Limits}
use Rattle.query.specs.declared.items.Item.{Item}
use Rattle.query.specs.Items.{read_spaced_lem}
use Rattle.query.specs.Grammar.{Entry, alone, weighted, text}
use Rattle.query.specs.Shape.{Short, Shaped, ask, try, witness, remark}
use Rattle.query.proofs.Bytes.{stands-front}
use Rattle.query.proofs.Decimals.{wrote}
use Rattle.query.proofs.ItemChecks as items
use Rattle.query.proofs.ItemChecks.{Weighed, spaced_ok}
use Rattle.query.proofs.Stops.{SpacedStop, no_space, no_digit, ItemsStop, spaced, no_weight, later, WitnessStop, first, second, not_ended, LineStop, empty, no_kind, in_row, in-witness}

-- what is left of the line, in two parts, of which the first begins some items
pub record Begun (rest : List ℕ) (k : ℕ) : Type 0 where
  pub front : List ℕ
  pub tail : List ℕ
  pub is : rest ≡ front ++ tail
  pub size : length front ≡ k
  pub more : List ℕ
  pub first_entry : Entry
  pub entries : List Entry
  pub short : AllByRecursion Short (first_entry ∷ entries)
  pub spell : front ++ more ≡ flat_map text (first_entry ∷ entries)

-- a space and a number that were read
pub record Spaced (line : List ℕ) (p : ℕ) (m : Numeral) : Type 0 where
  pub is : drop p line ≡ (32 ∷ decimal m.value) ++ drop m.after.0 line
  pub small : m.value < 100000
  pub after_is : m.after.0 ≡ p + 1 + length (decimal m.value)

pub spaced_wrote : (limit : ℕ) (line : List ℕ) (p : ℕ) (m : Numeral) → read_spaced_lem limit line p ≡ Ok m → Spaced line p m
spaced_wrote limit line p m e =
    let s = spaced_ok limit line p m e in
    let w = wrote 0 limit line (p + 1) m s.1 in
    record { is = stands-front line p 32 s.0 ∙ ap (λ u. 32 ∷ u) w.is; small = w.small; after_is = w.after_is }

spaced_begun : (line : List ℕ) (p q : ℕ) → SpacedStop line p q → Begun (drop p line) (q - p)
spaced_begun line p q (no_space f) =
    record {
      front = [];
      tail = drop p line;
      is = refl;
      size = omega arith;
      more = (32 ∷ decimal 0) ++ [];
      first_entry = alone 0;
      entries = [];
      short = (omega arith, tt);
      spell = refl;
    }
spaced_begun line p q (no_digit t n) =
    record {
      front = 32 ∷ [];
      tail = drop (p + 1) line;
      is = stands-front line p 32 t;
      size = omega arith;
      more = decimal 0 ++ [];
      first_entry = alone 0;
      entries = [];
      short = (omega arith, tt);
      spell = refl;
    }

-- an item that was read, as an entry, and where it ends
record WroteItem (line : List ℕ) (p : ℕ) (i : Item) : Type 0 where
  entry : Entry
  short : Short entry
  is : drop p line ≡ text entry ++ drop i.after.0 line
  after_is : i.after.0 ≡ p + length (text entry)

item_wrote :
    (lim : Limits) (line : List ℕ) (p : ℕ) (m : Numeral) (i : Item) → read_spaced_lem lim.members line p ≡ Ok m → Weighed lim line m i
    → WroteItem line p i
item_wrote lim line p m i e (items.plain f) =
    let s = spaced_wrote lim.members line p m e in
    let a = s.after_is in
    record { entry = alone m.value; short = s.small; is = s.is; after_is = omega arith }
item_wrote lim line p m i e (items.weighted t w n) =
    let s = spaced_wrote lim.members line p m e in
    let x = wrote 1 lim.size line (m.after.0 + 1) w n in
    let c = stands-front line m.after.0 58 t in
    let a = s.after_is in
    let b = x.after_is in
    let l = length-append (decimal m.value) (58 ∷ decimal w.value) in
    record {
      entry = weighted m.value w.value;
      short = (s.small, x.small);
      is =
          s.is ∙ ap (λ u. 32 ∷ (decimal m.value ++ u)) (c ∙ ap (λ u. 58 ∷ u) x.is)
          ∙ ap (λ u. 32 ∷ u) (sym (append_assoc (decimal m.value) (58 ∷ decimal w.value) (drop w.after.0 line)));
      after_is = omega arith;
    }

-- a stop is never before the place where reading began
pub spaced_ge : (line : List ℕ) (p q : ℕ) → SpacedStop line p q → p ≤ q
spaced_ge line p q (no_space f) = omega arith
spaced_ge line p q (no_digit t n) = omega arith

pub items_ge : (lim : Limits) (line : List ℕ) (p q : ℕ) → ItemsStop lim line p q → p ≤ q
items_ge lim line p q (spaced s) = spaced_ge line p q s
items_ge lim line p q (no_weight m e t n) = let a = (spaced_wrote lim.members line p m e).after_is in omega arith
items_ge lim line p q (later m i e w h s) =
    let a = (item_wrote lim line p m i e w).after_is in
    let b = items_ge lim line i.after.0 q s in omega arith

pub items_begun : (lim : Limits) (line : List ℕ) (p q : ℕ) → ItemsStop lim line p q → Begun (drop p line) (q - p)
items_begun lim line p q (spaced s) = spaced_begun line p q s
items_begun lim line p q (no_weight m e t n) =
    let s = spaced_wrote lim.members line p m e in
    let c = stands-front line m.after.0 58 t in
    let l = length-append (32 ∷ decimal m.value) (58 ∷ []) in
    let a = s.after_is in
    record {
      front = (32 ∷ decimal m.value) ++ (58 ∷ []);
      tail = drop (m.after.0 + 1) line;
      is =
          s.is ∙ ap (λ u. (32 ∷ decimal m.value) ++ u) c
          ∙ sym (append_assoc (32 ∷ decimal m.value) (58 ∷ []) (drop (m.after.0 + 1) line));
      size = omega arith;
      more = decimal 0 ++ [];
      first_entry = weighted m.value 0;
      entries = [];
      short = ((s.small, omega arith), tt);
      spell =
          append_assoc (32 ∷ decimal m.value) (58 ∷ []) (decimal 0 ++ [])
          ∙ sym (append_assoc (32 ∷ decimal m.value) (58 ∷ decimal 0) []);
    }
items_begun lim line p q (later m i e w h s) =
    let x = item_wrote lim line p m i e w in
    let b = items_begun lim line i.after.0 q s in
    let l = length-append (text x.entry) b.front in
    let a = x.after_is in
    let z = b.size in
    let g = items_ge lim line i.after.0 q s in
    record {
      front = text x.entry ++ b.front;
      tail = b.tail;
      is = x.is ∙ ap (λ u. text x.entry ++ u) b.is ∙ sym (append_assoc (text x.entry) b.front b.tail);
      size = omega arith;
      more = b.more;
      first_entry = x.entry;
      entries = b.first_entry ∷ b.entries;
      short = (x.short, b.short);
      spell = append_assoc (text x.entry) b.front b.more ∙ ap (λ u. text x.entry ++ u) b.spell;
    }

-- the line up to a place, and what would make it a line of the grammar
pub record Viable (line : List ℕ) (q : ℕ) : Type 0 where
  pub front : List ℕ
  pub tail : List ℕ
  pub is : line ≡ front ++ tail
  pub size : length front ≡ q
  pub more : List ℕ
  pub shaped : Shaped (front ++ more)

row-shaped : (b : ℕ) (e : Entry) (es : List Entry) → (b ≡ 97) ⊎ (b ≡ 116) → AllByRecursion Short (e ∷ es) → Shaped (b ∷ flat_map text (e ∷ es))
row-shaped b e es (inl a) h = subst (λ c. Shaped (c ∷ flat_map text (e ∷ es))) (sym a) (ask e es h)
row-shaped b e es (inr t) h = subst (λ c. Shaped (c ∷ flat_map text (e ∷ es))) (sym t) (try e es h)

row_viable : (lim : Limits) (b : ℕ) (bs : List ℕ) (q : ℕ) → (b ≡ 97) ⊎ (b ≡ 116) → ItemsStop lim (b ∷ bs) 1 q → Viable (b ∷ bs) q
row_viable lim b bs q k s =
    let x = items_begun lim (b ∷ bs) 1 q s in
    let g = items_ge lim (b ∷ bs) 1 q s in
    let z = x.size in
    record {
      front = b ∷ x.front;
      tail = x.tail;
      is = ap (λ u. b ∷ u) x.is;
      size = omega arith;
      more = x.more;
      shaped = subst (λ u. Shaped (b ∷ u)) (sym x.spell) (row-shaped b x.first_entry x.entries k x.short);
    }

witness-front :
    (b : ℕ) (bs : List ℕ) (q : ℕ) → b ≡ 119 → (front tail more : List ℕ) (m e : ℕ) → m < 100000 → e < 100000 → bs ≡ front ++ tail
    → length front + 1 ≡ q → front ++ more ≡ (32 ∷ decimal m) ++ (32 ∷ decimal e) → Viable (b ∷ bs) q
witness-front b bs q k front tail more m e small-m small-e is size spell =
    let whole : 119 ∷ ((32 ∷ decimal m) ++ (32 ∷ decimal e)) ≡ (b ∷ front) ++ more = cc in
    record {
      front = b ∷ front;
      tail = tail;
      is = ap (λ u. b ∷ u) is;
      size = omega arith;
      more = more;
      shaped = subst Shaped whole (witness m e small-m small-e);
    }

second_viable :
    (lim : Limits) (b : ℕ) (bs : List ℕ) (m : Numeral) (q : ℕ) → b ≡ 119 → read_spaced_lem lim.members (b ∷ bs) 1 ≡ Ok m
    → SpacedStop (b ∷ bs) m.after.0 q → Viable (b ∷ bs) q
second_viable lim b bs m q k e (no_space f) =
    let s = spaced_wrote lim.members (b ∷ bs) 1 m e in
    let a = s.after_is in
    witness-front b bs m.after.0 k (32 ∷ decimal m.value) (drop m.after.0 (b ∷ bs)) (32 ∷ decimal 0) m.value 0 s.small
    (omega arith) s.is (omega arith) refl
second_viable lim b bs m q k e (no_digit t n) =
    let s = spaced_wrote lim.members (b ∷ bs) 1 m e in
    let a = s.after_is in
    let l = length-append (32 ∷ decimal m.value) (32 ∷ []) in
    let tail : List ℕ = drop (m.after.0 + 1) (b ∷ bs) in
    witness-front b bs (m.after.0 + 1) k ((32 ∷ decimal m.value) ++ (32 ∷ [])) tail (decimal 0) m.value 0 s.small (omega arith)
    (s.is ∙ ap (λ u. (32 ∷ decimal m.value) ++ u) (stands-front (b ∷ bs) m.after.0 32 t)
    ∙ sym (append_assoc (32 ∷ decimal m.value) (32 ∷ []) tail))
    (omega arith) (append_assoc (32 ∷ decimal m.value) (32 ∷ []) (decimal 0))

witness_viable : (lim : Limits) (b : ℕ) (bs : List ℕ) (q : ℕ) → b ≡ 119 → WitnessStop lim (b ∷ bs) q → Viable (b ∷ bs) q
witness_viable lim b bs q k (first (no_space f)) =
    witness-front b bs 1 k [] bs ((32 ∷ decimal 0) ++ (32 ∷ decimal 0)) 0 0 (omega arith) (omega arith) refl (omega arith) refl
witness_viable lim b bs q k (first (no_digit t n)) =
    witness-front b bs 2 k (32 ∷ []) (drop 2 (b ∷ bs)) (decimal 0 ++ (32 ∷ decimal 0)) 0 0 (omega arith) (omega arith)
    (stands-front (b ∷ bs) 1 32 t) (omega arith) refl
witness_viable lim b bs q k (second m e s) = second_viable lim b bs m q k e s
witness_viable lim b bs q k (not_ended m x e d h) =
    let s = spaced_wrote lim.members (b ∷ bs) 1 m e in
    let t = spaced_wrote lim.size (b ∷ bs) m.after.0 x d in
    let a = s.after_is in
    let c = t.after_is in
    let l = length-append (32 ∷ decimal m.value) (32 ∷ decimal x.value) in
    let tail : List ℕ = drop x.after.0 (b ∷ bs) in
    witness-front b bs x.after.0 k ((32 ∷ decimal m.value) ++ (32 ∷ decimal x.value)) tail [] m.value x.value s.small
    t.small
    (s.is ∙ ap (λ u. (32 ∷ decimal m.value) ++ u) t.is
    ∙ sym (append_assoc (32 ∷ decimal m.value) (32 ∷ decimal x.value) tail))
    (omega arith) (append-nil ((32 ∷ decimal m.value) ++ (32 ∷ decimal x.value)))

pub viable : (lim : Limits) (line : List ℕ) (q : ℕ) → LineStop lim line q → Viable line q
viable lim line q empty =
    record { front = []; tail = []; is = refl; size = refl; more = 35 ∷ []; shaped = remark [] }
viable lim line q (no_kind b bs a t w r) =
    record { front = []; tail = b ∷ bs; is = refl; size = refl; more = 35 ∷ []; shaped = remark [] }
viable lim line q (in_row b bs k s) = row_viable lim b bs q k s
viable lim line q (in-witness b bs k s) = witness_viable lim b bs q k s
