-- At the place of an 18 the line leaves every line of the grammar. Assumes nothing.
use Rattle.std.proofs.Common.{◌≡◌, ℕ, suc, ◌+◌, ◌<◌, ◌≤◌, Bool, true, false, cond, ◌⊎◌, List, [], ◌∷◌, ◌++◌, length, get_or, take, drop, Some, None, Ok, decimal, Result, sym, refl, ap, ◌∙◌, subst, inl, ⊎_elim, append_assoc, arith}
use Rattle.std.specs.Char.{is_ascii_digit}
use Rattle.std.specs.List.{flat_map, AllByRecursion}
use Rattle.std.proofs.lemmas.List.{append-nil, drop-drop, length-append, length-take-le, take_at, take-append-drop, get_or_append_left}
use Rattle.std.proofs.lemmas.Bool.{cases_Bool}
use Rattle.query.specs.declared.faults.LineFault.{LineFault}
use Rattle.query.specs.declared.numbers.Numeral.{Numeral}
use Rattle.query.specs.declared.items.Limits.{Limits}
use Rattle.query.specs.declared.items.Item.{Item}
use Rattle.query.specs.declared.lines.Request.{Request}
use Rattle.query.specs.Numbers.{head, is_byte, byte_at, stands_at, digits, read_number}
use Rattle.query.specs.Items.{read_spaced_lem}
use Rattle.query.specs.Lines.{reading}
use Rattle.query.specs.Grammar.{Entry, alone, weighted, text}
use Rattle.query.specs.Shape.{Short, Shaped, ask, try, witness, remark}
use Rattle.query.specs.Laws.{Parts}
use Rattle.query.proofs.Bytes.{byte_within, front-stands}
use Rattle.query.proofs.Decimals.{wrote, digits_decimal_then, decimal_not_nil}
use Rattle.query.proofs.ItemChecks as items
use Rattle.query.proofs.ItemChecks.{Weighed, spaced_ok}
use Rattle.query.proofs.Completeness.{Ends, ends_digits, ends_colon, ends_joined, left}
use Rattle.query.proofs.Stops.{SpacedStop, no_space, no_digit, ItemsStop, spaced, no_weight, later, WitnessStop, first, second, not_ended, LineStop, empty, no_kind, in_row, in-witness, line_stop}
use Rattle.query.proofs.Begins.{spaced_ge, items_ge, viable}

-- two lines with the same bytes up to a place and at it
abbrev Agree : List ℕ → List ℕ → ℕ → Type 0
Agree line zs q = (k : ℕ) → k ≤ q → byte_at zs k ≡ byte_at line k

clash : {X : Type 0} (t : Bool) → t ≡ true → t ≡ false → X
clash t a b = absurd (let e : true ≡ false = sym a ∙ b in let z : ◌≡◌ {A = ℕ} 0 1 = cc in omega arith)

digits_same : (xs ys : List ℕ) → ((k : ℕ) → k ≤ length (digits xs) → byte_at ys k ≡ byte_at xs k) → digits ys ≡ digits xs
digits_same [] [] h = refl
digits_same [] (c ∷ cs) h = absurd (let e = h 0 (omega arith) in let z : ◌≡◌ {A = ℕ} 0 1 = cc in omega arith)
digits_same (b ∷ bs) [] h = absurd (let e = h 0 (omega arith) in let z : ◌≡◌ {A = ℕ} 0 1 = cc in omega arith)
digits_same (b ∷ bs) (c ∷ cs) h =
    let e = h 0 (omega arith) in
    let same : c ≡ b = cc in
    ⊎_elim
    (λ t.
    let n : length (digits (b ∷ bs)) ≡ suc (length (digits bs)) = rw t in
    let r = digits_same bs cs (λ k l. h (suc k) (omega arith)) in
    ap (λ x. digits (x ∷ cs)) same ∙ ap (λ u. cond u (b ∷ digits cs) []) t ∙ ap (λ u. b ∷ u) r
    ∙ sym (ap (λ u. cond u (b ∷ digits bs) []) t))
    (λ f.
    ap (λ x. digits (x ∷ cs)) same ∙ ap (λ u. cond u (b ∷ digits cs) []) f ∙ sym (ap (λ u. cond u (b ∷ digits bs) []) f))
    (cases_Bool (is_ascii_digit b))

no_end : (line zs : List ℕ) (q k : ℕ) → Agree line zs q → k ≤ q → k < length line → drop k zs ≡ [] → ⊥
no_end line zs q k agree h within e =
    let a = sym (ap head e) ∙ agree k h ∙ byte_within line k within in let z : ◌≡◌ {A = ℕ} 0 1 = cc in omega arith

module _ (line zs : List ℕ) (q : ℕ) (agree : Agree line zs q) where
  digits-agree : (p : ℕ) → p + length (digits (drop p line)) ≤ q → digits (drop p zs) ≡ digits (drop p line)
  digits-agree p h =
      digits_same (drop p line) (drop p zs)
      (λ k l. ap head (drop-drop k p zs) ∙ agree (p + k) (omega arith) ∙ sym (ap head (drop-drop k p line)))

  stands-agree : (p b : ℕ) → p ≤ q → stands_at zs p b ≡ stands_at line p b
  stands-agree p b h = ap (is_byte b) (agree p h)

  -- no digit in the line, and a number in the other
  no_number :
      (p v : ℕ) (rest : List ℕ) → p ≤ q → digits (drop p line) ≡ [] → v < 100000 → digits rest ≡ [] → drop p zs ≡ decimal v ++ rest → ⊥
  no_number p v rest h none small ends e =
      let n = ap length none in
      decimal_not_nil v small
      (sym (digits_decimal_then v rest small ends) ∙ sym (ap digits e) ∙ digits-agree p (omega arith) ∙ none)

  -- a number in both is the same one
  number-agree :
      (least limit p : ℕ) (x : Numeral) → read_number least limit line p ≡ Ok x → x.after.0 ≤ q → (v : ℕ) (rest : List ℕ) → v < 100000
      → digits rest ≡ [] → drop p zs ≡ decimal v ++ rest → drop x.after.0 zs ≡ rest
  number-agree least limit p x found h v rest small ends e =
      let w = wrote least limit line p x found in
      let n = ap length w.digits_are in
      let a = w.after_is in
      let d : decimal v ≡ decimal x.value =
      sym (digits_decimal_then v rest small ends) ∙ sym (ap digits e) ∙ digits-agree p (omega arith) ∙ w.digits_are in
      let m = ap length d in
      left zs p x.after.0 (decimal v) rest e (omega arith)

  after_space : (p : ℕ) (bs : List ℕ) (b : ℕ) → drop p zs ≡ b ∷ bs → drop (p + 1) zs ≡ bs
  after_space p bs b e = left zs p (p + 1) (b ∷ []) bs e refl

  spaced-agree :
      (limit p : ℕ) (m : Numeral) → read_spaced_lem limit line p ≡ Ok m → m.after.0 ≤ q → (v : ℕ) (rest : List ℕ) → v < 100000
      → digits rest ≡ [] → drop p zs ≡ (32 ∷ decimal v) ++ rest → drop m.after.0 zs ≡ rest
  spaced-agree limit p m found h v rest small ends e =
      number-agree 0 limit (p + 1) m (spaced_ok limit line p m found).1 h v rest small ends (after_space p (decimal v ++ rest) 32 e)

spaced_part :
    (line zs : List ℕ) (p q : ℕ) → Agree line zs q → SpacedStop line p q → (v : ℕ) (rest : List ℕ) → v < 100000 → digits rest ≡ []
    → drop p zs ≡ (32 ∷ decimal v) ++ rest → ⊥
spaced_part line zs p q agree (no_space f) v rest small ends e =
    clash (stands_at zs p 32) (front-stands zs p 32 (decimal v ++ rest) e) (stands-agree line zs p agree p 32 (omega arith) ∙ f)
spaced_part line zs p q agree (no_digit t n) v rest small ends e =
    no_number line zs (p + 1) agree (p + 1) v rest (omega arith) n small ends (after_space line zs (p + 1) agree p (decimal v ++ rest) 32 e)

-- an entry and what follows it, from its number on
colon_split : (zs : List ℕ) (p v w : ℕ) (rest : List ℕ) → drop p zs ≡ text (weighted v w) ++ rest → drop p zs ≡ (32 ∷ decimal v) ++ (58 ∷ (decimal w ++ rest))
colon_split zs p v w rest e = e ∙ ap (λ u. 32 ∷ u) (append_assoc (decimal v) (58 ∷ decimal w) rest)

-- an item read from the line ends where the other's first entry does
item_agree :
    (lim : Limits) (line zs : List ℕ) (p q : ℕ) → Agree line zs q → (m : Numeral) (i : Item) → read_spaced_lem lim.members line p ≡ Ok m
    → Weighed lim line m i → m.after.0 ≤ q → i.after.0 ≤ q → (e : Entry) (rest : List ℕ) → Short e → Ends rest
    → drop p zs ≡ text e ++ rest → drop i.after.0 zs ≡ rest
item_agree lim line zs p q agree m i found (items.plain f) hm hi (alone v) rest small ends is =
    spaced-agree line zs q agree lim.members p m found hm v rest small (ends_digits rest ends) is
item_agree lim line zs p q agree m i found (items.plain f) hm hi (weighted v w) rest small ends is =
    let at = spaced-agree line zs q agree lim.members p m found hm v (58 ∷ (decimal w ++ rest)) small.0 refl (colon_split zs p v w rest is) in
    clash (stands_at zs m.after.0 58) (front-stands zs m.after.0 58 (decimal w ++ rest) at)
    (stands-agree line zs q agree m.after.0 58 hm ∙ f)
item_agree lim line zs p q agree m i found (items.weighted t x n) hm hi (alone v) rest small ends is =
    let at = spaced-agree line zs q agree lim.members p m found hm v rest small (ends_digits rest ends) is in
    clash (stands_at zs m.after.0 58) (stands-agree line zs q agree m.after.0 58 hm ∙ t) (ends_colon zs m.after.0 rest at ends)
item_agree lim line zs p q agree m i found (items.weighted t x n) hm hi (weighted v w) rest small ends is =
    let at = spaced-agree line zs q agree lim.members p m found hm v (58 ∷ (decimal w ++ rest)) small.0 refl (colon_split zs p v w rest is) in
    number-agree line zs q agree 1 lim.size (m.after.0 + 1) x n hi w rest small.1 (ends_digits rest ends)
    (after_space line zs q agree m.after.0 (decimal w ++ rest) 58 at)

-- where the member ends is not after the item
member-first : (lim : Limits) (line : List ℕ) (m : Numeral) (i : Item) → Weighed lim line m i → m.after.0 ≤ i.after.0
member-first lim line m i (items.plain f) = omega arith
member-first lim line m i (items.weighted t x n) = let a = (wrote 1 lim.size line (m.after.0 + 1) x n).after_is in omega arith

entry_part :
    (line zs : List ℕ) (p q : ℕ) → Agree line zs q → SpacedStop line p q → (e : Entry) (rest : List ℕ) → Short e → Ends rest
    → drop p zs ≡ text e ++ rest → ⊥
entry_part line zs p q agree s (alone v) rest small ends is = spaced_part line zs p q agree s v rest small (ends_digits rest ends) is
entry_part line zs p q agree s (weighted v w) rest small ends is =
    spaced_part line zs p q agree s v (58 ∷ (decimal w ++ rest)) small.0 refl (colon_split zs p v w rest is)

colon_part :
    (limit : ℕ) (line zs : List ℕ) (p : ℕ) (m : Numeral) → Agree line zs (m.after.0 + 1) → read_spaced_lem limit line p ≡ Ok m
    → stands_at line m.after.0 58 ≡ true → digits (drop (m.after.0 + 1) line) ≡ [] → (e : Entry) (rest : List ℕ) → Short e → Ends rest
    → drop p zs ≡ text e ++ rest → ⊥
colon_part limit line zs p m agree found t n (alone v) rest small ends is =
    let at = spaced-agree line zs (m.after.0 + 1) agree limit p m found (omega arith) v rest small (ends_digits rest ends) is in
    clash (stands_at zs m.after.0 58) (stands-agree line zs (m.after.0 + 1) agree m.after.0 58 (omega arith) ∙ t)
    (ends_colon zs m.after.0 rest at ends)
colon_part limit line zs p m agree found t n (weighted v w) rest small ends is =
    let at =
    spaced-agree line zs (m.after.0 + 1) agree limit p m found (omega arith) v (58 ∷ (decimal w ++ rest)) small.0 refl
    (colon_split zs p v w rest is) in
    no_number line zs (m.after.0 + 1) agree (m.after.0 + 1) w rest (omega arith) n small.1 (ends_digits rest ends)
    (after_space line zs (m.after.0 + 1) agree m.after.0 (decimal w ++ rest) 58 at)

items_part :
    (lim : Limits) (line zs : List ℕ) (p q : ℕ) → ItemsStop lim line p q → Agree line zs q → (e : Entry) (es : List Entry)
    → AllByRecursion Short (e ∷ es) → drop p zs ≡ flat_map text (e ∷ es) → ⊥
items_part lim line zs p q (spaced s) agree e es short is = entry_part line zs p q agree s e (flat_map text es) short.0 (ends_joined es) is
items_part lim line zs p q (no_weight m found t n) agree e es short is =
    colon_part lim.members line zs p m agree found t n e (flat_map text es) short.0 (ends_joined es) is
items_part lim line zs p q (later m i found w h s) agree e [] short is =
    let g = items_ge lim line i.after.0 q s in
    let f = member-first lim line m i w in
    no_end line zs q i.after.0 agree g h
    (item_agree lim line zs p q agree m i found w (omega arith) g e [] short.0 (inl refl) is)
items_part lim line zs p q (later m i found w h s) agree e (d ∷ ds) short is =
    let g = items_ge lim line i.after.0 q s in
    let f = member-first lim line m i w in
    items_part lim line zs i.after.0 q s agree d ds short.1
    (item_agree lim line zs p q agree m i found w (omega arith) g e (flat_map text (d ∷ ds)) short.0 (ends_joined (d ∷ ds)) is)

witness_part :
    (lim : Limits) (line zs : List ℕ) (q : ℕ) → WitnessStop lim line q → Agree line zs q → (m e : ℕ) → m < 100000 → e < 100000
    → drop 1 zs ≡ (32 ∷ decimal m) ++ (32 ∷ decimal e) → ⊥
witness_part lim line zs q (first s) agree m e small-m small-e is = spaced_part line zs 1 q agree s m (32 ∷ decimal e) small-m refl is
witness_part lim line zs q (second x found s) agree m e small-m small-e is =
    let g = spaced_ge line x.after.0 q s in
    let at = spaced-agree line zs q agree lim.members 1 x found g m (32 ∷ decimal e) small-m refl is in
    spaced_part line zs x.after.0 q agree s e [] small-e refl (at ∙ sym (append-nil (32 ∷ decimal e)))
witness_part lim line zs q (not_ended x y found next h) agree m e small-m small-e is =
    let a = (items.spaced_moves lim.size line x.after.0 y next).0 in
    let at = spaced-agree line zs y.after.0 agree lim.members 1 x found (omega arith) m (32 ∷ decimal e) small-m refl is in
    let end =
    spaced-agree line zs y.after.0 agree lim.size x.after.0 y next (omega arith) e [] small-e refl (at ∙ sym (append-nil (32 ∷ decimal e))) in
    no_end line zs y.after.0 y.after.0 agree (omega arith) h end

same_first : (a b : ℕ) → Some a ≡ Some b → b ≡ a
same_first a b e = cc

row_part : (lim : Limits) (b : ℕ) (bs zs : List ℕ) (q : ℕ) → (b ≡ 97) ⊎ (b ≡ 116) → ItemsStop lim (b ∷ bs) 1 q → Agree (b ∷ bs) zs q → Shaped zs → ⊥
row_part lim b bs zs q k s agree (ask e es short) = items_part lim (b ∷ bs) zs 1 q s agree e es short refl
row_part lim b bs zs q k s agree (try e es short) = items_part lim (b ∷ bs) zs 1 q s agree e es short refl
row_part lim b bs zs q k s agree (witness m e small-m small-e) =
    let z = same_first 119 b (agree 0 (omega arith)) in ⊎_elim (λ a. omega arith) (λ t. omega arith) k
row_part lim b bs zs q k s agree (remark cs) =
    let z = same_first 35 b (agree 0 (omega arith)) in ⊎_elim (λ a. omega arith) (λ t. omega arith) k

witness-line_part : (lim : Limits) (b : ℕ) (bs zs : List ℕ) (q : ℕ) → b ≡ 119 → WitnessStop lim (b ∷ bs) q → Agree (b ∷ bs) zs q → Shaped zs → ⊥
witness-line_part lim b bs zs q k s agree (ask e es short) = let z = same_first 97 b (agree 0 (omega arith)) in omega arith
witness-line_part lim b bs zs q k s agree (try e es short) = let z = same_first 116 b (agree 0 (omega arith)) in omega arith
witness-line_part lim b bs zs q k s agree (witness m e small-m small-e) = witness_part lim (b ∷ bs) zs q s agree m e small-m small-e refl
witness-line_part lim b bs zs q k s agree (remark cs) = let z = same_first 35 b (agree 0 (omega arith)) in omega arith

kind_part : (b : ℕ) (bs zs : List ℕ) → (b ≡ 97 → ⊥) → (b ≡ 116 → ⊥) → (b ≡ 119 → ⊥) → (b ≡ 35 → ⊥) → Agree (b ∷ bs) zs 0 → Shaped zs → ⊥
kind_part b bs zs a t w r agree (ask e es short) = a (same_first 97 b (agree 0 (omega arith)))
kind_part b bs zs a t w r agree (try e es short) = t (same_first 116 b (agree 0 (omega arith)))
kind_part b bs zs a t w r agree (witness m e small-m small-e) = w (same_first 119 b (agree 0 (omega arith)))
kind_part b bs zs a t w r agree (remark cs) = r (same_first 35 b (agree 0 (omega arith)))

some_first : (a : ℕ) → Some a ≡ None → ⊥
some_first a e = let z : ◌≡◌ {A = ℕ} 0 1 = cc in omega arith

empty_part : (zs : List ℕ) → Agree [] zs 0 → Shaped zs → ⊥
empty_part zs agree (ask e es short) = some_first 97 (agree 0 (omega arith))
empty_part zs agree (try e es short) = some_first 116 (agree 0 (omega arith))
empty_part zs agree (witness m e small-m small-e) = some_first 119 (agree 0 (omega arith))
empty_part zs agree (remark cs) = some_first 35 (agree 0 (omega arith))

parting : (lim : Limits) (line zs : List ℕ) (q : ℕ) → LineStop lim line q → Agree line zs q → Shaped zs → ⊥
parting lim line zs q empty agree shaped = empty_part zs agree shaped
parting lim line zs q (no_kind b bs a t w r) agree shaped = kind_part b bs zs a t w r agree shaped
parting lim line zs q (in_row b bs k s) agree shaped = row_part lim b bs zs q k s agree shaped
parting lim line zs q (in-witness b bs k s) agree shaped = witness-line_part lim b bs zs q k s agree shaped

-- what begins as the line does up to a place and at it
agree-front : (line : List ℕ) (q : ℕ) → q < length line → (more : List ℕ) → Agree line (take (q + 1) line ++ more) q
agree-front line q within more k h =
    let front : List ℕ = take (q + 1) line in
    let n : length front ≡ q + 1 = length-take-le (q + 1) line (omega arith) in
    let l = length-append front more in
    let whole : front ++ drop (q + 1) line ≡ line = take-append-drop (q + 1) line in
    byte_within (front ++ more) k (omega arith)
    ∙ ap Some (get_or_append_left front more 0 k (omega arith) ∙ sym (get_or_append_left front (drop (q + 1) line) 0 k (omega arith)) ∙ ap (λ u. get_or u k 0) whole)
    ∙ sym (byte_within line k (omega arith))

pub parts : (lim : Limits) (line : List ℕ) (r : Result Request LineFault) → r ≡ reading lim line → Parts line r
parts lim line r is f q e u =
    let s = line_stop lim line q f (sym is ∙ e) u in
    let v = viable lim line q s in
    let n = ap length v.is ∙ length-append v.front v.tail in
    let z = v.size in
    record {
      within = omega arith;
      begins = (v.more, subst (λ x. Shaped (x ++ v.more)) (sym (ap (take q) v.is ∙ take_at v.front v.tail q v.size)) v.shaped);
      no_further = λ h more shaped. parting lim line (take (q + 1) line ++ more) q s (agree-front line q h more) shaped;
      not_whole = λ h shaped. parting lim line line q s (λ k l. refl) shaped;
    }
