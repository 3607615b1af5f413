-- Where a byte is out of place: each way in which reading stops by 18. Assumes nothing.
use Rattle.std.proofs.Common.{◌≡◌, ℕ, zero, suc, ◌+◌, ◌-◌, ◌<◌, ◌≤◌, Bool, true, false, cond, ◌&&◌, eqb, ltb, leb, ◌⊎◌, List, [], ◌∷◌, length, drop, Ok, Err, Result, sym, refl, ap, ◌∙◌, subst, inl, inr, arith}
use Rattle.std.proofs.lemmas.Bool.{cases_eq, eqb-false, ltb-true}
use Rattle.refusal.specs.declared.Refusal.{Refusal}
use Rattle.refusal.specs.declared.Refusal.TheVariants.{UnexpectedByte, BadNumber, MemberRepeated, LineTooLong}
use Rattle.field.specs.declared.Element.{Element}
use Rattle.query.specs.declared.faults.NumberFault.{NumberFault}
use Rattle.query.specs.declared.faults.NumberFault.TheVariants.{LeadingZero, TooManyDigits, OutOfRange}
use Rattle.query.specs.declared.faults.ItemFault.{ItemFault}
use Rattle.query.specs.declared.faults.ItemFault.TheVariants.{Number, Repeated}
use Rattle.query.specs.declared.faults.LineFault.{LineFault}
use Rattle.query.specs.declared.faults.LineFault.TheVariants.{TooLong, Item}
use Rattle.query.specs.declared.numbers.Numeral.{Numeral}
use Rattle.query.specs.declared.items.Limits.{Limits}
use Rattle.query.specs.declared.items.Item.{Item as ItemOf}
use Rattle.query.specs.declared.items.Weights.{Weights}
use Rattle.query.specs.declared.lines.Request.{Request}
use Rattle.query.specs.declared.lines.Request.TheVariants.{Ask, Try}
use Rattle.query.specs.Refusals.{number_refusal, item_refusal, line_refusal}
use Rattle.query.specs.Numbers.{place, is_byte, stands_at, digits, worth, ranged, spelt, read_number}
use Rattle.query.specs.Items.{no_weights, names, then, of_item, read_spaced_lem, weighed, read_item_lem, items_in, read_items_lem}
use Rattle.query.specs.Lines.{of_line, read_witness_lem, by_kind, reading}
use Rattle.query.proofs.Bytes.{byte_past}
use Rattle.query.proofs.ItemChecks.{Weighed, item_ok, item_moves}
use Rattle.query.proofs.LineChecks.{of_line_ok, rows, kind-ask, kind-try, kind-witness, kind_none}

-- by cases, with what is split first
pub split : {A B C : Type 0} → A ⊎ B → (A → C) → (B → C) → C
split (inl a) f g = f a
split (inr b) f g = g b

same_place : (p q : ℕ) → UnexpectedByte (place p) ≡ UnexpectedByte (place q) → q ≡ p
same_place p q e = ap (λ x. x.0) (sym (let same : place p ≡ place q = cc in same))

pub err_same : {A E : Type 0} (f g : E) → ◌≡◌ {A = Result A E} (Err f) (Err g) → f ≡ g
err_same f g e = cc

pub no_err : {A E X : Type 0} (x : A) (f : E) → ◌≡◌ {A = Result A E} (Ok x) (Err f) → X
no_err x f e = absurd (let z : ◌≡◌ {A = ℕ} 0 1 = cc in omega arith)

pub cond_err :
    {A E : Type 0} (t : Bool) (x y : Result A E) (f : E) → cond t x y ≡ Err f
    → ((t ≡ true) × (x ≡ Err f)) ⊎ ((t ≡ false) × (y ≡ Err f))
cond_err true x y f e = inl (refl, e)
cond_err false x y f e = inr (refl, e)

pub then_err :
    {A B E : Type 0} (r : Result A E) (k : A → Result B E) (f : E) → then r k ≡ Err f
    → (r ≡ Err f) ⊎ ((x : A) × (r ≡ Ok x) × (k x ≡ Err f))
then_err (Ok x) k f e = inr (x, refl, e)
then_err (Err g) k f e = inl (ap Err (err_same _ _ e))

pub of_item_err : {A : Type 0} (r : Result A NumberFault) (f : ItemFault) → of_item r ≡ Err f → (g : NumberFault) × (r ≡ Err g) × (Number g ≡ f)
of_item_err (Ok x) f e = no_err x f e
of_item_err (Err g) f e = (g, refl, err_same _ _ e)

pub of_line_err : {A : Type 0} (r : Result A ItemFault) (f : LineFault) → of_line r ≡ Err f → (g : ItemFault) × (r ≡ Err g) × (Item g ≡ f)
of_line_err (Ok x) f e = no_err x f e
of_line_err (Err g) f e = (g, refl, err_same _ _ e)

-- a fault that is at a place by 18
abbrev At : ℕ → Refusal → Type 0
At q r = r ≡ UnexpectedByte (place q)

bad : {A X : Type 0} (p q : ℕ) (g f : NumberFault) → number_refusal g ≡ BadNumber (place p) → ◌≡◌ {A = Result A NumberFault} (Err g) (Err f) → At q (number_refusal f) → X
bad p q g f b e u =
    let same : BadNumber (place p) ≡ UnexpectedByte (place q) = sym b ∙ ap number_refusal (err_same _ _ e) ∙ u in
    absurd (let z : ◌≡◌ {A = ℕ} 0 1 = cc in omega arith)

range_stop :
    {X : Type 0} (least limit p : ℕ) (ds : List ℕ) (q : ℕ) (f : NumberFault) → ranged least limit p ds ≡ Err f → At q (number_refusal f) → X
range_stop least limit p ds q f e u =
    split
    (cond_err (leb least (worth 0 ds) && ltb (worth 0 ds) limit)
    (Ok (record { start = place p; value = worth 0 ds; after = place (p + length ds) })) (Err (OutOfRange (place p))) f e)
    (λ l. no_err _ f l.1) (λ l. bad p q (OutOfRange (place p)) f refl l.1 u)

spelt_stop :
    (least limit p : ℕ) (ds : List ℕ) (q : ℕ) (f : NumberFault) → spelt least limit p ds ≡ Err f → At q (number_refusal f)
    → (q ≡ p) × (ds ≡ [])
spelt_stop least limit p [] q f e u = (same_place p q (ap number_refusal (err_same _ _ e) ∙ u), refl)
spelt_stop least limit p (d ∷ ds) q f e u =
    let long : Result Numeral NumberFault = cond (ltb 5 (length (d ∷ ds))) (Err (TooManyDigits (place p))) (ranged least limit p (d ∷ ds)) in
    split (cond_err (eqb d 48 && ltb 1 (length (d ∷ ds))) (Err (LeadingZero (place p))) long f e)
    (λ h. bad p q (LeadingZero (place p)) f refl h.1 u)
    (λ h.
    split (cond_err (ltb 5 (length (d ∷ ds))) (Err (TooManyDigits (place p))) (ranged least limit p (d ∷ ds)) f h.1)
    (λ k. bad p q (TooManyDigits (place p)) f refl k.1 u) (λ k. range_stop least limit p (d ∷ ds) q f k.1 u))

number_stop :
    (least limit : ℕ) (line : List ℕ) (p q : ℕ) (f : NumberFault) → read_number least limit line p ≡ Err f → At q (number_refusal f)
    → (q ≡ p) × (digits (drop p line) ≡ [])
unfolding read_number
number_stop least limit line p q f e u = spelt_stop least limit p (digits (drop p line)) q f e u

-- no space at a place, or no digit after it
pub data SpacedStop (line : List ℕ) (p : ℕ) : ℕ → Type 0 where
  no_space : stands_at line p 32 ≡ false → SpacedStop line p p
  no_digit : stands_at line p 32 ≡ true → digits (drop (p + 1) line) ≡ [] → SpacedStop line p (p + 1)

spaced_stop :
    (limit : ℕ) (line : List ℕ) (p q : ℕ) (f : ItemFault) → read_spaced_lem limit line p ≡ Err f → At q (item_refusal f) → SpacedStop line p q
unfolding read_spaced_lem
spaced_stop limit line p q f e u =
    split (cond_err _ _ _ f e)
    (λ h.
    let g = of_item_err _ f h.1 in
    let n = number_stop 0 limit line (p + 1) q g.0 g.1 (ap item_refusal g.2 ∙ u) in
    subst (SpacedStop line p) (sym n.0) (no_digit h.0 n.1))
    (λ h. subst (SpacedStop line p) (sym (same_place p q (ap item_refusal (err_same _ _ h.1) ∙ u))) (no_space h.0))

-- an item's own stop, or that of an item after it
pub data ItemsStop (lim : Limits) (line : List ℕ) : ℕ → ℕ → Type 0 where
  spaced : {p q : ℕ} → SpacedStop line p q → ItemsStop lim line p q
  no_weight :
      {p : ℕ} (m : Numeral) → read_spaced_lem lim.members line p ≡ Ok m → stands_at line m.after.0 58 ≡ true
      → digits (drop (m.after.0 + 1) line) ≡ [] → ItemsStop lim line p (m.after.0 + 1)
  later :
      {p q : ℕ} (m : Numeral) (i : ItemOf) → read_spaced_lem lim.members line p ≡ Ok m → Weighed lim line m i
      → i.after.0 < length line → ItemsStop lim line i.after.0 q → ItemsStop lim line p q

weighed_stop :
    (lim : Limits) (line : List ℕ) (p : ℕ) (m : Numeral) (q : ℕ) (f : ItemFault) → read_spaced_lem lim.members line p ≡ Ok m
    → weighed lim line m ≡ Err f → At q (item_refusal f) → ItemsStop lim line p q
weighed_stop lim line p m q f found e u =
    split (cond_err _ _ _ f e)
    (λ c.
    split (then_err _ _ f c.1)
    (λ w.
    let g = of_item_err _ f w in
    let n = number_stop 1 lim.size line (m.after.0 + 1) q g.0 g.1 (ap item_refusal g.2 ∙ u) in
    subst (ItemsStop lim line p) (sym n.0) (no_weight m found c.0 n.1))
    (λ w. no_err _ f w.2))
    (λ c. no_err _ f c.1)

item_stop :
    (lim : Limits) (row : List Element) (line : List ℕ) (p q : ℕ) (f : ItemFault) → read_item_lem lim row line p ≡ Err f
    → At q (item_refusal f) → ItemsStop lim line p q
unfolding read_item_lem
item_stop lim row line p q f e u =
    split (then_err _ _ f e) (λ h. spaced (spaced_stop lim.members line p q f h u))
    (λ h.
    split (cond_err (names row h.0.value) (Err (Repeated h.0.start)) (weighed lim line h.0) f h.2)
    (λ k.
    let same : MemberRepeated h.0.start ≡ UnexpectedByte (place q) =
    ap item_refusal (err_same (Repeated h.0.start) f k.1) ∙ u in
    absurd (let z : ◌≡◌ {A = ℕ} 0 1 = cc in omega arith))
    (λ k. weighed_stop lim line p h.0 q f h.1 k.1 u))

items_in_stop :
    (turns : ℕ) (lim : Limits) (row : List Element) (line : List ℕ) (p q : ℕ) (f : ItemFault) → length line - p ≤ turns
    → items_in turns lim row line p ≡ Err f → At q (item_refusal f) → ItemsStop lim line p q
items_in_stop zero lim row line p q f h e u =
    subst (ItemsStop lim line p) (sym (same_place p q (ap item_refusal (err_same _ _ e) ∙ u)))
    (spaced (no_space (ap (is_byte 32) (byte_past line p (omega arith)))))
items_in_stop (suc turns) lim row line p q f h e u =
    split (then_err _ _ f e) (λ k. item_stop lim row line p q f k u)
    (λ k.
    let i : ItemOf = k.0 in
    let r = item_ok lim row line p i k.1 in
    let m = item_moves lim row line p i k.1 in
    split (cond_err _ _ _ f k.2) (λ l. no_err _ f l.1)
    (λ l.
    let n : i.after.0 ≡ length line → ⊥ = eqb-false _ _ l.0 in
    let a = m.0 in
    let b = m.1 in
    later r.member i r.found r.item (omega arith)
    (items_in_stop turns lim _ line i.after.0 q f (omega arith) l.1 u)))

items_stop :
    (lim : Limits) (row : List Element) (line : List ℕ) (p q : ℕ) (f : ItemFault) → read_items_lem lim row line p ≡ Err f
    → At q (item_refusal f) → ItemsStop lim line p q
unfolding read_items_lem
items_stop lim row line p q f e u = items_in_stop (length line - p) lim row line p q f (omega arith) e u

pub data WitnessStop (lim : Limits) (line : List ℕ) : ℕ → Type 0 where
  first : {q : ℕ} → SpacedStop line 1 q → WitnessStop lim line q
  second : {q : ℕ} (m : Numeral) → read_spaced_lem lim.members line 1 ≡ Ok m → SpacedStop line m.after.0 q → WitnessStop lim line q
  not_ended :
      (m e : Numeral) → read_spaced_lem lim.members line 1 ≡ Ok m → read_spaced_lem lim.size line m.after.0 ≡ Ok e
      → e.after.0 < length line → WitnessStop lim line e.after.0

witness_stop :
    (lim : Limits) (line : List ℕ) (q : ℕ) (f : LineFault) → read_witness_lem lim line 1 ≡ Err f → At q (line_refusal f) → WitnessStop lim line q
unfolding read_witness_lem
witness_stop lim line q f e u =
    split (then_err _ _ f e)
    (λ h. let g = of_line_err _ f h in first (spaced_stop lim.members line 1 q g.0 g.1 (ap line_refusal g.2 ∙ u)))
    (λ h.
    let m : Numeral = h.0 in
    let found = of_line_ok _ _ h.1 in
    split (then_err _ _ f h.2)
    (λ k. let g = of_line_err _ f k in second m found (spaced_stop lim.size line m.after.0 q g.0 g.1 (ap line_refusal g.2 ∙ u)))
    (λ k.
    let x : Numeral = k.0 in
    split (cond_err _ _ _ f k.2)
    (λ l.
    subst (WitnessStop lim line) (sym (same_place x.after.0 q (ap line_refusal (err_same _ _ l.1) ∙ u)))
    (not_ended m x found (of_line_ok _ _ k.1) (ltb-true _ _ l.0)))
    (λ l. no_err _ f l.1)))

-- a line's stop, by its first byte
pub data LineStop (lim : Limits) : List ℕ → ℕ → Type 0 where
  empty : LineStop lim [] 0
  no_kind : (b : ℕ) (bs : List ℕ) → (b ≡ 97 → ⊥) → (b ≡ 116 → ⊥) → (b ≡ 119 → ⊥) → (b ≡ 35 → ⊥) → LineStop lim (b ∷ bs) 0
  in_row : {q : ℕ} (b : ℕ) (bs : List ℕ) → (b ≡ 97) ⊎ (b ≡ 116) → ItemsStop lim (b ∷ bs) 1 q → LineStop lim (b ∷ bs) q
  in-witness : {q : ℕ} (b : ℕ) (bs : List ℕ) → b ≡ 119 → WitnessStop lim (b ∷ bs) q → LineStop lim (b ∷ bs) q

rows_stop :
    (make : Weights → Request) (lim : Limits) (line : List ℕ) (q : ℕ) (f : LineFault)
    → rows make (read_items_lem lim no_weights line 1) ≡ Err f → At q (line_refusal f) → ItemsStop lim line 1 q
unfolding rows
rows_stop make lim line q f e u =
    split (then_err _ _ f e)
    (λ h. let g = of_line_err _ f h in items_stop lim no_weights line 1 q g.0 g.1 (ap line_refusal g.2 ∙ u))
    (λ h. no_err _ f h.2)

kind_stop :
    (lim : Limits) (b : ℕ) (bs : List ℕ) (q : ℕ) (f : LineFault) → (b ≡ 35 → ⊥) → by_kind b lim (b ∷ bs) ≡ Err f
    → At q (line_refusal f) → LineStop lim (b ∷ bs) q
kind_stop lim b bs q f r e u =
    split (cases_eq b 97) (λ a. in_row b bs (inl a) (rows_stop Ask lim (b ∷ bs) q f (sym (kind-ask lim b (b ∷ bs) a) ∙ e) u))
    (λ a.
    split (cases_eq b 116) (λ t. in_row b bs (inr t) (rows_stop Try lim (b ∷ bs) q f (sym (kind-try lim b (b ∷ bs) t) ∙ e) u))
    (λ t.
    split (cases_eq b 119)
    (λ w. in-witness b bs w (witness_stop lim (b ∷ bs) q f (sym (kind-witness lim b (b ∷ bs) w) ∙ e) u))
    (λ w.
    let same : UnexpectedByte (place 0) ≡ UnexpectedByte (place q) =
    ap line_refusal (err_same _ _ (sym (kind_none lim b (b ∷ bs) a t w) ∙ e)) ∙ u in
    subst (LineStop lim (b ∷ bs)) (sym (same_place 0 q same)) (no_kind b bs a t w r))))

pub line_stop :
    (lim : Limits) (line : List ℕ) (q : ℕ) (f : LineFault) → reading lim line ≡ Err f → line_refusal f ≡ UnexpectedByte (place q)
    → LineStop lim line q
unfolding reading
line_stop lim [] q f e u = subst (LineStop lim []) (sym (same_place 0 q (ap line_refusal (err_same _ _ e) ∙ u))) empty
line_stop lim (b ∷ bs) q f e u =
    split (cond_err _ _ _ f e) (λ h. no_err _ f h.1)
    (λ h.
    split (cond_err (ltb 640 (length (b ∷ bs))) (Err TooLong) (by_kind b lim (b ∷ bs)) f h.1)
    (λ k.
    let same : LineTooLong (place 640) ≡ UnexpectedByte (place q) = ap line_refusal (err_same TooLong f k.1) ∙ u in
    absurd (let z : ◌≡◌ {A = ℕ} 0 1 = cc in omega arith))
    (λ k. kind_stop lim b bs q f (eqb-false _ _ h.0) k.1 u))
