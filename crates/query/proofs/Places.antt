-- Every fault stands within its line: its place is at most the line's length. Assumes nothing.
use Rattle.std.proofs.Common.{◌≡◌, ℕ, zero, suc, ◌+◌, ◌-◌, ◌<◌, ◌≤◌, Bool, true, false, cond, ◌&&◌, eqb, ltb, leb, List, [], ◌∷◌, length, drop, set, Ok, Err, Result, sym, refl, ap, ◌∙◌, subst, arith, length-drop}
use Rattle.std.proofs.lemmas.Bool.{ltb-true, ltb-false}
use Rattle.refusal.specs.Numbered.{detail}
use Rattle.field.specs.declared.Element.{Element}
use Rattle.query.specs.declared.faults.NumberFault.{NumberFault}
use Rattle.query.specs.declared.faults.NumberFault.TheVariants.{LeadingZero, TooManyDigits, OutOfRange}
use Rattle.query.specs.declared.faults.ItemFault.{ItemFault}
use Rattle.query.specs.declared.faults.ItemFault.TheVariants.{Repeated}
use Rattle.query.specs.declared.faults.LineFault.{LineFault}
use Rattle.query.specs.declared.faults.LineFault.TheVariants.{TooLong, NoKind, NotEnded}
use Rattle.query.specs.declared.numbers.Numeral.{Numeral}
use Rattle.query.specs.declared.items.Limits.{Limits}
use Rattle.query.specs.declared.items.Weights.{Weights}
use Rattle.query.specs.declared.lines.Request.{Request}
use Rattle.query.specs.declared.lines.Request.TheVariants.{Ask, Try, Witness, Remark}
use Rattle.query.specs.Refusals.{number_refusal, item_refusal, line_refusal}
use Rattle.query.specs.Numbers.{place, stands_at, ranged, spelt, digits, worth, read_number}
use Rattle.query.specs.Items.{then, of_item, read_spaced_lem, read_item_lem, weighed, items_in, read_items_lem, no_weights, names, code}
use Rattle.query.specs.Lines.{of_line, read_witness_lem, by_kind, reading}
use Rattle.query.specs.Laws.{Within}
use Rattle.query.proofs.Bytes.{stands-front}
use Rattle.query.proofs.Checks.{number_ok, number_moves}
use Rattle.query.proofs.ItemChecks.{spaced_ok, spaced_moves, item_moves}
use Rattle.query.proofs.LineChecks.{of_line_ok}

-- the place of a fault, in each layer
abbrev at_number : NumberFault → ℕ
at_number f = detail (number_refusal f)

abbrev at_item : ItemFault → ℕ
at_item f = detail (item_refusal f)

abbrev at_line : LineFault → ℕ
at_line f = detail (line_refusal f)

-- the fault of a result, if it has one, stands at k or before
record UpTo {A E : Type 0} (where-is : E → ℕ) (k : ℕ) (r : Result A E) : Type 0 where
  pub fault : (f : E) → r ≡ Err f → where-is f ≤ k

none : {A E : Type 0} (where-is : E → ℕ) (k : ℕ) (x : A) → UpTo where-is k (Ok x)
none where-is k x = record { fault = λ f e. absurd (let z : ◌≡◌ {A = ℕ} 0 1 = cc in omega arith) }

here : {A E : Type 0} (where-is : E → ℕ) (k : ℕ) (f : E) → where-is f ≤ k → UpTo {A = A} where-is k (Err f)
here where-is k f h = record { fault = λ g e. let same : f ≡ g = cc in subst (λ (x : _). where-is x ≤ k) same h }

-- either way of a test
at_cond : {A : Type 0} (P : A → Type 0) (b : Bool) (x y : A) → (b ≡ true → P x) → (b ≡ false → P y) → P (cond b x y)
at_cond P true x y first second = first refl
at_cond P false x y first second = second refl

tested :
    {A E : Type 0} (where-is : E → ℕ) (k : ℕ) (b : Bool) (x y : Result A E) → (b ≡ true → UpTo where-is k x) → (b ≡ false → UpTo where-is k y)
    → UpTo where-is k (cond b x y)
tested where-is k b x y = at_cond (UpTo where-is k) b x y

onward :
    {A B E : Type 0} (where-is : E → ℕ) (k : ℕ) (r : Result A E) (go : A → Result B E) → UpTo where-is k r
    → ((x : A) → r ≡ Ok x → UpTo where-is k (go x)) → UpTo where-is k (then r go)
onward where-is k (Ok x) go h on = on x refl
onward where-is k (Err f) go h on = here where-is k f (h.fault f refl)

spelt_in : (least limit p k : ℕ) (ds : List ℕ) → p ≤ k → UpTo at_number k (spelt least limit p ds)
spelt_in least limit p k [] h = here at_number k _ h
spelt_in least limit p k (d ∷ ds) h =
    tested at_number k (eqb d 48 && ltb 1 (length (d ∷ ds))) (Err (LeadingZero (place p)))
    (cond (ltb 5 (length (d ∷ ds))) (Err (TooManyDigits (place p))) (ranged least limit p (d ∷ ds)))
    (λ _. here at_number k _ h)
    (λ _.
    tested at_number k (ltb 5 (length (d ∷ ds))) (Err (TooManyDigits (place p))) (ranged least limit p (d ∷ ds)) (λ _. here at_number k _ h)
    (λ _.
    tested at_number k (leb least (worth 0 (d ∷ ds)) && ltb (worth 0 (d ∷ ds)) limit)
    (Ok (record { start = place p; value = worth 0 (d ∷ ds); after = place (p + length (d ∷ ds)) })) (Err (OutOfRange (place p)))
    (λ _. none at_number k _) (λ _. here at_number k _ h)))

number_in : (least limit : ℕ) (line : List ℕ) (p k : ℕ) → p ≤ k → UpTo at_number k (read_number least limit line p)
unfolding read_number
number_in least limit line p k h = spelt_in least limit p k (digits (drop p line)) h

item_of : {A : Type 0} (k : ℕ) (r : Result A NumberFault) → UpTo at_number k r → UpTo at_item k (of_item r)
item_of k (Ok x) h = none at_item k x
item_of k (Err f) h = here at_item k _ (h.fault f refl)

line_of : {A : Type 0} (k : ℕ) (r : Result A ItemFault) → UpTo at_item k r → UpTo at_line k (of_line r)
line_of k (Ok x) h = none at_line k x
line_of k (Err f) h = here at_line k _ (h.fault f refl)

module _ (line : List ℕ) where
  -- a byte that stands at a place is one of the line's
  stands-within : (p b : ℕ) → stands_at line p b ≡ true → p < length line
  stands-within p b t =
      let e = ap length (stands-front line p b t) in let d = length-drop p line in omega arith

  spaced_in : (limit p : ℕ) → p ≤ length line → UpTo at_item (length line) (read_spaced_lem limit line p)
  unfolding read_spaced_lem
  spaced_in limit p h =
      tested at_item (length line) _ _ _
      (λ t. item_of (length line) _ (number_in 0 limit line (p + 1) (length line) (let w = stands-within p 32 t in omega arith)))
      (λ _. here at_item (length line) _ h)

  weighed_in : (lim : Limits) (m : Numeral) → UpTo at_item (length line) (weighed lim line m)
  weighed_in lim m =
      tested at_item (length line) _ _ _
      (λ t.
      onward at_item (length line) _ _
      (item_of (length line) _ (number_in 1 lim.size line (m.after.0 + 1) (length line) (let w = stands-within m.after.0 58 t in omega arith)))
      (λ _ _. none at_item (length line) _))
      (λ _. none at_item (length line) _)

  -- a number that was read begins within the line
  started : (limit p : ℕ) (m : Numeral) → read_spaced_lem limit line p ≡ Ok m → m.start.0 ≤ length line
  started limit p m e =
      let n = (spaced_ok limit line p m e).1 in
      let moves = number_moves 0 limit line (p + 1) m n in
      let begins = ap (λ b. b.0) (number_ok 0 limit line (p + 1) m n).start in omega (arith, moves.0, moves.1, begins)

  item_in : (lim : Limits) (row : List Element) (p : ℕ) → p ≤ length line → UpTo at_item (length line) (read_item_lem lim row line p)
  unfolding read_item_lem
  item_in lim row p h =
      onward at_item (length line) _ _ (spaced_in lim.members p h)
      (λ m e.
      tested at_item (length line) (names row m.value) (Err (Repeated m.start)) (weighed lim line m)
      (λ _. here at_item (length line) _ (started lim.members p m e)) (λ _. weighed_in lim m))

  all_in :
      (turns : ℕ) (lim : Limits) (row : List Element) (p : ℕ) → p ≤ length line
      → UpTo at_item (length line) (items_in turns lim row line p)
  all_in zero lim row p h = here at_item (length line) _ h
  all_in (suc turns) lim row p h =
      onward at_item (length line) _ _ (item_in lim row p h)
      (λ i e.
      tested at_item (length line) (eqb i.after.0 (length line)) (Ok (record { 0 = set row i.member.0 i.weight }))
      (items_in turns lim (set row i.member.0 i.weight) line i.after.0) (λ _. none at_item (length line) _)
      (λ _. all_in turns lim (set row i.member.0 i.weight) i.after.0 (item_moves lim row line p i e).1))

  row_in :
      (lim : Limits) (go : Weights → Request) → 1 ≤ length line
      → UpTo at_line (length line) (then (of_line (read_items_lem lim no_weights line 1)) (λ row. Ok (go row)))
  unfolding read_items_lem
  row_in lim go h =
      onward at_line (length line) _ _ (line_of (length line) _ (all_in (length line - 1) lim no_weights 1 h))
      (λ _ _. none at_line (length line) _)

  witness_in : (lim : Limits) (p : ℕ) → p ≤ length line → UpTo at_line (length line) (read_witness_lem lim line p)
  unfolding read_witness_lem
  witness_in lim p h =
      onward at_line (length line) _ _ (line_of (length line) _ (spaced_in lim.members p h))
      (λ m e.
      let first = spaced_moves lim.members line p m (of_line_ok _ m e) in
      onward at_line (length line) _ _ (line_of (length line) _ (spaced_in lim.size m.after.0 first.1))
      (λ v d.
      let second = spaced_moves lim.size line m.after.0 v (of_line_ok _ v d) in
      tested at_line (length line) (ltb v.after.0 (length line)) (Err (NotEnded v.after))
      (Ok (Witness (record { 0 = m.value }) (code v.value))) (λ _. here at_line (length line) _ second.1)
      (λ _. none at_line (length line) _)))

  kind_in : (b : ℕ) (lim : Limits) → 1 ≤ length line → UpTo at_line (length line) (by_kind b lim line)
  kind_in b lim h =
      let ask = then (of_line (read_items_lem lim no_weights line 1)) (λ row. Ok (Ask row)) in
      let try = then (of_line (read_items_lem lim no_weights line 1)) (λ row. Ok (Try row)) in
      let other = cond (eqb b 119) (read_witness_lem lim line 1) (Err NoKind) in
      tested at_line (length line) (eqb b 97) ask (cond (eqb b 116) try other) (λ _. row_in lim Ask h)
      (λ _.
      tested at_line (length line) (eqb b 116) try other (λ _. row_in lim Try h)
      (λ _.
      tested at_line (length line) (eqb b 119) (read_witness_lem lim line 1) (Err NoKind) (λ _. witness_in lim 1 h)
      (λ _. here at_line (length line) NoKind (omega arith))))

record BothUpTo (line : List ℕ) (r : Result Request LineFault) : Type 0 where
  pub in_line : UpTo at_line (length line) r
  pub below_limit : UpTo at_line 640 r

reading_in : (lim : Limits) (line : List ℕ) → BothUpTo line (reading lim line)
unfolding reading
reading_in lim [] = record { in_line = here at_line 0 NoKind (omega arith); below_limit = here at_line 640 NoKind (omega arith) }
reading_in lim (b ∷ bs) =
    at_cond (BothUpTo (b ∷ bs)) (eqb b 35) (Ok Remark) (cond (ltb 640 (length (b ∷ bs))) (Err TooLong) (by_kind b lim (b ∷ bs)))
    (λ _. record { in_line = none at_line _ _; below_limit = none at_line _ _ })
    (λ _.
    at_cond (BothUpTo (b ∷ bs)) (ltb 640 (length (b ∷ bs))) (Err TooLong) (by_kind b lim (b ∷ bs))
    (λ t.
    let long = ltb-true _ _ t in
    record { in_line = here at_line _ TooLong (omega (arith, long)); below_limit = here at_line 640 TooLong (omega arith) })
    (λ f.
    let short = ltb-false _ _ f in
    let found = kind_in (b ∷ bs) b lim (omega arith) in
    record { in_line = found; below_limit = record { fault = λ g e. let at = found.fault g e in omega (arith, at, short) } }))

pub within : (lim : Limits) (line : List ℕ) (r : Result Request LineFault) → r ≡ reading lim line → Within line r
within lim line r is f e =
    let found = reading_in lim line in (found.in_line.fault f (sym is ∙ e), found.below_limit.fault f (sym is ∙ e))
