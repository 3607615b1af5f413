-- Numbers in decimal, written and read. Assumes nothing.
use Rattle.std.proofs.Common.{◌≡◌, ℕ, zero, suc, ◌+◌, ◌^◌, ◌<◌, ◌≤◌, false, cond, ◌&&◌, eqb, ltb, List, [], ◌∷◌, ◌++◌, length, get_or, take, drop, Ok, decimal, sym, refl, ap, ◌∙◌, ⊎_elim, arith}
use Rattle.std.proofs.lemmas.List.{take-append-drop, drop-drop, drop_at}
use Rattle.std.proofs.lemmas.Bool.{cond-false, and_left, and_right, ne_eqb, le-ltb, cases_eq}
use Rattle.std.proofs.lemmas.Fmt.{digits_decimal, digits_value-decimal, decimal-digits_value, decimal_nonempty, first_decimal, length-decimal-le, decimal_digit}
use Rattle.query.specs.declared.numbers.Numeral.{Numeral}
use Rattle.query.specs.Numbers.{place, digits, worth, spelt, read_number}
use Rattle.query.specs.Laws.{ReadsBack}
use Rattle.query.proofs.Digits.{own, fixed-parts, digits-digits, take-digits, worth-short}
use Rattle.query.proofs.Checks.{number_ok, in_range}

digits_append : (ds rest : List ℕ) → digits ds ≡ ds → digits rest ≡ [] → digits (ds ++ rest) ≡ ds
digits_append [] rest f e = e
digits_append (d ∷ ds) rest f e =
    let p = fixed-parts d ds f in
    ap (λ u. cond u (d ∷ digits (ds ++ rest)) []) p.0 ∙ ap (λ u. d ∷ u) (digits_append ds rest p.1 e)

spelt_fine :
    (least limit p : ℕ) (ds : List ℕ) → 0 < length ds → (get_or ds 0 0 ≡ 48 → length ds ≡ 1) → length ds ≤ 5
    → least ≤ worth 0 ds → worth 0 ds < limit
    → spelt least limit p ds ≡ Ok (record { start = place p; value = worth 0 ds; after = place (p + length ds) })
spelt_fine least limit p [] s z f l h = absurd (omega arith)
spelt_fine least limit p (d ∷ ds) s z f l h =
    let one : (eqb d 48 && ltb 1 (length (d ∷ ds))) ≡ false =
    ⊎_elim (λ e. let k = z e in and_right _ _ (le-ltb 1 (length (d ∷ ds)) (omega arith))) (λ n. and_left _ _ (ne_eqb _ _ n)) (cases_eq d 48) in
    cond-false _ _ _ one ∙ cond-false _ _ _ (le-ltb 5 (length (d ∷ ds)) f) ∙ in_range least limit p (d ∷ ds) l h

one-zero : (v : ℕ) → v < 100000 → get_or (decimal v) 0 0 ≡ 48 → length (decimal v) ≡ 1
one-zero zero h e = ap length (decimal_digit 0 (omega arith))
one-zero (suc v) h e = let k = first_decimal (suc v) (omega arith) (omega arith) in absurd (omega arith)

-- the digits of a number in range
pub decimal_spelt :
    (least limit v p : ℕ) → v < 100000 → least ≤ v → v < limit
    → spelt least limit p (decimal v) ≡ Ok (record { start = place p; value = v; after = place (p + length (decimal v)) })
decimal_spelt least limit v p small low high =
    let fits : v < 2 ^ 64 = omega arith in
    let w : worth 0 (decimal v) ≡ v = digits_value-decimal own v fits in
    spelt_fine least limit p (decimal v) (decimal_nonempty v fits) (one-zero v small)
    (length-decimal-le 5 v (omega arith) small fits) (rw w low) (rw w high)
    ∙ ap (λ x. Ok (record { start = place p; value = x; after = place (p + length (decimal v)) })) w

-- a number in decimal at a place, which no digit follows
pub reads_decimal :
    (least limit v : ℕ) (line : List ℕ) (p : ℕ) (rest : List ℕ) → v < 100000 → least ≤ v → v < limit
    → drop p line ≡ decimal v ++ rest → digits rest ≡ []
    → read_number least limit line p ≡ Ok (record { start = place p; value = v; after = place (p + length (decimal v)) })
unfolding read_number
reads_decimal least limit v line p rest small low high e none =
    let fits : v < 2 ^ 64 = omega arith in
    let ds : digits (drop p line) ≡ decimal v = ap digits e ∙ digits_append (decimal v) rest (digits_decimal own v fits) none in
    ap (spelt least limit p) ds ∙ decimal_spelt least limit v p small low high

-- below a bound that leaves five digits
pub reads_back : (bound : ℕ) → bound ≤ 100000 → ReadsBack bound
reads_back bound short v small least limit low high before rest none =
    reads_decimal least limit v (before ++ (decimal v ++ rest)) (length before) rest (omega arith) low high
    (drop_at before (decimal v ++ rest) (length before) refl) none

-- a number that was read stood there in decimal
pub was_decimal :
    (least limit : ℕ) (line : List ℕ) (p : ℕ) (x : Numeral) → read_number least limit line p ≡ Ok x
    → drop p line ≡ decimal x.value ++ drop x.after.0 line
was_decimal least limit line p x e =
    let r = number_ok least limit line p x e in
    let ds : List ℕ = digits (drop p line) in
    let w = worth-short (drop p line) r.short in
    let spelt-so : decimal (worth 0 ds) ≡ ds = decimal-digits_value own ds (digits-digits (drop p line)) r.some r.plain (omega arith) in
    let front : take (length ds) (drop p line) ≡ decimal x.value = take-digits (drop p line) ∙ sym spelt-so ∙ ap decimal (sym r.value) in
    let back : drop (length ds) (drop p line) ≡ drop x.after.0 line =
    drop-drop (length ds) p line ∙ ap (λ q. drop q line) (sym (ap (λ q. q.0) r.after)) in
    sym (take-append-drop (length ds) (drop p line)) ∙ ap (λ u. u ++ drop (length ds) (drop p line)) front ∙ ap (λ u. decimal x.value ++ u) back

-- a number that was read has five digits at most, and ends where they do
pub record Wrote (line : List ℕ) (p : ℕ) (x : Numeral) : Type 0 where
  pub is : drop p line ≡ decimal x.value ++ drop x.after.0 line
  pub small : x.value < 100000
  pub digits_are : digits (drop p line) ≡ decimal x.value
  pub after_is : x.after.0 ≡ p + length (decimal x.value)

pub wrote : (least limit : ℕ) (line : List ℕ) (p : ℕ) (x : Numeral) → read_number least limit line p ≡ Ok x → Wrote line p x
wrote least limit line p x e =
    let r = number_ok least limit line p x e in
    let ds : List ℕ = digits (drop p line) in
    let w = worth-short (drop p line) r.short in
    let v = r.value in
    let spelt-so : decimal (worth 0 ds) ≡ ds = decimal-digits_value own ds (digits-digits (drop p line)) r.some r.plain (omega arith) in
    let same : ds ≡ decimal x.value = sym spelt-so ∙ ap decimal (sym v) in
    record {
      is = was_decimal least limit line p x e;
      small = omega arith;
      digits_are = same;
      after_is = ap (λ q. q.0) r.after ∙ ap (λ u. p + length u) same;
    }

-- digits in front of what is no digit
pub digits_decimal_then : (v : ℕ) (rest : List ℕ) → v < 100000 → digits rest ≡ [] → digits (decimal v ++ rest) ≡ decimal v
digits_decimal_then v rest small none =
    let fits : v < 2 ^ 64 = omega arith in digits_append (decimal v) rest (digits_decimal own v fits) none

pub decimal_not_nil : (v : ℕ) → v < 100000 → decimal v ≡ [] → ⊥
decimal_not_nil v small e =
    let fits : v < 2 ^ 64 = omega arith in let s = decimal_nonempty v fits in let z = ap length e in omega arith
