-- The checks of a number, from what its reader finds at a place. Assumes nothing.
use Rattle.std.proofs.Common.{◌≡◌, ℕ, ◌+◌, ◌-◌, ◌<◌, ◌≤◌, Bool, true, false, cond, ◌&&◌, eqb, ltb, ◌⊎◌, List, [], ◌∷◌, length, get_or, drop, Ok, Err, Result, sym, refl, ap, ◌∙◌, inl, inr, ⊎_elim, arith, length-drop}
use Rattle.std.specs.Char.{is_ascii_digit}
use Rattle.std.proofs.lemmas.Bool.{cases_lt, cond-true, cond-false, and_parts, and_cases, leb-true, ltb-true, ltb-false, eqb-false, and_from, and_left, and_right, lt-ltb, le-ltb, le-leb, lt-leb}
use Rattle.std.proofs.lemmas.Bool.Decides.{nat_tests}
use Rattle.query.specs.declared.faults.DigitFault.{DigitFault}
use Rattle.query.specs.declared.faults.NumberFault.TheVariants.{NoDigit, LeadingZero, TooManyDigits, OutOfRange}
use Rattle.query.specs.declared.numbers.Numeral.{Numeral}
use Rattle.query.specs.Numbers.{place, digit_from, read_digit_lem, digits, worth, ranged, spelt, read_number}
use Rattle.query.proofs.Digits.{digit_range, length_digits}

-- what the reader of a digit found
pub record First (xs : List ℕ) (d : ℕ) : Type 0 where
  pub byte : ℕ
  pub others : List ℕ
  pub are : digits xs ≡ byte ∷ others
  pub is_digit : is_ascii_digit byte ≡ true
  pub value : d ≡ byte - 48

first_tested : (t : Bool) (p b : ℕ) (bs : List ℕ) (d : ℕ) → is_ascii_digit b ≡ t → digit_from p (b ∷ bs) ≡ Ok d → First (b ∷ bs) d
first_tested true p b bs d t e =
    let k : ◌≡◌ {A = Result ℕ DigitFault} (Ok (b - 48)) (Ok d) = rw t at e in
    record { byte = b; others = digits bs; are = rw t; is_digit = t; value = cc }
first_tested false p b bs d t e =
    let k : ◌≡◌ {A = Result ℕ DigitFault} (Err (record { 0 = place p })) (Ok d) = rw t at e in
    absurd (let z : ◌≡◌ {A = ℕ} 0 1 = cc in omega arith)

pub first : (p : ℕ) (xs : List ℕ) (d : ℕ) → digit_from p xs ≡ Ok d → First xs d
first p [] d e = absurd (let z : ◌≡◌ {A = ℕ} 0 1 = cc in omega arith)
first p (b ∷ bs) d e = first_tested (is_ascii_digit b) p b bs d refl e

none_tested :
    (t : Bool) (least limit p b : ℕ) (bs : List ℕ) (f : DigitFault) → is_ascii_digit b ≡ t → digit_from p (b ∷ bs) ≡ Err f
    → Err (NoDigit f) ≡ spelt least limit p (digits (b ∷ bs))
none_tested true least limit p b bs f t e =
    let k : ◌≡◌ {A = Result ℕ DigitFault} (Ok (b - 48)) (Err f) = rw t at e in
    absurd (let z : ◌≡◌ {A = ℕ} 0 1 = cc in omega arith)
none_tested false least limit p b bs f t e =
    let k : ◌≡◌ {A = Result ℕ DigitFault} (Err (record { 0 = place p })) (Err f) = rw t at e in
    let same : record { 0 = place p } ≡ f = cc in rw t (ap (λ g. Err (NoDigit g)) (sym same))

none_from :
    (least limit p : ℕ) (xs : List ℕ) (f : DigitFault) → digit_from p xs ≡ Err f
    → Err (NoDigit f) ≡ spelt least limit p (digits xs)
none_from least limit p [] f e =
    let same : record { 0 = place p } ≡ f = cc in ap (λ g. Err (NoDigit g)) (sym same)
none_from least limit p (b ∷ bs) f e = none_tested (is_ascii_digit b) least limit p b bs f refl e

-- the last check: from `least` up, and below `limit`
pub in_range :
    (least limit p : ℕ) (ds : List ℕ) → least ≤ worth 0 ds → worth 0 ds < limit
    → ranged least limit p ds ≡ Ok (record { start = place p; value = worth 0 ds; after = place (p + length ds) })
in_range least limit p ds l h = cond-true _ _ _ (and_from _ _ (le-leb _ _ l) (lt-ltb _ _ h))

pub out_of_range :
    (least limit p : ℕ) (ds : List ℕ) → (worth 0 ds < least) ⊎ (limit ≤ worth 0 ds) → ranged least limit p ds ≡ Err (OutOfRange (place p))
out_of_range least limit p ds (inl l) = cond-false _ _ _ (and_left _ _ (lt-leb _ _ l))
out_of_range least limit p ds (inr h) = cond-false _ _ _ (and_right _ _ (le-ltb _ _ h))

module _ (least limit : ℕ) (line : List ℕ) (p : ℕ) where
  pub number_none : (f : DigitFault) → read_digit_lem line p ≡ Err f → Err (NoDigit f) ≡ read_number least limit line p
  unfolding read_number
  number_none f e = none_from least limit p (drop p line) f e

  module _ (d : ℕ) (found : read_digit_lem line p ≡ Ok d) where
    f : First (drop p line) d
    f = first p (drop p line) d found

    size : length (digits (drop p line)) ≡ length (f.byte ∷ f.others)
    size = ap length f.are

    -- the digit is 0 exactly where its byte is 48
    zeros : eqb d 0 ≡ eqb f.byte 48
    zeros =
        let r = digit_range f.byte f.is_digit in let v = f.value in grind (arith, nat_tests)

    tests : (eqb d 0 && ltb 1 (length (digits (drop p line)))) ≡ (eqb f.byte 48 && ltb 1 (length (f.byte ∷ f.others)))
    tests = ap (λ n. eqb d 0 && ltb 1 n) size ∙ ap (λ t. t && ltb 1 (length (f.byte ∷ f.others))) zeros

    pub number-zero :
        (eqb d 0 && ltb 1 (length (digits (drop p line)))) ≡ true → Err (LeadingZero (place p)) ≡ read_number least limit line p
    unfolding read_number
    number-zero z = rw f.are (sym (cond-true _ _ _ (sym tests ∙ z)))

    pub number_long :
        (eqb d 0 && ltb 1 (length (digits (drop p line)))) ≡ false → 5 < length (digits (drop p line))
        → Err (TooManyDigits (place p)) ≡ read_number least limit line p
    unfolding read_number
    number_long h long =
        let t = lt-ltb 5 (length (f.byte ∷ f.others)) (rw size at long) in
        rw f.are (sym (cond-false _ _ _ (sym tests ∙ h) ∙ cond-true _ _ _ t))

    pub number-ranged :
        (eqb d 0 && ltb 1 (length (digits (drop p line)))) ≡ false → length (digits (drop p line)) ≤ 5
        → read_number least limit line p ≡ ranged least limit p (digits (drop p line))
    unfolding read_number
    number-ranged h short =
        let t = le-ltb 5 (length (f.byte ∷ f.others)) (rw size at short) in
        rw f.are (cond-false _ _ _ (sym tests ∙ h) ∙ cond-false _ _ _ t)

    module _
        (v : ℕ) (no_zero : (eqb d 0 && ltb 1 (length (digits (drop p line)))) ≡ false) (short : length (digits (drop p line)) ≤ 5)
        (is : v ≡ worth 0 (digits (drop p line))) where
      pub number_out :
          {start : ℕ} → start ≡ p → (least ≤ v → limit ≤ v) → Err (OutOfRange (place start)) ≡ read_number least limit line p
      number_out e out =
          ap (λ x. Err (OutOfRange (place x))) e
          ∙ sym (number-ranged no_zero short
          ∙ out_of_range least limit p (digits (drop p line)) (⊎_elim (λ l. inl (rw is at l)) (λ h. inr (rw is at (out h))) (cases_lt v least)))

      pub number_in :
          (end : ℕ) → end ≡ p + length (digits (drop p line)) → least ≤ v → v < limit
          → Ok (record { start = place p; value = v; after = place end }) ≡ read_number least limit line p
      number_in end e l h =
          ap (λ x. Ok (record { start = place p; value = x; after = place end })) is
          ∙ ap (λ x. Ok (record { start = place p; value = worth 0 (digits (drop p line)); after = place x })) e
          ∙ sym (number-ranged no_zero short ∙ in_range least limit p (digits (drop p line)) (rw is at l) (rw is at h))

-- what a test that let a value through was
pub past_fault : {A E : Type 0} (t : Bool) (f : E) (y : Result A E) (x : A) → cond t (Err f) y ≡ Ok x → (t ≡ false) × (y ≡ Ok x)
past_fault true f y x e = absurd (let z : ◌≡◌ {A = ℕ} 0 1 = cc in omega arith)
past_fault false f y x e = (refl, e)

pub before_fault : {A E : Type 0} (t : Bool) (f : E) (y : Result A E) (x : A) → cond t y (Err f) ≡ Ok x → (t ≡ true) × (y ≡ Ok x)
before_fault true f y x e = (refl, e)
before_fault false f y x e = absurd (let z : ◌≡◌ {A = ℕ} 0 1 = cc in omega arith)

pub ok_same : {A E : Type 0} (x y : A) → ◌≡◌ {A = Result A E} (Ok x) (Ok y) → x ≡ y
ok_same x y e = cc

-- a number that was read
pub record Read (least limit : ℕ) (p : ℕ) (ds : List ℕ) (x : Numeral) : Type 0 where
  pub some : 0 < length ds
  pub plain : get_or ds 0 0 ≡ 48 → length ds ≡ 1
  pub short : length ds ≤ 5
  pub low : least ≤ x.value
  pub high : x.value < limit
  pub value : x.value ≡ worth 0 ds
  pub start : x.start ≡ place p
  pub after : x.after ≡ place (p + length ds)

spelt_ok : (least limit p : ℕ) (ds : List ℕ) (x : Numeral) → spelt least limit p ds ≡ Ok x → Read least limit p ds x
spelt_ok least limit p [] x e = absurd (let z : ◌≡◌ {A = ℕ} 0 1 = cc in omega arith)
spelt_ok least limit p (d ∷ ds) x e =
    let one = past_fault _ _ _ x e in
    let two = past_fault _ _ _ x one.1 in
    let three = before_fault _ _ _ x two.1 in
    let bounds = and_parts _ _ three.0 in
    let v : worth 0 (d ∷ ds) ≡ x.value = ap (λ r. r.value) (ok_same _ _ three.1) in
    let low : least ≤ worth 0 (d ∷ ds) = leb-true _ _ bounds.0 in
    let high : worth 0 (d ∷ ds) < limit = ltb-true _ _ bounds.1 in
    record {
      some = omega arith;
      plain = λ z. ⊎_elim (λ f. absurd (eqb-false d 48 f z)) (λ f. let k : length (d ∷ ds) ≤ 1 = ltb-false 1 (length (d ∷ ds)) f in omega arith) (and_cases _ _ one.0);
      short = ltb-false _ _ two.0;
      low = rw v at low;
      high = rw v at high;
      value = sym v;
      start = sym (ap (λ r. r.start) (ok_same _ _ three.1));
      after = sym (ap (λ r. r.after) (ok_same _ _ three.1));
    }

pub number_ok :
    (least limit : ℕ) (line : List ℕ) (p : ℕ) (x : Numeral) → read_number least limit line p ≡ Ok x
    → Read least limit p (digits (drop p line)) x
unfolding read_number
number_ok least limit line p x e = spelt_ok least limit p (digits (drop p line)) x e

-- it ends after its start, within the line
pub number_moves :
    (least limit : ℕ) (line : List ℕ) (p : ℕ) (x : Numeral) → read_number least limit line p ≡ Ok x
    → (p < x.after.0) × (x.after.0 ≤ length line)
number_moves least limit line p x e =
    let r = number_ok least limit line p x e in
    let s = r.some in
    let a = ap (λ q. q.0) r.after in
    let b = length_digits (drop p line) in let d = length-drop p line in (omega arith, omega arith)
