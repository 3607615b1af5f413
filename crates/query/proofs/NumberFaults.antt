-- A number's fault by 19 or 20: what stands at its place. Assumes nothing.
use Rattle.std.proofs.Common.{◌≡◌, ℕ, ◌+◌, ◌<◌, ◌≤◌, cond, ◌&&◌, eqb, ltb, leb, ◌≢◌, List, [], ◌∷◌, ◌++◌, length, drop, Ok, Err, decimal, Result, sym, refl, ap, ◌∙◌, ⊎_elim, arith}
use Rattle.std.specs.Char.{is_ascii_digit}
use Rattle.std.proofs.lemmas.List.{drop-drop}
use Rattle.std.proofs.lemmas.Bool.{cases_Bool}
use Rattle.refusal.specs.declared.Refusal.{Refusal}
use Rattle.refusal.specs.declared.Refusal.TheVariants.{UnexpectedByte, BadNumber, MemberRepeated}
use Rattle.query.specs.declared.faults.NumberFault.{NumberFault}
use Rattle.query.specs.declared.faults.NumberFault.TheVariants.{NoDigit, LeadingZero, TooManyDigits, OutOfRange}
use Rattle.query.specs.declared.faults.ItemFault.{ItemFault}
use Rattle.query.specs.declared.faults.ItemFault.TheVariants.{NoSpace}
use Rattle.query.specs.declared.numbers.Numeral.{Numeral}
use Rattle.query.specs.Refusals.{number_refusal, item_refusal}
use Rattle.query.specs.Numbers.{place, stands_at, digits, worth, ranged, spelt, read_number}
use Rattle.query.specs.Items.{of_item, read_spaced_lem}
use Rattle.query.specs.Firsts.{NoNumber}
use Rattle.query.proofs.Bytes.{stands-front}
use Rattle.query.proofs.Checks.{number_ok}
use Rattle.query.proofs.Decimals.{decimal_spelt, wrote}
use Rattle.query.proofs.ItemChecks.{spaced_ok}
use Rattle.query.proofs.Soundness.{spaced_was}
use Rattle.query.proofs.Stops.{split, err_same, no_err, cond_err, of_item_err}

-- a fault that counts as 19 at a place, or as 20
abbrev pub Bad : ℕ → Refusal → Type 0
Bad q r = r ≡ BadNumber (place q)

abbrev pub Again : ℕ → Refusal → Type 0
Again q r = r ≡ MemberRepeated (place q)

same_bad : (p q : ℕ) → BadNumber (place p) ≡ BadNumber (place q) → q ≡ p
same_bad p q e = ap (λ x. x.0) (sym (let same : place p ≡ place q = cc in same))

pub same_again : (p q : ℕ) → MemberRepeated (place p) ≡ MemberRepeated (place q) → q ≡ p
same_again p q e = ap (λ x. x.0) (sym (let same : place p ≡ place q = cc in same))

pub byte_bad : {X : Type 0} (p q : ℕ) → UnexpectedByte (place p) ≡ BadNumber (place q) → X
byte_bad p q e = absurd (let z : ◌≡◌ {A = ℕ} 0 1 = cc in omega arith)

pub byte_again : {X : Type 0} (p q : ℕ) → UnexpectedByte (place p) ≡ MemberRepeated (place q) → X
byte_again p q e = absurd (let z : ◌≡◌ {A = ℕ} 0 1 = cc in omega arith)

pub again_bad : {X : Type 0} (p q : ℕ) → MemberRepeated (place p) ≡ BadNumber (place q) → X
again_bad p q e = absurd (let z : ◌≡◌ {A = ℕ} 0 1 = cc in omega arith)

pub bad_again : {X : Type 0} (p q : ℕ) → BadNumber (place p) ≡ MemberRepeated (place q) → X
bad_again p q e = absurd (let z : ◌≡◌ {A = ℕ} 0 1 = cc in omega arith)

-- a number's fault is never that of a member
pub number_again : {X : Type 0} (q : ℕ) (f : NumberFault) → Again q (number_refusal f) → X
number_again q (NoDigit f) u = byte_again f.0.0 q u
number_again q (LeadingZero p) u = bad_again p.0 q u
number_again q (TooManyDigits p) u = bad_again p.0 q u
number_again q (OutOfRange p) u = bad_again p.0 q u

-- no digit is left behind the digits at the front
digits_end : (bs : List ℕ) → digits (drop (length (digits bs)) bs) ≡ []
digits_end [] = refl
digits_end (b ∷ bs) =
    ⊎_elim
    (λ t. let e = ap (λ u. cond u (b ∷ digits bs) []) t in ap (λ u. digits (drop (length u) (b ∷ bs))) e ∙ digits_end bs)
    (λ f. let e = ap (λ u. cond u (b ∷ digits bs) []) f in ap (λ u. digits (drop (length u) (b ∷ bs))) e ∙ e)
    (cases_Bool (is_ascii_digit b))

spelt_bad :
    (least limit p : ℕ) (ds : List ℕ) (q : ℕ) (f : NumberFault) → spelt least limit p ds ≡ Err f → Bad q (number_refusal f)
    → (q ≡ p) × (ds ≢ [])
spelt_bad least limit p [] q f e u = byte_bad p q (ap number_refusal (err_same _ _ e) ∙ u)
spelt_bad least limit p (d ∷ ds) q f e u =
    let at : (g : NumberFault) → number_refusal g ≡ BadNumber (place p) → ◌≡◌ {A = Result Numeral NumberFault} (Err g) (Err f) → q ≡ p =
    λ g b s. same_bad p q (sym b ∙ ap number_refusal (err_same _ _ s) ∙ u) in
    let long : Result Numeral NumberFault = cond (ltb 5 (length (d ∷ ds))) (Err (TooManyDigits (place p))) (ranged least limit p (d ∷ ds)) in (
      split (cond_err (eqb d 48 && ltb 1 (length (d ∷ ds))) (Err (LeadingZero (place p))) long f e)
          (λ h. at (LeadingZero (place p)) refl h.1)
          (λ h.
          split (cond_err (ltb 5 (length (d ∷ ds))) (Err (TooManyDigits (place p))) (ranged least limit p (d ∷ ds)) f h.1)
          (λ k. at (TooManyDigits (place p)) refl k.1)
          (λ k.
          split
          (cond_err (leb least (worth 0 (d ∷ ds)) && ltb (worth 0 (d ∷ ds)) limit)
          (Ok (record { start = place p; value = worth 0 (d ∷ ds); after = place (p + length (d ∷ ds)) })) (Err (OutOfRange (place p))) f k.1)
          (λ l. no_err _ f l.1) (λ l. at (OutOfRange (place p)) refl l.1))),
      λ none. let z = ap length none in omega arith,
    )

pub number_bad :
    (least limit : ℕ) (line : List ℕ) (p q : ℕ) (f : NumberFault) → limit ≤ 65536 → read_number least limit line p ≡ Err f
    → Bad q (number_refusal f) → (q ≡ p) × NoNumber least limit (drop p line)
unfolding read_number
number_bad least limit line p q f few e u =
    let s = spelt_bad least limit p (digits (drop p line)) q f e u in (
      s.0,
      (
        s.1,
        λ v low high same.
            no_err _ f (sym (ap (spelt least limit p) same ∙ decimal_spelt least limit v p (omega arith) low high) ∙ e),
      ),
    )

pub spaced_bad :
    (limit : ℕ) (line : List ℕ) (p q : ℕ) (f : ItemFault) → limit ≤ 65536 → read_spaced_lem limit line p ≡ Err f → Bad q (item_refusal f)
    → (drop p line ≡ 32 ∷ drop (p + 1) line) × ((q ≡ p + 1) × NoNumber 0 limit (drop (p + 1) line))
unfolding read_spaced_lem
spaced_bad limit line p q f few e u =
    split (cond_err _ _ _ f e)
    (λ h.
    let g = of_item_err _ f h.1 in
    (stands-front line p 32 h.0, number_bad 0 limit line (p + 1) q g.0 few g.1 (ap item_refusal g.2 ∙ u)))
    (λ h. byte_bad p q (ap item_refusal (err_same _ _ h.1) ∙ u))

pub spaced_again : {X : Type 0} (limit : ℕ) (line : List ℕ) (p q : ℕ) (f : ItemFault) → read_spaced_lem limit line p ≡ Err f → Again q (item_refusal f) → X
unfolding read_spaced_lem
spaced_again limit line p q f e u =
    split (cond_err (stands_at line p 32) (of_item (read_number 0 limit line (p + 1))) (Err (NoSpace (place p))) f e)
    (λ h. let g = of_item_err (read_number 0 limit line (p + 1)) f h.1 in number_again q g.0 (ap item_refusal g.2 ∙ u))
    (λ h. byte_again p q (ap item_refusal (err_same (NoSpace (place p)) f h.1) ∙ u))

-- a member that was read, and where it ends
pub record MemberRead (limit : ℕ) (line : List ℕ) (p : ℕ) (m : Numeral) : Type 0 where
  pub is : drop p line ≡ 32 ∷ (decimal m.value ++ drop m.after.0 line)
  pub below : m.value < limit
  pub after_is : m.after.0 ≡ p + 1 + length (decimal m.value)
  pub start_is : m.start.0 ≡ p + 1
  pub ends : digits (drop m.after.0 line) ≡ []

pub member_read : (limit : ℕ) (line : List ℕ) (p : ℕ) (m : Numeral) → read_spaced_lem limit line p ≡ Ok m → MemberRead limit line p m
member_read limit line p m e =
    let s = spaced_ok limit line p m e in
    let w = wrote 0 limit line (p + 1) m s.1 in
    let was = spaced_was limit line p m e in
    let size : m.after.0 ≡ p + 1 + length (digits (drop (p + 1) line)) = w.after_is ∙ ap (λ u. p + 1 + length u) (sym w.digits_are) in
    record {
      is = was.0;
      below = was.1;
      after_is = w.after_is;
      start_is = ap (λ x. x.0) (number_ok 0 limit line (p + 1) m s.1).start;
      ends =
          ap (λ k. digits (drop k line)) size
          ∙ ap digits (sym (drop-drop (length (digits (drop (p + 1) line))) (p + 1) line)) ∙ digits_end (drop (p + 1) line);
    }
