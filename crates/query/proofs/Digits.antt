-- The digits at a place of a line, and what they are worth. Assumes nothing.
use Rattle.std.proofs.Common.{◌≡◌, ℕ, ◌+◌, ◌-◌, ◌*◌, ◌<◌, ◌≤◌, Bool, true, false, cond, List, [], ◌∷◌, length, get_or, take, drop, sym, refl, ap, ◌∙◌, ⊎_elim, arith, rules}
use Rattle.std.specs.Char.{is_ascii_digit}
use Rattle.std.proofs.lemmas.List.{at_drop_more}
use Rattle.std.proofs.lemmas.Bool.{cases_Bool, and_parts, leb-true, and_from, le-leb}
use Rattle.std.proofs.lemmas.Str.Parse.{IsNumeralModel, IsDigitsTest, numerals_by_fold, digits_value_short}
use Rattle.std.specs.List.{take_while}
use Rattle.std.proofs.lemmas.List.Sums.{take_while-cons}
use Rattle.query.specs.Numbers.{digits, worth}

same-front : (t : Bool) (x : ℕ) (xs ys : List ℕ) → cond t (x ∷ xs) [] ≡ x ∷ ys → (t ≡ true) × (xs ≡ ys)
same-front true x xs ys e = (refl, cc)
same-front false x xs ys e = absurd (let z : ◌≡◌ {A = ℕ} 0 1 = cc in omega arith)

pub digit_range : (b : ℕ) → is_ascii_digit b ≡ true → (48 ≤ b) × (b ≤ 57)
digit_range b e = let p = and_parts _ _ e in (leb-true _ _ p.0, leb-true _ _ p.1)

pub range_digit : (b : ℕ) → 48 ≤ b → b ≤ 57 → is_ascii_digit b ≡ true
range_digit b l h = and_from _ _ (le-leb _ _ l) (le-leb _ _ h)

-- the digits at the front are those that a test of each byte takes
pub digits_taken : (bs : List ℕ) → digits bs ≡ take_while is_ascii_digit bs
digits_taken [] = refl
digits_taken (b ∷ bs) =
    ap (λ ds. cond (is_ascii_digit b) (b ∷ ds) []) (digits_taken bs) ∙ sym (take_while-cons is_ascii_digit b bs)

-- all of a list is digits: its first byte is one, and the rest are
pub fixed-parts : (b : ℕ) (bs : List ℕ) → digits (b ∷ bs) ≡ b ∷ bs → (is_ascii_digit b ≡ true) × (digits bs ≡ bs)
fixed-parts b bs e = same-front (is_ascii_digit b) b (digits bs) bs e

pub fixed_more : (b : ℕ) (bs : List ℕ) → is_ascii_digit b ≡ true → digits bs ≡ bs → digits (b ∷ bs) ≡ b ∷ bs
fixed_more b bs t e = ap (λ u. cond u (b ∷ digits bs) []) t ∙ ap (λ u. b ∷ u) e

pub digits-digits : (bs : List ℕ) → digits (digits bs) ≡ digits bs
digits-digits [] = refl
digits-digits (b ∷ bs) =
    ⊎_elim (λ t. let e = ap (λ u. cond u (b ∷ digits bs) []) t in ap digits e ∙ fixed_more b (digits bs) t (digits-digits bs) ∙ sym e)
    (λ f. let e = ap (λ u. cond u (b ∷ digits bs) []) f in ap digits e ∙ sym e) (cases_Bool (is_ascii_digit b))

-- the digits at the front, as a part of the bytes
pub take-digits : (bs : List ℕ) → take (length (digits bs)) bs ≡ digits bs
take-digits [] = refl
take-digits (b ∷ bs) =
    ⊎_elim (λ t. let e = ap (λ u. cond u (b ∷ digits bs) []) t in ap (λ u. take (length u) (b ∷ bs)) e ∙ ap (λ u. b ∷ u) (take-digits bs) ∙ sym e)
    (λ f. let e = ap (λ u. cond u (b ∷ digits bs) []) f in ap (λ u. take (length u) (b ∷ bs)) e ∙ sym e) (cases_Bool (is_ascii_digit b))

pub length_digits : (bs : List ℕ) → length (digits bs) ≤ length bs
length_digits [] = omega arith
length_digits (b ∷ bs) =
    let h = length_digits bs in
    ⊎_elim (λ t. rw t (omega arith)) (λ f. rw f (omega arith)) (cases_Bool (is_ascii_digit b))

pub worth_ge : (v : ℕ) (ds : List ℕ) → v ≤ worth v ds
worth_ge v [] = omega arith
worth_ge v (d ∷ ds) = let h = worth_ge (v * 10 + (d - 48)) ds in omega arith

tells_fixed : IsDigitsTest (λ ds. digits ds ≡ ds)
tells_fixed =
    record {
      empty = refl;
      parts = λ c cs e. let p = fixed-parts c cs e in (digit_range c p.0, p.1);
      more = λ c cs h e. fixed_more c cs (range_digit c h.0 h.1) e;
    }

pub own : IsNumeralModel (λ ds. digits ds ≡ ds) (worth 0)
own = numerals_by_fold _ tells_fixed worth (search rules)

pub worth-short : (bs : List ℕ) → length (digits bs) ≤ 5 → worth 0 (digits bs) < 100000
worth-short bs h = digits_value_short own (digits bs) 5 (digits-digits bs) h

-- one more digit of a text that is all digits
module _ (text : List ℕ) (i v : ℕ) (within : i < length text) where
  worth-next : worth (v * 10 + (get_or text i 0 - 48)) (drop (i + 1) text) ≡ worth v (drop i text)
  worth-next = sym (at_drop_more (worth v) text i 0 within)

  pub worth_room : v * 10 + (get_or text i 0 - 48) ≤ worth v (drop i text)
  worth_room = rw (sym worth-next) (worth_ge _ (drop (i + 1) text))
