-- The checks of a row and of a witness call have exactly one answer. Assumes nothing.
use Rattle.std.proofs.Common.{◌≡◌, ℕ, ◌<◌, ◌≢◌, ◌⊎◌, List, length, Some, None, Option, refl, ap, inl, inr, arith}
use native.Mathlib.Decide.{ℕ_discrete, dec_lt, dec_le}
use Rattle.refusal.specs.declared.Refusal.{Refusal}
use Rattle.refusal.specs.declared.Refusal.TheVariants.{NotAnElement}
use Rattle.refusal.specs.declared.Site.TheVariants.{OfMember}
use Rattle.field.specs.Model.{FieldModel}
use Rattle.field.specs.Sums.{Codes, weights_of}
use Rattle.field.specs.declared.Element.{Element}
use Rattle.server.specs.Checks.{Lowest}
use Rattle.checks.specs.Checks.{RowCheck, WitnessCheck, StrayWeight}
use Rattle.checks.specs.Checks as checks
use Rattle.checks.proofs.Searches.{none_stray}
use Rattle.checks.proofs.Searching.{lowest-one, lowest-below, not_zero, not_not_zero}

stray_or_code : (M : FieldModel) (n : ℕ) (ws : List Element) (m : ℕ) → length ws ≡ n → Codes M n (weights_of ws) → StrayWeight M ws m → ⊥
stray_or_code M n ws m e codes (h, big) = let code = codes m (omega arith) in omega arith

pub row-check-one : (M : FieldModel) (n : ℕ) (ws : List Element) (r r' : Option Refusal) → RowCheck M n ws r → RowCheck M n ws r' → r ≡ r'
row-check-one M n ws r r' (checks.wrong_length ne) (checks.wrong_length ne') = refl
row-check-one M n ws r r' (checks.wrong_length ne) (checks.not_an_element e m low) = absurd (ne e)
row-check-one M n ws r r' (checks.wrong_length ne) (checks.none_named e codes none) = absurd (ne e)
row-check-one M n ws r r' (checks.wrong_length ne) (checks.accepted e codes some) = absurd (ne e)
row-check-one M n ws r r' (checks.not_an_element e m low) (checks.wrong_length ne) = absurd (ne e)
row-check-one M n ws r r' (checks.not_an_element e m low) (checks.not_an_element e' m' low') =
    ap (λ k. Some (NotAnElement (OfMember (record { 0 = k })))) (lowest-one (StrayWeight M ws) m m' low low')
row-check-one M n ws r r' (checks.not_an_element e m low) (checks.none_named e' codes none) =
    absurd (stray_or_code M n ws m e codes low.holds)
row-check-one M n ws r r' (checks.not_an_element e m low) (checks.accepted e' codes some) =
    absurd (stray_or_code M n ws m e codes low.holds)
row-check-one M n ws r r' (checks.none_named e codes none) (checks.wrong_length ne) = absurd (ne e)
row-check-one M n ws r r' (checks.none_named e codes none) (checks.not_an_element e' m low) =
    absurd (stray_or_code M n ws m e codes low.holds)
row-check-one M n ws r r' (checks.none_named e codes none) (checks.none_named e' codes' none') = refl
row-check-one M n ws r r' (checks.none_named e codes none) (checks.accepted e' codes' some) = absurd (some none)
row-check-one M n ws r r' (checks.accepted e codes some) (checks.wrong_length ne) = absurd (ne e)
row-check-one M n ws r r' (checks.accepted e codes some) (checks.not_an_element e' m low) =
    absurd (stray_or_code M n ws m e codes low.holds)
row-check-one M n ws r r' (checks.accepted e codes some) (checks.none_named e' codes' none) = absurd (some none)
row-check-one M n ws r r' (checks.accepted e codes some) (checks.accepted e' codes' some') = refl

pub witness-check-one :
    (M : FieldModel) (n i a k : ℕ) (r r' : Option Refusal) → WitnessCheck M n i a k r → WitnessCheck M n i a k r' → r ≡ r'
witness-check-one M n i a k r r' (checks.no_such_member b) (checks.no_such_member b') = refl
witness-check-one M n i a k r r' (checks.no_such_member b) (checks.not_an_element b' c') = absurd (omega arith)
witness-check-one M n i a k r r' (checks.no_such_member b) (checks.wrong_length b' c' d') = absurd (omega arith)
witness-check-one M n i a k r r' (checks.no_such_member b) (checks.accepted b' c' d') = absurd (omega arith)
witness-check-one M n i a k r r' (checks.not_an_element b c) (checks.no_such_member b') = absurd (omega arith)
witness-check-one M n i a k r r' (checks.not_an_element b c) (checks.not_an_element b' c') = refl
witness-check-one M n i a k r r' (checks.not_an_element b c) (checks.wrong_length b' c' d') = absurd (omega arith)
witness-check-one M n i a k r r' (checks.not_an_element b c) (checks.accepted b' c' d') = absurd (omega arith)
witness-check-one M n i a k r r' (checks.wrong_length b c d) (checks.no_such_member b') = absurd (omega arith)
witness-check-one M n i a k r r' (checks.wrong_length b c d) (checks.not_an_element b' c') = absurd (omega arith)
witness-check-one M n i a k r r' (checks.wrong_length b c d) (checks.wrong_length b' c' d') = refl
witness-check-one M n i a k r r' (checks.wrong_length b c d) (checks.accepted b' c' d') = absurd (d d')
witness-check-one M n i a k r r' (checks.accepted b c d) (checks.no_such_member b') = absurd (omega arith)
witness-check-one M n i a k r r' (checks.accepted b c d) (checks.not_an_element b' c') = absurd (omega arith)
witness-check-one M n i a k r r' (checks.accepted b c d) (checks.wrong_length b' c' d') = absurd (d' d)
witness-check-one M n i a k r r' (checks.accepted b c d) (checks.accepted b' c' d') = refl

-- a check that refuses does not accept
none_or_some : (e : Refusal) → ◌≡◌ {A = Option Refusal} None (Some e) → ⊥
none_or_some e p = let z : ◌≡◌ {A = ℕ} 0 1 = cc in omega arith

pub row-check-apart : (M : FieldModel) (n : ℕ) (ws : List Element) (e : Refusal) → RowCheck M n ws None → RowCheck M n ws (Some e) → ⊥
row-check-apart M n ws e good bad = none_or_some e (row-check-one M n ws None (Some e) good bad)

pub witness-check-apart : (M : FieldModel) (n i a k : ℕ) (e : Refusal) → WitnessCheck M n i a k None → WitnessCheck M n i a k (Some e) → ⊥
witness-check-apart M n i a k e good bad = none_or_some e (witness-check-one M n i a k None (Some e) good bad)

module _ (M : FieldModel) (n : ℕ) (ws : List Element) where
  row_named : length ws ≡ n → Codes M n (weights_of ws) → (r : Option Refusal) × RowCheck M n ws r
  row_named e codes = from (lowest-below (length ws) (λ m. weights_of ws m ≢ 0) (λ m b. not_zero (weights_of ws m)))
    where
      from :
          ((m : ℕ) × (m < length ws) × Lowest (λ k. weights_of ws k ≢ 0) m) ⊎ ((m : ℕ) → m < length ws → weights_of ws m ≢ 0 → ⊥)
          → (r : Option Refusal) × RowCheck M n ws r
      from (inl (m, b, low)) = (None, checks.accepted e codes (λ none. low.holds (none m b)))
      from (inr none) = (_, checks.none_named e codes (λ m b. not_not_zero (weights_of ws m) (none m b)))

  row_coded : length ws ≡ n → (r : Option Refusal) × RowCheck M n ws r
  row_coded e = from (lowest-below (length ws) (StrayWeight M ws) stray)
    where
      stray : (m : ℕ) → m < length ws → Dec (StrayWeight M ws m)
      stray m b = elim (dec_le M.size (weights_of ws m)) [ yes h ↦ yes (b, h) | no h ↦ no (λ s. h s.1) ]

      from :
          ((m : ℕ) × (m < length ws) × Lowest (StrayWeight M ws) m) ⊎ ((m : ℕ) → m < length ws → StrayWeight M ws m → ⊥)
          → (r : Option Refusal) × RowCheck M n ws r
      from (inl (m, b, low)) = (_, checks.not_an_element e m low)
      from (inr none) = row_named e (none_stray M n ws e none)

  pub row_checked : (r : Option Refusal) × RowCheck M n ws r
  row_checked = elim (ℕ_discrete (length ws) n) [ yes e ↦ row_coded e | no ne ↦ (_, checks.wrong_length ne) ]

pub witness_checked : (M : FieldModel) (n i a k : ℕ) → (r : Option Refusal) × WitnessCheck M n i a k r
witness_checked M n i a k =
    elim (dec_lt i n) [
      | no h ↦ (_, checks.no_such_member (omega arith))
      | yes b ↦
          elim (dec_lt a M.size) [
            | no h ↦ (_, checks.not_an_element b (omega arith))
            | yes c ↦ elim (ℕ_discrete k n) [ yes d ↦ (None, checks.accepted b c d) | no d ↦ (_, checks.wrong_length b c d) ]
          ]
    ]
