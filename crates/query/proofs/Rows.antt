-- Which members a row has, once the weights of some entries are set in it. Assumes nothing.
use Rattle.std.proofs.Common.{◌≡◌, ℕ, ◌<◌, ◌≤◌, ◌≢◌, ◌⊎◌, List, [], ◌∷◌, length, set, sym, refl, ap, ◌∙◌, inl, inr, ⊎_elim, arith}
use Rattle.std.specs.List.{AllByRecursion}
use Rattle.std.proofs.lemmas.List.{length-set, get_or-set_same, get_or-set_other}
use Rattle.std.proofs.lemmas.Bool.{cases_eq}
use Rattle.field.specs.Sums.{weights_of}
use Rattle.field.specs.declared.Element.{Element}
use Rattle.query.specs.declared.items.Limits.{Limits}
use Rattle.query.specs.Items.{code}
use Rattle.query.specs.Grammar.{Entry, alone, weighted, member, weight, InRange, with_weights}
use Rattle.query.specs.Firsts.{Has}

some_weight : (lim : Limits) (e : Entry) → InRange lim e → 0 < weight e
some_weight lim (alone m) range = omega arith
some_weight lim (weighted m w) range = let low = range.1 in omega arith

member_below : (lim : Limits) (e : Entry) → InRange lim e → member e < lim.members
member_below lim (alone m) range = range
member_below lim (weighted m w) range = range.0

-- a member is that of some entry, or of none
decide : (m : ℕ) (es : List Entry) → Has m es ⊎ AllByRecursion (λ f. member f ≢ m) es
decide m [] = inr tt
decide m (e ∷ es) =
    ⊎_elim (λ same. inl (inl same)) (λ other. ⊎_elim (λ h. inl (inr h)) (λ a. inr (other, a)) (decide m es))
    (cases_eq (member e) m)

-- entries of other members leave a weight as it is
kept :
    (m : ℕ) (es : List Entry) (row : List Element) → AllByRecursion (λ f. member f ≢ m) es
    → weights_of (with_weights row es) m ≡ weights_of row m
kept m [] row a = refl
kept m (e ∷ es) row a =
    kept m es (set row (member e) (code (weight e))) a.1
    ∙ ap (λ x. x.0) (get_or-set_other row (member e) m (code (weight e)) (code 0) (λ z. a.0 (sym z)))

module _ (lim : Limits) (few : lim.members ≤ 64) (m : ℕ) where
  -- a member that an entry names has a weight
  has_weight :
      (es : List Entry) (row : List Element) → length row ≡ 64 → AllByRecursion (InRange lim) es → Has m es
      → weights_of (with_weights row es) m ≡ 0 → ⊥
  has_weight [] row long range h z = h
  has_weight (e ∷ es) row long range h z =
      let next : List Element = set row (member e) (code (weight e)) in
      let later : Has m es → ⊥ = λ more. has_weight es next (length-set row _ _ ∙ long) range.1 more z in
      ⊎_elim
      (λ same.
      ⊎_elim later
      (λ others.
      let below : member e < length row = let b = member_below lim e range.0 in omega arith in
      let set_so = ap (λ x. x.0) (get_or-set_same row (member e) (code (weight e)) (code 0) below) in
      let none : weights_of next (member e) ≡ 0 = ap (weights_of next) same ∙ sym (kept m es next others) ∙ z in
      let some = some_weight lim e range.0 in omega arith)
      (decide m es))
      later h

  pub unnamed_apart :
      (es : List Entry) (row : List Element) → length row ≡ 64 → AllByRecursion (InRange lim) es
      → weights_of (with_weights row es) m ≡ 0 → AllByRecursion (λ f. member f ≢ m) es
  unnamed_apart es row long range z =
      ⊎_elim (λ h. absurd (has_weight es row long range h z)) (λ a. a) (decide m es)

  pub named_has :
      (es : List Entry) (row : List Element) → weights_of row m ≡ 0 → weights_of (with_weights row es) m ≢ 0 → Has m es
  named_has es row z some =
      ⊎_elim (λ h. h) (λ a. absurd (some (kept m es row a ∙ z))) (decide m es)
