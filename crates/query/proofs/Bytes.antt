-- The byte and the digits at a place of a line. Assumes nothing.
use Rattle.std.proofs.Common.{◌≡◌, ℕ, ◌+◌, ◌<◌, ◌≤◌, true, false, List, [], ◌∷◌, length, get_or, drop, Some, None, refl, ap, ◌∙◌, arith}
use Rattle.std.proofs.lemmas.List.{at_drop_more, at_drop_all, drop-drop}
use Rattle.std.proofs.lemmas.Bool.{eqb-true, eq-eqb, ne_eqb}
use Rattle.query.specs.Numbers.{head, byte_at, is_byte, stands_at}

module _ (line : List ℕ) (p : ℕ) where
  pub byte_within : p < length line → byte_at line p ≡ Some (get_or line p 0)
  byte_within h = at_drop_more head line p 0 h

  pub byte_past : length line ≤ p → byte_at line p ≡ None
  byte_past h = at_drop_all head line p h

is_front : (b : ℕ) (xs : List ℕ) → is_byte b (head xs) ≡ true → xs ≡ b ∷ drop 1 xs
is_front b [] t = absurd (let z : ◌≡◌ {A = ℕ} 0 1 = cc in omega arith)
is_front b (c ∷ cs) t = ap (λ d. d ∷ cs) (eqb-true c b t)

module _ (line : List ℕ) (p b : ℕ) where
  -- a byte that stands at a place begins what is left of the line there
  pub stands-front : stands_at line p b ≡ true → drop p line ≡ b ∷ drop (p + 1) line
  stands-front t = is_front b (drop p line) t ∙ ap (λ u. b ∷ u) (drop-drop 1 p line)

  pub front-stands : (bs : List ℕ) → drop p line ≡ b ∷ bs → stands_at line p b ≡ true
  front-stands bs e = ap (λ xs. is_byte b (head xs)) e ∙ eq-eqb b b refl

  pub front_other : (c : ℕ) (bs : List ℕ) → drop p line ≡ c ∷ bs → (c ≡ b → ⊥) → stands_at line p b ≡ false
  front_other c bs e n = ap (λ xs. is_byte b (head xs)) e ∙ ne_eqb c b n

  pub front_none : drop p line ≡ [] → stands_at line p b ≡ false
  front_none e = ap (λ xs. is_byte b (head xs)) e
