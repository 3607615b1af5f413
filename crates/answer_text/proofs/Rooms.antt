-- What a fold over elements, which takes the length of each from the room, leaves of it. Assumes nothing.
use Rattle.std.proofs.Common.{◌≡◌, ℕ, ◌+◌, ◌<◌, List, [], ◌∷◌, length, sym, ap, ◌∙◌, subst, arith, Option, Some, None, MatchOption, Iter, Bor}
use denote.Param.Members.{Mut}
use Rattle.std.specs.Fn.{Called}
use Rattle.std.specs.Iterator.{Yields, YieldsThen}
use Rattle.std.specs.List.{FoldsTo}
use Rattle.std.proofs.lemmas.List.{length-append, nil_from_length}
use Rattle.field.specs.declared.Element.{Element}
use Rattle.server.specs.Tables.{codes}
use Rattle.answer_text.specs.AnswerLines.{after_space, spaced}

-- the length of the elements that an iterator has left
abbrev left_length : Iter Element → ℕ
left_length s = length (spaced (codes s.rest.now))

abbrev front_step : Iter Element → Option (Bor Element) → Iter Element → Type 0
front_step s r t = MatchOption r ((length s.rest.now ≡ 0) × (t ≡ s)) (λ x. s.rest.now ≡ x.now ∷ t.rest.now)

front_length : (s : Iter Element) (x : Bor Element) (t : Iter Element) → front_step s (Some x) t → left_length s ≡ length (after_space x.now.0) + left_length t
front_length s x t step = ap (λ es. length (spaced (codes es))) step ∙ length-append (after_space x.now.0) (spaced (codes t.rest.now))

-- a fold over elements, each turn of which takes an element's length from the room
module _ {F : Type 0} (g : Mut F (ℕ × (Bor Element × Unit {0})) (Option ℕ))
    (turn : (f : F) (l : ℕ) (x : Bor Element) (r : Option ℕ) (q : F) → Called g f (l, (x, tt)) r q → MatchOption r (l < length (after_space x.now.0)) (λ left. left + length (after_space x.now.0) ≡ l)) where
  abbrev Turns : F × ℕ → Bor Element → F × ℕ → Type 0
  Turns p x q = (v : Option ℕ) × Called g p.0 (p.1, (x, tt)) v q.0 × (v ≡ Some q.1)

  room_left : (xs : List (Bor Element)) (s t : Iter Element) (p q : F × ℕ) → Yields front_step s xs t → FoldsTo Turns p xs q → q.1 + left_length s ≡ p.1 + left_length t
  room_left [] s t p q run folds = let same = ap left_length run in let total = ap (λ (v : F × ℕ). v.1) folds in omega arith
  room_left (x ∷ xs) s t p q run folds =
      let first = front_length s x run.0 run.1 in
      let rest = room_left xs run.0 t folds.0 q run.2 folds.2 in
      let less = subst (λ r. MatchOption r (p.1 < length (after_space x.now.0)) (λ left. left + length (after_space x.now.0) ≡ p.1)) folds.1.2 (turn p.0 p.1 x folds.1.0 folds.0.0 folds.1.1) in
      omega arith

  pub room_after :
      (E : Type 0) (es : List Element) (s u : Iter Element) (f j : F) (room a : ℕ) (result : Option ℕ) (xs : List (Bor Element)) (o : Option (Bor Element))
      → s.rest.now ≡ es → YieldsThen front_step s xs o u → FoldsTo Turns (f, room) xs (j, a)
      → MatchOption o (result ≡ Some a) (λ x. (v : Option ℕ) × (h : F) × E × Called g j (a, (x, tt)) v h × (v ≡ None) × (result ≡ None))
      → MatchOption result (room < length (spaced (codes es))) (λ left. left + length (spaced (codes es)) ≡ room)
  room_after E es s u f j room a result xs None all run folds last =
      let whole = ap (λ us. length (spaced (codes us))) all in
      let left = room_left xs s run.0 (f, room) (j, a) run.1 folds in
      let none : left_length run.0 ≡ 0 = ap (λ es. length (spaced (codes es))) (nil_from_length run.0.rest.now run.2.0) in
      subst (λ r. MatchOption r (room < length (spaced (codes es))) (λ left. left + length (spaced (codes es)) ≡ room)) (sym last) (omega arith)
  room_after E es s u f j room a result xs (Some x) all run folds last =
      let whole = ap (λ us. length (spaced (codes us))) all in
      let left = room_left xs s run.0 (f, room) (j, a) run.1 folds in
      let first = front_length run.0 x u run.2 in
      let short = subst (λ r. MatchOption r (a < length (after_space x.now.0)) (λ left. left + length (after_space x.now.0) ≡ a)) last.4 (turn j a x last.0 last.1 last.3) in
      subst (λ r. MatchOption r (room < length (spaced (codes es))) (λ left. left + length (spaced (codes es)) ≡ room)) (sym last.5) (omega arith)
