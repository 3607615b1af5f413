-- The first line of some bytes, as a search for the newline finds it. Assumes nothing.
use Rattle.std.proofs.Common.{◌≡◌, ℕ, ◌+◌, ◌-◌, ◌<◌, ◌≢◌, List, ◌∷◌, ◌++◌, length, get_or, take, drop, Some, None, MatchOption, Option, sym, ap, ◌∙◌, subst, arith, length-take, length-drop, take_all}
use Rattle.std.specs.List.{AllWithin, HoldsAt}
use Rattle.std.proofs.lemmas.List.{get_or-take, drop_more, take-append-drop}
use Rattle.std.proofs.lemmas.List.Elements.{recursion_from_All}
use Rattle.replay_text.specs.Replays.{NoNewline}

module _ (bs : List ℕ) where
  abbrev pub FirstNewline : Option ℕ → Type 0
  FirstNewline o =
      MatchOption o (AllWithin (λ (b : ℕ). b ≢ 10) bs 0 (length bs))
      (λ i. (i < length bs) × HoldsAt (λ (b : ℕ). b ≡ 10) bs i × AllWithin (λ (b : ℕ). b ≢ 10) bs 0 i)

  pub no_newline : (o : Option ℕ) → o ≡ None → FirstNewline o → NoNewline bs
  no_newline o none first =
      let all = subst FirstNewline none first in
      recursion_from_All (λ (b : ℕ). b ≢ 10) bs (λ k d h. all k d (omega arith) h)

  pub line_cut :
      (o : Option ℕ) (i : ℕ) → o ≡ Some i → FirstNewline o
      → NoNewline (take i bs) × (bs ≡ take i bs ++ (10 ∷ take (length bs - (i + 1)) (drop (i + 1) bs)))
  line_cut o i some first =
      let found = subst FirstNewline some first in
      let size = length-take i bs in
      let left = length-drop (i + 1) bs in
      let rest : take (length bs - (i + 1)) (drop (i + 1) bs) ≡ drop (i + 1) bs = take_all (length bs - (i + 1)) (drop (i + 1) bs) (omega (arith, left)) in
      let newline : get_or bs i 0 ∷ drop (i + 1) bs ≡ 10 ∷ take (length bs - (i + 1)) (drop (i + 1) bs) =
      ap (λ b. b ∷ drop (i + 1) bs) (found.1 0) ∙ ap (λ l. 10 ∷ l) (sym rest) in (
        recursion_from_All (λ (b : ℕ). b ≢ 10) (take i bs)
            (λ k d h.
            let within : k < i = omega (arith, h, size) in
            subst (λ (b : ℕ). b ≢ 10) (sym (get_or-take i bs k d within)) (found.2 k d (omega arith) within)),
        sym (take-append-drop i bs) ∙ ap (λ l. take i bs ++ l) (drop_more bs i 0 found.0 ∙ newline),
      )
