-- Checks in an order, of which the first that fails gives the answer: there is one answer. Assumes nothing.
use Rattle.std.proofs.Common.{◌≡◌, ℕ, zero, suc, ◌<◌, sym, ap, ◌∙◌, subst, arith}
use native.Mathlib.Decide.{ℕ_discrete, dec_lt}

module _ {A : Type 0} (asks : ℕ → Type 0) (answer : ℕ → A) where
  -- what the first l checks ask, the last one first
  abbrev pub All : ℕ → Type 0
  All zero = Unit {0}
  All (suc l) = asks l × All l

  -- check l is the first that fails, and r is its answer
  pub record Level (r : A) : Type 0 where
    pub level : ℕ
    pub passed : All level
    pub fails : asks level → ⊥
    pub is : r ≡ answer level

  pick : (j l : ℕ) → j < l → All l → asks j
  pick j zero h all = absurd (omega arith)
  pick j (suc l) h all =
      elim (ℕ_discrete j l) [ yes e ↦ subst asks (sym e) all.0 | no ne ↦ pick j l (omega arith) all.1 ]

  pub one_level : (r r' : A) → Level r → Level r' → r ≡ r'
  one_level r r' x y =
      elim (dec_lt x.level y.level) [
        | yes h ↦ absurd (x.fails (pick x.level y.level h y.passed))
        | no h ↦
            elim (dec_lt y.level x.level) [
              | yes h' ↦ absurd (y.fails (pick y.level x.level h' x.passed))
              | no h' ↦ let same : x.level ≡ y.level = omega arith in x.is ∙ ap answer same ∙ sym y.is
            ]
      ]
