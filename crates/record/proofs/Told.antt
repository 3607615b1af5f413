-- What is known of an option by whether it is empty. Assumes nothing.
use Rattle.std.proofs.Common.{◌≡◌, Bool, true, false, not, None, Some, Option, is_some, MatchOption, sym}
use Rattle.std.specs.Bool.{then_some}
use borrow.Author.Tests.{clash}

module _ {X : Type 0} (A : Type 0) (B : X → Type 0) where
  pub none_told : (o : Option X) → is_some o ≡ false → MatchOption o A B → A
  none_told None e told = told
  none_told (Some x) e told = absurd (clash (sym e))

  pub some_told : (o : Option X) → is_some o ≡ true → MatchOption o A B → (x : X) × B x
  some_told None e told = absurd (clash e)
  some_told (Some x) e told = (x, told)

  -- the same of y, given where the option is empty
  pub told_of :
      {Y : Type 0} (P : Type 0) (Q : Y → Type 0) (y : Y) (b : Bool) (o : Option X) → is_some o ≡ not b → MatchOption o A B
      → (A → Q y) → ((x : X) → B x → P) → MatchOption (then_some b y) P Q
  told_of P Q y true o e told alone other = alone (none_told o e told)
  told_of P Q y false o e told alone other = let found = some_told o e told in other found.0 found.1

  -- what is known of an option, said otherwise
  pub option_told : (P : Type 0) (Q : X → Type 0) (o : Option X) → (A → P) → ((x : X) → B x → Q x) → MatchOption o A B → MatchOption o P Q
  option_told P Q None none some told = none told
  option_told P Q (Some x) none some told = some x told
