use Rattle.std.proofs.Common.{◌≡◌, ℕ, ◌+◌, ◌-◌, ◌≤◌, Bool, ◌&&◌, eqb, ltb, List, length, take, drop, sym, ap, ◌∙◌, arith}
use Rattle.std.specs.List.{take_while}
use Rattle.std.specs.Char.{is_ascii_digit}
use Rattle.query.specs.Numbers.{digits, worth}
use Rattle.std.proofs.lemmas.List.{take_rest}
use Rattle.std.proofs.lemmas.Result.{err_from_is_err_and}
use Rattle.query.proofs.Digits.{digits-digits, digits_taken, take-digits, worth-short}
use Rattle.query.proofs.Checks.{number_none, number-zero, number_long, number_out, number_in}
use Rattle.query.proofs.reader.Reader.read_number.Goals as goal

module _ (line : List ℕ) (at : ℕ) where
  -- the line from the place on, as the code cuts it
  abbrev rest : List ℕ
  rest = take (length line - at) (drop at line)

  abbrev here : List ℕ
  here = digits (drop at line)

  counted : (k : ℕ) → k ≡ length (take_while is_ascii_digit rest) → k ≡ length here
  counted k e = e ∙ ap length (sym (digits_taken rest)) ∙ ap (λ bs. length (digits bs)) (take_rest line at)

  part : (k : ℕ) → k ≡ length here → take k rest ≡ here
  part k n = ap (λ bs. take k bs) (take_rest line at) ∙ ap (λ i. take i (drop at line)) n ∙ take-digits (drop at line)

  tested :
      (k first : ℕ) (t v : Bool) → k ≡ length here → t ≡ (eqb first 0 && ltb 1 k) → t ≡ v
      → (eqb first 0 && ltb 1 (length here)) ≡ v
  tested k first t v n h e = ap (λ j. eqb first 0 && ltb 1 j) (sym n) ∙ sym h ∙ e

pub returns-in_err-first : goal.returns-in_err-first
returns-in_err-first c =
    let p = err_from_is_err_and c.from_residual.result c.from_residual.ensures.1 in
    rw (p.1, p.2) (number_none _ _ c.args.self.now.line.now c.args.at.0 _ (sym c.read_digit.ensures ∙ c.in_err-first.was))

pub returns-then-leading_zero : goal.returns-then-leading_zero
returns-then-leading_zero c =
    let line = c.args.self.now.line.now in
    let at = c.args.at.0 in
    let n = counted line at _ c.digit_count-count.ensures in
    number-zero _ _ line at _ (sym c.read_digit.ensures ∙ c.in_ok-first.was)
    (tested line at _ _ _ _ n c.leading_zero.ensures c.if-leading_zero.true)

pub returns-then-count-gt5 : goal.returns-then-count-gt5
returns-then-count-gt5 c =
    let line = c.args.self.now.line.now in
    let at = c.args.at.0 in
    let n = counted line at _ c.digit_count-count.ensures in
    number_long _ _ line at _ (sym c.read_digit.ensures ∙ c.in_ok-first.was)
    (tested line at _ _ _ _ n c.leading_zero.ensures c.if-leading_zero.false) (omega (arith, n))

pub digits_worth-value-requires : goal.digits_worth-value-requires
digits_worth-value-requires c =
    let line = c.args.self.now.line.now in
    let at = c.args.at.0 in
    let n = counted line at _ c.digit_count-count.ensures in
    let short : length (digits (drop at line)) ≤ 5 = omega (arith, n) in
    rw (part line at _ n) (record { all = digits-digits (drop at line); few = worth-short (drop at line) short })

pub returns-then-value-least : goal.returns-then-value-least
returns-then-value-least c =
    let line = c.args.self.now.line.now in
    let at = c.args.at.0 in
    let n = counted line at _ c.digit_count-count.ensures in
    number_out _ _ line at _ (sym c.read_digit.ensures ∙ c.in_ok-first.was) c.digits_worth-value.result
    (tested line at _ _ _ _ n c.leading_zero.ensures c.if-leading_zero.false) (omega (arith, n))
    (c.digits_worth-value.ensures ∙ ap (worth 0) (part line at _ n)) (omega arith) (omega arith)

pub returns : goal.returns
returns c =
    let line = c.args.self.now.line.now in
    let at = c.args.at.0 in
    let n = counted line at _ c.digit_count-count.ensures in
    number_in _ _ line at _ (sym c.read_digit.ensures ∙ c.in_ok-first.was) c.digits_worth-value.result
    (tested line at _ _ _ _ n c.leading_zero.ensures c.if-leading_zero.false) (omega (arith, n))
    (c.digits_worth-value.ensures ∙ ap (worth 0) (part line at _ n)) _ (ap (λ k. at + k) n) (omega arith) (omega arith)
