-- Two rows over amounts, and what they leave free. Assumes nothing.
use Rattle.std.proofs.Common.{◌≡◌, ℕ, zero, suc, ◌+◌, ◌*◌, ◌%◌, ◌<◌, ◌≢◌, [], ◌∷◌, None, sym, refl, ap, ◌∙◌, subst, ap₂, arith, lit<}
use native.Mathlib.Nat.{add-mod}
use Rattle.refusal.specs.declared.Refusal.TheVariants.{Discloses}
use Rattle.refusal.specs.declared.Site.TheVariants.{OfMember}
use Rattle.field.specs.Sums.{Vector, Codes, minus, sum, weights_of}
use Rattle.amounts.specs.Prime.{amounts}
use Rattle.amounts.specs.Modular.{times-mod-left}
use Rattle.amounts.specs.Inverse.{found}
use Rattle.server.specs.Tables.{value_at}
use Rattle.echelon.specs.Rows.{Pins, Fixes, given_row}
use Rattle.echelon.specs.Reduced.{at, Reduced, ReducedForm}
use Rattle.echelon.specs.Witness.{Free, base, direction, Leads, from_free, from_pivot, Witness}
use Rattle.checks.specs.Checks as check
use Rattle.law.specs.States.{State, new_state, seen, submits, refused, witnessed}
use Rattle.law.specs.Law.{PinnedBy, Due, Lawful, ends}
use Rattle.law.specs.Law as law
use Rattle.worked_cases.specs.Cases.{weighing, wages, two_answered, after_two, two_rows}
use Rattle.worked_cases.proofs.Few.{of_two, of_three, table, none, pins_nobody, lowest-zero, passes, goes_on-answered}

pub codes : (a b c : ℕ) → a < 65521 → b < 65521 → c < 65521 → Codes amounts 3 (table a b c)
codes a b c ha hb hc = of_three (λ m. table a b c m < 65521) ha hb hc

-- a sum over three members is reduced once, where each step reduced it
folded : (x y z : ℕ) → (((0 + x % 65521) % 65521 + y % 65521) % 65521 + z % 65521) % 65521 ≡ (x + y + z) % 65521
folded x y z =
    let first : (0 + x % 65521) % 65521 ≡ x % 65521 = omega arith in
    ap (λ v. ((v + y % 65521) % 65521 + z % 65521) % 65521) first
    ∙ ap (λ v. (v + z % 65521) % 65521) (sym (add-mod x y 65521))
    ∙ sym (add-mod (x + y) z 65521)

pub sum_is : (a b c : ℕ) (t : Vector) → sum amounts 3 (table a b c) t ≡ (a * t 0 + b * t 1 + c * t 2) % 65521
unfolding sum
sum_is a b c t = folded (a * t 0) (b * t 1) (c * t 2)

module _ (t : Vector) (ct : Codes amounts 3 t) where
  under_0 : t 0 < 65521
  under_0 = ct 0 (lit< tt)

  under_1 : t 1 < 65521
  under_1 = ct 1 (lit< tt)

  under_2 : t 2 < 65521
  under_2 = ct 2 (lit< tt)

  -- the record's rows have their figures exactly where the two rows answered have theirs
  leads : sum amounts 3 (table 1 1 0) t ≡ 215 → sum amounts 3 (table 0 1 1) t ≡ 165 → sum amounts 3 (table 1 0 65520) t ≡ 50
  leads e f =
      let a = under_0 in let b = under_1 in let c = under_2 in
      let e' : (1 * t 0 + 1 * t 1 + 0 * t 2) % 65521 ≡ 215 = sym (sum_is 1 1 0 t) ∙ e in
      let f' : (0 * t 0 + 1 * t 1 + 1 * t 2) % 65521 ≡ 165 = sym (sum_is 0 1 1 t) ∙ f in
      sum_is 1 0 65520 t ∙ omega arith

  follows : sum amounts 3 (table 1 0 65520) t ≡ 50 → sum amounts 3 (table 0 1 1) t ≡ 165 → sum amounts 3 (table 1 1 0) t ≡ 215
  follows e f =
      let a = under_0 in let b = under_1 in let c = under_2 in
      let e' : (1 * t 0 + 0 * t 1 + 65520 * t 2) % 65521 ≡ 50 = sym (sum_is 1 0 65520 t) ∙ e in
      let f' : (0 * t 0 + 1 * t 1 + 1 * t 2) % 65521 ≡ 165 = sym (sum_is 0 1 1 t) ∙ f in
      sum_is 1 1 0 t ∙ omega arith

-- 32761 times twice an element is the element
halved : (a : ℕ) → a < 65521 → ((2 * a) % 65521 * 32761) % 65521 ≡ a
halved a h = times-mod-left 65521 (2 * a) 32761 ∙ omega arith

-- numbers that leave equal remainders, added and taken away
added : (a a' b b' : ℕ) → a % 65521 ≡ a' % 65521 → b % 65521 ≡ b' % 65521 → (a + b) % 65521 ≡ (a' + b') % 65521
added a a' b b' e f = add-mod a b 65521 ∙ ap₂ (λ x y. (x + y) % 65521) e f ∙ sym (add-mod a' b' 65521)

taken : (a a' b b' : ℕ) → (a + b) % 65521 ≡ (a' + b') % 65521 → b % 65521 ≡ b' % 65521 → a % 65521 ≡ a' % 65521
taken a a' b b' e f = omega arith

-- twice member 0 is the sum over 0 1 and that over 0 2 less that over 1 2
pinned : Pins amounts 3 (table 1 0 1 ∷ table 0 1 1 ∷ table 1 1 0 ∷ []) 0
pinned t u ct cu same =
    let equal : (a b c : ℕ) → sum amounts 3 (table a b c) t ≡ sum amounts 3 (table a b c) u
    → (a * t 0 + b * t 1 + c * t 2) % 65521 ≡ (a * u 0 + b * u 1 + c * u 2) % 65521 = λ a b c e. sym (sum_is a b c t) ∙ e ∙ sum_is a b c u in
    let both = added _ _ _ _ (equal 1 0 1 same.0) (equal 1 1 0 same.1.1.0) in
    let rest = equal 0 1 1 same.1.0 in
    let split : (x : Vector) → (1 * x 0 + 0 * x 1 + 1 * x 2) + (1 * x 0 + 1 * x 1 + 0 * x 2) ≡ 2 * x 0 + (0 * x 0 + 1 * x 1 + 1 * x 2) = λ x. omega arith in
    let twice : (2 * t 0) % 65521 ≡ (2 * u 0) % 65521 =
    taken (2 * t 0) (2 * u 0) _ _ (ap (λ v. v % 65521) (sym (split t)) ∙ both ∙ ap (λ v. v % 65521) (split u)) rest in
    sym (halved (t 0) (under_0 t ct)) ∙ ap (λ v. (v * 32761) % 65521) twice ∙ halved (u 0) (under_0 u cu)

zeros : Codes amounts 3 none
zeros = codes 0 0 0 (lit< tt) (lit< tt) (lit< tt)

-- neither row is fixed by the rows before it
first_unfixed : Fixes amounts 3 [] (table 1 1 0) → ⊥
unfolding sum
first_unfixed fixes =
    let e : ◌≡◌ {A = ℕ} 0 1 = fixes none (table 1 0 0) zeros (codes 1 0 0 (lit< tt) (lit< tt) (lit< tt)) tt in omega arith

second_unfixed : Fixes amounts 3 (table 1 1 0 ∷ []) (table 0 1 1) → ⊥
unfolding sum
second_unfixed fixes =
    let e : ◌≡◌ {A = ℕ} 0 1 = fixes none (table 0 0 1) zeros (codes 0 0 1 (lit< tt) (lit< tt) (lit< tt)) (refl, tt) in omega arith

reduced : Reduced amounts 3 two_rows
reduced = record {
  weights_codes =
      of_two (λ a. Codes amounts 3 (at two_rows a).weights) (codes 1 0 65520 (lit< tt) (lit< tt) (lit< tt)) (codes 0 1 1 (lit< tt) (lit< tt) (lit< tt));
  figure_code = of_two (λ a. (at two_rows a).figure < 65521) (lit< tt) (lit< tt);
  pivot_below = of_two (λ a. (at two_rows a).pivot < 3) (lit< tt) (lit< tt);
  pivots_rise = λ a b less few. rises a b less few;
  own_pivot = of_two (λ a. (at two_rows a).weights (at two_rows a).pivot ≡ 1) refl refl;
  lowest_named = λ a m few less. low a m few less;
  other_pivots = λ a b few few' ne. other a b few few' ne;
}
  where
    rises : (a b : ℕ) → a < b → b < 2 → (at two_rows a).pivot < (at two_rows b).pivot
    rises zero zero less few = absurd (omega arith)
    rises zero (suc zero) less few = lit< tt
    rises (suc a) (suc zero) less few = absurd (omega arith)
    rises (suc a) zero less few = absurd (omega arith)
    rises a (suc (suc b)) less few = absurd (omega arith)

    low : (a m : ℕ) → a < 2 → m < (at two_rows a).pivot → (at two_rows a).weights m ≡ 0
    low zero m few less = absurd (omega arith)
    low (suc zero) zero few less = refl
    low (suc zero) (suc m) few less = absurd (omega arith)
    low (suc (suc a)) m few less = absurd (omega arith)

    other : (a b : ℕ) → a < 2 → b < 2 → a ≢ b → (at two_rows a).weights (at two_rows b).pivot ≡ 0
    other zero zero few few' ne = absurd (ne refl)
    other zero (suc zero) few few' ne = refl
    other (suc zero) zero few few' ne = refl
    other (suc zero) (suc zero) few few' ne = absurd (ne refl)
    other (suc (suc a)) b few few' ne = absurd (omega arith)
    other zero (suc (suc b)) few few' ne = absurd (omega arith)
    other (suc zero) (suc (suc b)) few few' ne = absurd (omega arith)

pub record_of_the_two : ReducedForm amounts 3 after_two.given two_rows
unfolding sum
record_of_the_two = record {
  reduced = reduced;
  fits = λ t ct f.
      let second = f.0 second_unfixed in
      let first = f.1.0 first_unfixed in (leads t ct first second, (second, tt));
  given_fits = λ t ct f. ((λ free. f.1.0), ((λ free. follows t ct f.0 f.1.0), tt));
}

-- the sums answered
pub sum_of_0_1 : sum amounts 3 (weights_of (weighing (1 ∷ 1 ∷ 0 ∷ []))) (value_at wages) ≡ 215
unfolding sum
sum_of_0_1 = refl

pub sum_of_1_2 : sum amounts 3 (weights_of (weighing (0 ∷ 1 ∷ 1 ∷ []))) (value_at wages) ≡ 165
unfolding sum
sum_of_1_2 = refl

-- the events: over 1, 65520, 1 both rows have the sum 0
first-free : (i : ℕ) → PinnedBy amounts (seen (new_state wages)) (weights_of (weighing (1 ∷ 1 ∷ 0 ∷ []))) i → ⊥
unfolding sum
first-free =
    pins_nobody amounts [] (weights_of (weighing (1 ∷ 1 ∷ 0 ∷ []))) 1 65520 1 zeros (codes 1 65520 1 (lit< tt) (lit< tt) (lit< tt))
    (refl, tt) (λ e. omega arith) (λ e. omega arith) (λ e. omega arith)

-- the state after the first row
abbrev after_one : State
after_one = record { table = wages; given = given_row (weighing (1 ∷ 1 ∷ 0 ∷ [])) 215 ∷ []; pending = None; issued = 1 }

second_free : (i : ℕ) → PinnedBy amounts (seen after_one) (weights_of (weighing (0 ∷ 1 ∷ 1 ∷ []))) i → ⊥
unfolding sum
second_free =
    pins_nobody amounts (seen after_one).rows (weights_of (weighing (0 ∷ 1 ∷ 1 ∷ []))) 1 65520 1 zeros
    (codes 1 65520 1 (lit< tt) (lit< tt) (lit< tt)) (refl, (refl, tt)) (λ e. omega arith) (λ e. omega arith) (λ e. omega arith)

pub two_are_answered : Lawful amounts (new_state wages) two_answered after_two
two_are_answered =
    goes_on-answered amounts (new_state wages) after_two (1 ∷ 1 ∷ 0 ∷ []) 1 215 _ refl
    (record {
      ready = record { none_open = refl; left = lit< tt };
      passed = passes amounts 1 1 0 (lit< tt) (lit< tt) (lit< tt) (λ e. omega arith);
      pins_nobody = first-free;
    })
    sum_of_0_1
    (goes_on-answered amounts after_one after_two (0 ∷ 1 ∷ 1 ∷ []) 2 165 [] refl
    (record {
      ready = record { none_open = refl; left = lit< tt };
      passed = passes amounts 0 1 1 (lit< tt) (lit< tt) (lit< tt) (λ e. omega arith);
      pins_nobody = second_free;
    })
    sum_of_1_2 ends)

pub third_refused : Due amounts after_two (refused (submits (weighing (1 ∷ 0 ∷ 1 ∷ []))) (Discloses (OfMember (record { 0 = 0 }))))
unfolding sum
third_refused =
    law.refuses (submits (weighing (1 ∷ 0 ∷ 1 ∷ []))) (Discloses (OfMember (record { 0 = 0 })))
    (law.discloses (weighing (1 ∷ 0 ∷ 1 ∷ [])) 0 (record { none_open = refl; left = lit< tt })
    (passes amounts 1 0 1 (lit< tt) (lit< tt) (lit< tt) (λ e. omega arith))
    (lowest-zero (PinnedBy amounts (seen after_two) (weights_of (weighing (1 ∷ 0 ∷ 1 ∷ [])))) (lit< tt, pinned)))

-- member 2 is free
free_2 : Free two_rows 2
free_2 = of_two (λ a. (at two_rows a).pivot ≢ 2) (λ e. omega arith) (λ e. omega arith)

-- the opposite of 1 is its own inverse
inverse_of_65520 : amounts.inverse 65520 ≡ 65520
inverse_of_65520 = found 65520 65520 (lit< tt) refl

witnessed_0 : Witness amounts 3 two_rows 0 0 (table 0 215 65471)
witnessed_0 =
    let lowest : (k : ℕ) → k < 2 → Free two_rows k → (at two_rows 0).weights k ≡ 0 =
    of_two (λ k. Free two_rows k → (at two_rows 0).weights k ≡ 0) (λ free. absurd (free 0 (lit< tt) refl)) (λ free. absurd (free 1 (lit< tt) refl)) in
    let factor : amounts.times (minus amounts (base two_rows 0) 0) (amounts.inverse 65520) ≡ 65471 = ap (λ v. (50 * v) % 65521) inverse_of_65520 in
    record {
      member = 2;
      factor = 65471;
      leads = subst (Leads amounts 3 two_rows 0 0 2) factor (from_pivot 0 2 (lit< tt) refl (record { below = lit< tt; is_free = free_2; named = λ e. omega arith; lowest = lowest }));
      table = of_three (λ m. table 0 215 65471 m ≡ amounts.plus (base two_rows m) (amounts.times 65471 (direction amounts two_rows 2 m))) refl refl refl;
    }

witnessed_70 : Witness amounts 3 two_rows 2 70 (table 120 95 70)
witnessed_70 = record {
  member = 2;
  factor = 70;
  leads = from_free free_2;
  table = of_three (λ m. table 120 95 70 m ≡ amounts.plus (base two_rows m) (amounts.times 70 (direction amounts two_rows 2 m))) refl refl refl;
}

pub witness_of_0 : Due amounts after_two (witnessed 0 0 3 (0 ∷ 215 ∷ 65471 ∷ []))
witness_of_0 =
    law.fills 0 0 3 (0 ∷ 215 ∷ 65471 ∷ []) (record {
      passed = check.accepted (lit< tt) (lit< tt) refl;
      long = refl;
      rec = two_rows;
      form = record_of_the_two;
      made = witnessed_0;
    })

pub witness_of_70 : Due amounts after_two (witnessed 2 70 3 (120 ∷ 95 ∷ 70 ∷ []))
witness_of_70 =
    law.fills 2 70 3 (120 ∷ 95 ∷ 70 ∷ []) (record {
      passed = check.accepted (lit< tt) (lit< tt) refl;
      long = refl;
      rec = two_rows;
      form = record_of_the_two;
      made = witnessed_70;
    })
