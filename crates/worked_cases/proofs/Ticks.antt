-- Three rows over ticks. Assumes nothing.
use Rattle.std.proofs.Common.{◌≡◌, ℕ, ◌<◌, [], ◌∷◌, None, sym, refl, ap, ◌∙◌, ap₂, arith, lit<}
use Rattle.refusal.specs.declared.Refusal.TheVariants.{Discloses}
use Rattle.refusal.specs.declared.Site.TheVariants.{OfMember}
use Rattle.field.specs.Model.{FieldModel, FieldLaws}
use Rattle.field.specs.Sums.{Vector, Codes, sum, weights_of}
use Rattle.field.proofs.Zero.{zero-code, zero_right, zero-times}
use Rattle.ticks.specs.Polynomials.{ticks_field, double, by_bits, product}
use Rattle.ticks.specs.Laws.{laws}
use Rattle.echelon.specs.Rows.{given_row}
use Rattle.law.specs.States.{State, new_state, seen, submits, refused}
use Rattle.law.specs.Law.{PinnedBy, Due, Lawful, ends}
use Rattle.law.specs.Law as law
use Rattle.worked_cases.specs.Cases.{weighing, shifts, three_answered, after_three}
use Rattle.worked_cases.proofs.Few.{of_three, table, none, pins_nobody, lowest-zero, passes, goes_on-answered}

-- over every field: what all three members have, less what the last two have, is what the first has
module _ (M : FieldModel) (L : FieldLaws M) where
  module _ (t : Vector) (ct : Codes M 3 t) where
    terms : (a b c : ℕ) → sum M 3 (table a b c) t ≡ M.plus (M.plus (M.plus 0 (M.times a (t 0))) (M.times b (t 1))) (M.times c (t 2))
    unfolding sum
    terms a b c = refl

    of_all : sum M 3 (table 1 1 1) t ≡ M.plus (t 0) (M.plus (t 1) (t 2))
    of_all =
        let a = ct 0 (lit< tt) in
        let b = ct 1 (lit< tt) in
        let c = ct 2 (lit< tt) in
        rw (terms 1 1 1, L.times_one (t 0) a, L.times_one (t 1) b, L.times_one (t 2) c, L.plus_zero (t 0) a) (L.plus_assoc (t 0) (t 1) (t 2) a b c)

    of_last_two : sum M 3 (table 0 1 1) t ≡ M.plus (t 1) (t 2)
    of_last_two =
        let a = ct 0 (lit< tt) in
        let b = ct 1 (lit< tt) in
        let c = ct 2 (lit< tt) in
        rw (terms 0 1 1, zero-times M L (t 0) a, L.times_one (t 1) b, L.times_one (t 2) c, L.plus_zero 0 (zero-code M L), L.plus_zero (t 1) b) refl

    taken_away : t 0 ≡ M.plus (sum M 3 (table 1 1 1) t) (M.opposite (sum M 3 (table 0 1 1) t))
    taken_away =
        let a = ct 0 (lit< tt) in
        let s = M.plus (t 1) (t 2) in
        let hs : s < M.size = L.plus_below (t 1) (t 2) (ct 1 (lit< tt)) (ct 2 (lit< tt)) in
        sym (zero_right M L (t 0) a)
        ∙ ap (M.plus (t 0)) (sym (L.plus_opposite s hs))
        ∙ sym (L.plus_assoc (t 0) s (M.opposite s) a hs (L.opposite_below s hs))
        ∙ ap₂ (λ x y. M.plus x (M.opposite y)) (sym of_all) (sym of_last_two)

  pinned :
      (t u : Vector) → Codes M 3 t → Codes M 3 u → sum M 3 (table 1 1 1) t ≡ sum M 3 (table 1 1 1) u
      → sum M 3 (table 0 1 1) t ≡ sum M 3 (table 0 1 1) u → t 0 ≡ u 0
  pinned t u ct cu all last = taken_away t ct ∙ ap₂ (λ x y. M.plus x (M.opposite y)) all last ∙ sym (taken_away u cu)

codes : (a b c : ℕ) → a < 256 → b < 256 → c < 256 → Codes ticks_field 3 (table a b c)
codes a b c ha hb hc = of_three (λ m. table a b c m < 256) ha hb hc

zeros : Codes ticks_field 3 none
zeros = codes 0 0 0 (lit< tt) (lit< tt) (lit< tt)

ones : Codes ticks_field 3 (table 1 1 1)
ones = codes 1 1 1 (lit< tt) (lit< tt) (lit< tt)

-- the states after the first row, and after the first two
abbrev after_one : State
after_one = record { table = shifts; given = given_row (weighing (1 ∷ 1 ∷ 0 ∷ [])) 6 ∷ []; pending = None; issued = 1 }

abbrev after_two : State
after_two = record {
  table = shifts;
  given = given_row (weighing (0 ∷ 1 ∷ 1 ∷ [])) 13 ∷ given_row (weighing (1 ∷ 1 ∷ 0 ∷ [])) 6 ∷ [];
  pending = None;
  issued = 2;
}

-- over 1, 1, 1 each of the three rows has the sum 0
first-free : (i : ℕ) → PinnedBy ticks_field (seen (new_state shifts)) (weights_of (weighing (1 ∷ 1 ∷ 0 ∷ []))) i → ⊥
unfolding sum double by_bits product
first-free =
    pins_nobody ticks_field [] (weights_of (weighing (1 ∷ 1 ∷ 0 ∷ []))) 1 1 1 zeros ones (refl, tt) (λ e. omega arith) (λ e. omega arith) (λ e. omega arith)

second_free : (i : ℕ) → PinnedBy ticks_field (seen after_one) (weights_of (weighing (0 ∷ 1 ∷ 1 ∷ []))) i → ⊥
unfolding sum double by_bits product
second_free =
    pins_nobody ticks_field (seen after_one).rows (weights_of (weighing (0 ∷ 1 ∷ 1 ∷ []))) 1 1 1 zeros ones (refl, (refl, tt)) (λ e. omega arith)
    (λ e. omega arith) (λ e. omega arith)

third_free : (i : ℕ) → PinnedBy ticks_field (seen after_two) (weights_of (weighing (1 ∷ 0 ∷ 1 ∷ []))) i → ⊥
unfolding sum double by_bits product
third_free =
    pins_nobody ticks_field (seen after_two).rows (weights_of (weighing (1 ∷ 0 ∷ 1 ∷ []))) 1 1 1 zeros ones (refl, (refl, (refl, tt))) (λ e. omega arith)
    (λ e. omega arith) (λ e. omega arith)

pub three_are_answered : Lawful ticks_field (new_state shifts) three_answered after_three
unfolding sum double by_bits product
three_are_answered =
    goes_on-answered ticks_field (new_state shifts) after_three (1 ∷ 1 ∷ 0 ∷ []) 1 6 _ refl
    (record {
      ready = record { none_open = refl; left = lit< tt };
      passed = passes ticks_field 1 1 0 (lit< tt) (lit< tt) (lit< tt) (λ e. omega arith);
      pins_nobody = first-free;
    })
    refl
    (goes_on-answered ticks_field after_one after_three (0 ∷ 1 ∷ 1 ∷ []) 2 13 _ refl
    (record {
      ready = record { none_open = refl; left = lit< tt };
      passed = passes ticks_field 0 1 1 (lit< tt) (lit< tt) (lit< tt) (λ e. omega arith);
      pins_nobody = second_free;
    })
    refl
    (goes_on-answered ticks_field after_two after_three (1 ∷ 0 ∷ 1 ∷ []) 3 11 [] refl
    (record {
      ready = record { none_open = refl; left = lit< tt };
      passed = passes ticks_field 1 0 1 (lit< tt) (lit< tt) (lit< tt) (λ e. omega arith);
      pins_nobody = third_free;
    })
    refl ends))

pub all_refused : Due ticks_field after_three (refused (submits (weighing (1 ∷ 1 ∷ 1 ∷ []))) (Discloses (OfMember (record { 0 = 0 }))))
unfolding sum
all_refused =
    law.refuses (submits (weighing (1 ∷ 1 ∷ 1 ∷ []))) (Discloses (OfMember (record { 0 = 0 })))
    (law.discloses (weighing (1 ∷ 1 ∷ 1 ∷ [])) 0 (record { none_open = refl; left = lit< tt })
    (passes ticks_field 1 1 1 (lit< tt) (lit< tt) (lit< tt) (λ e. omega arith))
    (lowest-zero (PinnedBy ticks_field (seen after_three) (weights_of (weighing (1 ∷ 1 ∷ 1 ∷ []))))
    (lit< tt, λ t u ct cu same. pinned ticks_field laws t u ct cu same.0 same.1.1.0)))
