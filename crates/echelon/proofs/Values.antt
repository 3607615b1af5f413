-- The value of a row with its figure over a table of elements, which clearing keeps: value, leftover_value, fit_value, agree_value.
-- Assumes nothing.
use mathlib.Core.Path.{◌≡◌, refl, sym, ap, ap₂, ◌∙◌}
use mathlib.Core.Logic.{◌⊎◌, inl, inr, ◌↔◌}
use mathlib.Core.Bool.{true, false}
use mathlib.Core.List.{List, [], ◌∷◌}
use Prim.Native.Nat.{ℕ, suc, ◌<◌}
use native.Mathlib.Omega.{arith}
use lib.Dec.{eqb, eqb→eq, eqb_refl}
use lib.ListN.{length}
use Rattle.field.specs.Model.{FieldModel, FieldLaws}
use Rattle.field.proofs.Zero.{zero-code}
use Rattle.echelon.specs.Rows.{Vector, Codes, minus, sum, Figured, CodedRow}
use Rattle.echelon.specs.Reduced.{Pivoted, figured, at, Reduced}
use Rattle.echelon.specs.Elimination.{cleared, leftover, scaled}
use Rattle.echelon.proofs.Field.{total, total_cong, total_linear, total_zero, one_term, plus_linear, row_linear, table_linear, zero_right, times_zero, zero-times, one_right, times_neg_one, neg_times, neg_zero, difference_zero}
use Rattle.echelon.proofs.Codes.{field_of, elt, elt_path, elt_zero, elt_one, elt_plus, elt_times, elt_opposite, elt_minus, sum_below, elt_sum, minus-below}
use Rattle.echelon.proofs.Indexed.{by_test}

-- rows of elements, with their pivots below n
abbrev pub AllCodes : FieldModel → ℕ → List Pivoted → Type 0
AllCodes M n rec = (a : ℕ) → a < length rec → CodedRow M n (figured (at rec a)) × ((at rec a).pivot < n)

pub all_codes : (M : FieldModel) (n : ℕ) (rec : List Pivoted) → Reduced M n rec → AllCodes M n rec
all_codes M n rec R a b = ((R.weights_codes a b, R.figure_code a b), R.pivot_below a b)

module _ (M : FieldModel) (L : FieldLaws M) (n : ℕ) where
  open field_of M L use {Elt, zer, one, ◌⊕◌, ◌⊗◌, neg, plus_zero, times_comm, plus_neg}

  infixl 60 ◌⊕◌
  infixl 70 ◌⊗◌
  -- the sum over the table t, and the figure y times
  pub value : (ℕ → Elt) → Elt → Figured → Elt
  value t y g = total (field_of M L) n (λ m. elt M L (g.row m) ⊗ t m) ⊕ (elt M L g.figure ⊗ y)

  value_combined :
      (t : ℕ → Elt) (y k : Elt) (g h s : Figured)
      → ((m : ℕ) → m < n → elt M L (s.row m) ≡ elt M L (g.row m) ⊕ (k ⊗ elt M L (h.row m)))
      → elt M L s.figure ≡ elt M L g.figure ⊕ (k ⊗ elt M L h.figure)
      → value t y s ≡ value t y g ⊕ (k ⊗ value t y h)
  unfolding value
  value_combined t y k g h s rows figures =
      let F = field_of M L in
      let f : ℕ → Elt = λ m. elt M L (g.row m) ⊗ t m in
      let d : ℕ → Elt = λ m. elt M L (h.row m) ⊗ t m in
      ap₂ ◌⊕◌
      (total_cong F n (λ m. elt M L (s.row m) ⊗ t m) (λ m. f m ⊕ (k ⊗ d m))
      (λ m b. ap (λ x. x ⊗ t m) (rows m b) ∙ row_linear F (elt M L (g.row m)) (elt M L (h.row m)) k (t m))
      ∙ total_linear F n k f d)
      (ap (λ x. x ⊗ y) figures ∙ row_linear F (elt M L g.figure) (elt M L h.figure) k y)
      ∙ plus_linear F (total F n f) (elt M L g.figure ⊗ y) k (total F n d) (elt M L h.figure ⊗ y)

  -- an element less a product
  pub elt_less :
      (a b c : ℕ) → a < M.size → b < M.size → c < M.size
      → elt M L (minus M a (M.times b c)) ≡ elt M L a ⊕ (neg (elt M L b) ⊗ elt M L c)
  elt_less a b c ha hb hc =
      elt_minus M L a (M.times b c) ha (L.times_below b c hb hc)
      ∙ ap (λ x. elt M L a ⊕ x) (ap neg (elt_times M L b c hb hc) ∙ sym (neg_times (field_of M L) (elt M L b) (elt M L c)))

  pub less_below : (a b c : ℕ) → a < M.size → b < M.size → c < M.size → minus M a (M.times b c) < M.size
  less_below a b c ha hb hc = minus-below M L a (M.times b c) ha (L.times_below b c hb hc)

  pub times_nothing : (c : ℕ) → c < M.size → M.times c 0 ≡ 0
  times_nothing c hc =
      elt_path M L (M.times c 0) 0 (L.times_below c 0 hc (zero-code M L)) (zero-code M L)
      (elt_times M L c 0 hc (zero-code M L) ∙ ap (λ x. elt M L c ⊗ x) (elt_zero M L) ∙ times_zero (field_of M L) (elt M L c) ∙ sym (elt_zero M L))

  -- taking a product away adds the one with the opposite factor
  pub plus_opposite_times :
      (a b c : ℕ) → a < M.size → b < M.size → c < M.size → M.plus a (M.times (M.opposite b) c) ≡ minus M a (M.times b c)
  plus_opposite_times a b c ha hb hc =
      let away = L.opposite_below b hb in
      elt_path M L (M.plus a (M.times (M.opposite b) c)) (minus M a (M.times b c))
      (L.plus_below a (M.times (M.opposite b) c) ha (L.times_below (M.opposite b) c away hc)) (less_below a b c ha hb hc)
      (elt_plus M L a (M.times (M.opposite b) c) ha (L.times_below (M.opposite b) c away hc)
      ∙ ap (λ x. elt M L a ⊕ x) (elt_times M L (M.opposite b) c away hc ∙ ap (λ x. x ⊗ elt M L c) (elt_opposite M L b hb))
      ∙ sym (elt_less a b c ha hb hc))

  -- a product with 0 takes nothing away, and an element taken away from itself leaves 0
  pub less_none : (a b c : ℕ) → a < M.size → b < M.size → c < M.size → (b ≡ 0) ⊎ (c ≡ 0) → minus M a (M.times b c) ≡ a
  less_none a b c ha hb hc none =
      let F = field_of M L in
      let gone : (b ≡ 0) ⊎ (c ≡ 0) → neg (elt M L b) ⊗ elt M L c ≡ zer =
      elim [
        | inl e ↦ neg_times F (elt M L b) (elt M L c) ∙ ap (λ x. neg (x ⊗ elt M L c)) (ap (elt M L) e ∙ elt_zero M L) ∙ ap neg (zero-times F (elt M L c)) ∙ neg_zero F
        | inr e ↦ ap (λ x. neg (elt M L b) ⊗ x) (ap (elt M L) e ∙ elt_zero M L) ∙ times_zero F (neg (elt M L b))
      ]
      in
      elt_path M L (minus M a (M.times b c)) a (less_below a b c ha hb hc) ha
      (elt_less a b c ha hb hc ∙ ap (λ x. elt M L a ⊕ x) (gone none) ∙ zero_right F (elt M L a))

  pub less_self : (a c : ℕ) → a < M.size → c < M.size → c ≡ 1 → minus M a (M.times a c) ≡ 0
  less_self a c ha hc e =
      elt_path M L (minus M a (M.times a c)) 0 (less_below a a c ha ha hc) (zero-code M L)
      (elt_less a a c ha ha hc
      ∙ ap (λ x. elt M L a ⊕ (neg (elt M L a) ⊗ x)) (ap (elt M L) e ∙ elt_one M L)
      ∙ ap (λ x. elt M L a ⊕ x) (one_right (field_of M L) (neg (elt M L a)))
      ∙ plus_neg (elt M L a) ∙ sym (elt_zero M L))

  pub cleared-codes : (e : Pivoted) (g : Figured) → CodedRow M n (figured e) → e.pivot < n → CodedRow M n g → CodedRow M n (cleared M e g)
  cleared-codes e g ce below cg =
      let hp = cg.0 e.pivot below in (
        λ m b. less_below (g.row m) (g.row e.pivot) (e.weights m) (cg.0 m b) hp (ce.0 m b),
        less_below g.figure (g.row e.pivot) e.figure cg.1 hp ce.1,
      )

  pub cleared_value :
      (t : ℕ → Elt) (y : Elt) (e : Pivoted) (g : Figured) → CodedRow M n (figured e) → e.pivot < n → CodedRow M n g
      → value t y (cleared M e g) ≡ value t y g ⊕ (neg (elt M L (g.row e.pivot)) ⊗ value t y (figured e))
  cleared_value t y e g ce below cg =
      let hp = cg.0 e.pivot below in
      value_combined t y (neg (elt M L (g.row e.pivot))) g (figured e) (cleared M e g)
      (λ m b. elt_less (g.row m) (g.row e.pivot) (e.weights m) (cg.0 m b) hp (ce.0 m b))
      (elt_less g.figure (g.row e.pivot) e.figure cg.1 hp ce.1)

  pub scaled-codes : (c : ℕ) (g : Figured) → c < M.size → CodedRow M n g → CodedRow M n (scaled M c g)
  scaled-codes c g hc cg =
      (λ m b. L.times_below c (g.row m) hc (cg.0 m b), L.times_below c g.figure hc cg.1)

  abbrev no_figured : Figured
  no_figured = record { row = λ m. 0; figure = 0 }

  pub scaled_value : (t : ℕ → Elt) (y : Elt) (c : ℕ) (g : Figured) → c < M.size → CodedRow M n g → value t y (scaled M c g) ≡ elt M L c ⊗ value t y g
  unfolding value
  scaled_value t y c g hc cg =
      let F = field_of M L in
      let part : (x : ℕ) → x < M.size → elt M L (M.times c x) ≡ elt M L 0 ⊕ (elt M L c ⊗ elt M L x) =
      λ x h. elt_times M L c x hc h ∙ sym (ap (λ z. z ⊕ (elt M L c ⊗ elt M L x)) (elt_zero M L) ∙ plus_zero (elt M L c ⊗ elt M L x))
      in
      let none : (x : Elt) → elt M L 0 ⊗ x ≡ zer = λ x. ap (λ z. z ⊗ x) (elt_zero M L) ∙ zero-times F x in
      let nothing : value t y no_figured ≡ zer =
      ap₂ ◌⊕◌ (total_zero F n (λ m. elt M L 0 ⊗ t m) (λ m b. none (t m))) (none y) ∙ plus_zero zer
      in
      value_combined t y (elt M L c) no_figured g (scaled M c g) (λ m b. part (g.row m) (cg.0 m b)) (part g.figure cg.1)
      ∙ ap (λ x. x ⊕ (elt M L c ⊗ value t y g)) nothing ∙ plus_zero (elt M L c ⊗ value t y g)

  -- every record row has the value 0
  abbrev pub Kills : (ℕ → Elt) → Elt → List Pivoted → Type 0
  Kills t y rec = (a : ℕ) → a < length rec → value t y (figured (at rec a)) ≡ zer

  pub leftover-codes : (rec : List Pivoted) → AllCodes M n rec → (g : Figured) → CodedRow M n g → CodedRow M n (leftover M rec g)
  leftover-codes [] cr g cg = cg
  leftover-codes (e ∷ rec) cr g cg =
      let (ce, below) = cr 0 (omega arith) in
      leftover-codes rec (λ a b. cr (suc a) (omega arith)) (cleared M e g) (cleared-codes e g ce below cg)

  pub leftover_value :
      (t : ℕ → Elt) (y : Elt) (rec : List Pivoted) → AllCodes M n rec → Kills t y rec → (g : Figured) → CodedRow M n g
      → value t y (leftover M rec g) ≡ value t y g
  leftover_value t y [] cr kills g cg = refl
  leftover_value t y (e ∷ rec) cr kills g cg =
      let (ce, below) = cr 0 (omega arith) in
      let k = neg (elt M L (g.row e.pivot)) in
      leftover_value t y rec (λ a b. cr (suc a) (omega arith)) (λ a b. kills (suc a) (omega arith)) (cleared M e g) (cleared-codes e g ce below cg)
      ∙ cleared_value t y e g ce below cg
      ∙ ap (λ x. value t y g ⊕ (k ⊗ x)) (kills 0 (omega arith))
      ∙ ap (λ x. value t y g ⊕ x) (times_zero (field_of M L) k)
      ∙ zero_right (field_of M L) (value t y g)

  -- the table with one at q alone reads the weight at q
  abbrev pub tip : ℕ → ℕ → Elt
  tip q m = elim (eqb m q) [ true ↦ one | false ↦ zer ]

  pub tip_value : (q : ℕ) → q < n → (g : Figured) → value (tip q) zer g ≡ elt M L (g.row q)
  unfolding value
  tip_value q below g =
      let F = field_of M L in
      ap₂ ◌⊕◌
      (one_term F n q (λ m. elt M L (g.row m) ⊗ tip q m) below
      (λ m b p. ap (λ x. elt M L (g.row m) ⊗ x) (by_test (eqb m q) one zer zer (λ h. absurd (p (eqb→eq m q h))) (λ h. refl)) ∙ times_zero F (elt M L (g.row m)))
      ∙ ap (λ x. elt M L (g.row q) ⊗ x) (by_test (eqb q q) one zer one (λ h. refl) (λ h. absurd (h (eqb_refl q))))
      ∙ one_right F (elt M L (g.row q)))
      (times_zero F (elt M L g.figure))
      ∙ zero_right F (elt M L (g.row q))

  -- over a table of codes, with the figure taken away: 0 where the sum is the figure
  pub table_value :
      (t : Vector) → Codes M n t → (g : Figured) → CodedRow M n g
      → value (λ m. elt M L (t m)) (neg one) g ≡ elt M L (minus M (sum M n g.row t) g.figure)
  unfolding value
  table_value t ct g cg =
      ap₂ ◌⊕◌ (sym (elt_sum M L n g.row t cg.0 ct)) (times_neg_one (field_of M L) (elt M L g.figure))
      ∙ sym (elt_minus M L (sum M n g.row t) g.figure (sum_below M L n g.row t cg.0 ct) cg.1)

  pub fit_value :
      (t : Vector) → Codes M n t → (g : Figured) → CodedRow M n g
      → (sum M n g.row t ≡ g.figure) ↔ (value (λ m. elt M L (t m)) (neg one) g ≡ zer)
  fit_value t ct g cg =
      let s = sum M n g.row t in
      let hs = sum_below M L n g.row t cg.0 ct in
      let v = table_value t ct g cg ∙ elt_minus M L s g.figure hs cg.1 in (
        λ e. v ∙ ap (λ x. elt M L x ⊕ neg (elt M L g.figure)) e ∙ plus_neg (elt M L g.figure),
        λ e. elt_path M L s g.figure hs cg.1 (difference_zero (field_of M L) (elt M L s) (elt M L g.figure) (sym v ∙ e)),
      )

  -- the difference of two tables
  abbrev pub between : Vector → Vector → ℕ → Elt
  between t u m = elt M L (t m) ⊕ (neg one ⊗ elt M L (u m))

  -- over the difference of two tables: 0 where the sums are equal
  pub agree_value :
      (t u : Vector) → Codes M n t → Codes M n u → (g : Figured) → Codes M n g.row
      → (sum M n g.row t ≡ sum M n g.row u) ↔ (value (between t u) zer g ≡ zer)
  unfolding value
  agree_value t u ct cu g cg =
      let F = field_of M L in
      let r = g.row in
      let x = elt M L (sum M n r t) in
      let y = elt M L (sum M n r u) in
      let v : value (between t u) zer g ≡ x ⊕ neg y =
      ap₂ ◌⊕◌
      (total_cong F n (λ m. elt M L (r m) ⊗ between t u m) (λ m. (elt M L (r m) ⊗ elt M L (t m)) ⊕ (neg one ⊗ (elt M L (r m) ⊗ elt M L (u m))))
      (λ m b. table_linear F (elt M L (r m)) (elt M L (t m)) (elt M L (u m)) (neg one))
      ∙ total_linear F n (neg one) (λ m. elt M L (r m) ⊗ elt M L (t m)) (λ m. elt M L (r m) ⊗ elt M L (u m))
      ∙ sym (ap₂ (λ p q. p ⊕ (neg one ⊗ q)) (elt_sum M L n r t cg ct) (elt_sum M L n r u cg cu)))
      (times_zero F (elt M L g.figure))
      ∙ zero_right F (x ⊕ (neg one ⊗ y)) ∙ ap (λ z. x ⊕ z) (times_comm (neg one) y ∙ times_neg_one F y)
      in (
        λ e. v ∙ ap (λ z. elt M L z ⊕ neg y) e ∙ plus_neg y,
        λ e.
            elt_path M L (sum M n r t) (sum M n r u) (sum_below M L n r t cg ct) (sum_below M L n r u cg cu)
            (difference_zero F x y (sym v ∙ e)),
      )
