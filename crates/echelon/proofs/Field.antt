-- A field whose laws have no premises: Field; its ring rules, and sums of its elements: total, one_term, two_terms.
-- Assumes nothing.
use mathlib.Core.Path.{◌≡◌, refl, sym, ap, ap₂, ◌∙◌}
use mathlib.Core.Logic.{◌≢◌}
use Prim.Native.Nat.{ℕ, zero, suc, ◌<◌}
use native.Mathlib.Decide.{ℕ_discrete}
use native.Mathlib.Omega.{arith}

pub record Field : Type 1 where
  infixl 60 ◌⊕◌
  infixl 70 ◌⊗◌
  pub Elt : Type 0
  pub zer : Elt
  pub one : Elt
  pub ◌⊕◌ : Elt → Elt → Elt
  pub ◌⊗◌ : Elt → Elt → Elt
  pub neg : Elt → Elt
  pub inv : Elt → Elt
  pub plus_comm : (a b : Elt) → a ⊕ b ≡ b ⊕ a
  pub plus_assoc : (a b c : Elt) → (a ⊕ b) ⊕ c ≡ a ⊕ (b ⊕ c)
  pub plus_zero : (a : Elt) → zer ⊕ a ≡ a
  pub times_comm : (a b : Elt) → a ⊗ b ≡ b ⊗ a
  pub times_assoc : (a b c : Elt) → (a ⊗ b) ⊗ c ≡ a ⊗ (b ⊗ c)
  pub times_one : (a : Elt) → one ⊗ a ≡ a
  pub distributes : (a b c : Elt) → a ⊗ (b ⊕ c) ≡ (a ⊗ b) ⊕ (a ⊗ c)
  pub plus_neg : (a : Elt) → a ⊕ neg a ≡ zer
  pub times_inv : (a : Elt) → a ≢ zer → a ⊗ inv a ≡ one

module _ (F : Field) where
  open F use {Elt, zer, one, ◌⊕◌, ◌⊗◌, neg, inv, plus_comm, plus_assoc, plus_zero, times_comm, times_assoc, times_one, distributes, plus_neg, times_inv}

  infixl 60 ◌⊕◌
  infixl 70 ◌⊗◌
  pub zero_right : (a : Elt) → a ⊕ zer ≡ a
  zero_right a = plus_comm a zer ∙ plus_zero a

  pub plus-left_comm : (a b c : Elt) → a ⊕ (b ⊕ c) ≡ b ⊕ (a ⊕ c)
  plus-left_comm a b c = sym (plus_assoc a b c) ∙ ap (λ x. x ⊕ c) (plus_comm a b) ∙ plus_assoc b a c

  pub times-left_comm : (a b c : Elt) → a ⊗ (b ⊗ c) ≡ b ⊗ (a ⊗ c)
  times-left_comm a b c = sym (times_assoc a b c) ∙ ap (λ x. x ⊗ c) (times_comm a b) ∙ times_assoc b a c

  pub one_right : (a : Elt) → a ⊗ one ≡ a
  one_right a = times_comm a one ∙ times_one a

  pub distributes_right : (a b c : Elt) → (a ⊕ b) ⊗ c ≡ (a ⊗ c) ⊕ (b ⊗ c)
  distributes_right a b c = times_comm (a ⊕ b) c ∙ distributes c a b ∙ ap₂ ◌⊕◌ (times_comm c a) (times_comm c b)

  pub neg_away : (a b : Elt) → neg a ⊕ (a ⊕ b) ≡ b
  neg_away a b = plus-left_comm (neg a) a b ∙ sym (plus_assoc a (neg a) b) ∙ ap (λ x. x ⊕ b) (plus_neg a) ∙ plus_zero b

  pub plus_cancel : (a b c : Elt) → a ⊕ b ≡ a ⊕ c → b ≡ c
  plus_cancel a b c e = sym (neg_away a b) ∙ ap (λ x. neg a ⊕ x) e ∙ neg_away a c

  pub times_zero : (a : Elt) → a ⊗ zer ≡ zer
  times_zero a = plus_cancel (a ⊗ zer) (a ⊗ zer) zer (sym (distributes a zer zer) ∙ ap (λ x. a ⊗ x) (plus_zero zer) ∙ sym (zero_right (a ⊗ zer)))

  pub zero-times : (a : Elt) → zer ⊗ a ≡ zer
  zero-times a = times_comm zer a ∙ times_zero a

  -- an opposite is known by its sum
  pub neg_is : (a b : Elt) → a ⊕ b ≡ zer → b ≡ neg a
  neg_is a b e = plus_cancel a b (neg a) (e ∙ sym (plus_neg a))

  pub neg_zero : neg zer ≡ zer
  neg_zero = sym (neg_is zer zer (plus_zero zer))

  pub neg_times : (a b : Elt) → neg a ⊗ b ≡ neg (a ⊗ b)
  neg_times a b = neg_is (a ⊗ b) (neg a ⊗ b) (sym (distributes_right a (neg a) b) ∙ ap (λ x. x ⊗ b) (plus_neg a) ∙ zero-times b)

  pub times_neg_one : (a : Elt) → a ⊗ neg one ≡ neg a
  times_neg_one a = times_comm a (neg one) ∙ neg_times one a ∙ ap neg (times_one a)

  -- two elements are equal where their difference is nothing
  pub difference_zero : (a b : Elt) → a ⊕ neg b ≡ zer → a ≡ b
  difference_zero a b e = plus_cancel (neg b) a b (plus_comm (neg b) a ∙ e ∙ sym (plus_neg b) ∙ plus_comm b (neg b))

  -- what is nothing after a factor that has an inverse is nothing
  pub factor_away : (a b c : Elt) → c ⊗ a ≡ one → a ⊗ b ≡ zer → b ≡ zer
  factor_away a b c u e = sym (times_one b) ∙ ap (λ x. x ⊗ b) (sym u) ∙ times_assoc c a b ∙ ap (λ x. c ⊗ x) e ∙ times_zero c

  pub times_cancel : (a b c : Elt) → a ≢ zer → a ⊗ b ≡ a ⊗ c → b ≡ c
  times_cancel a b c h e = sym (back b) ∙ ap (λ x. inv a ⊗ x) e ∙ back c
    where
      back : (x : Elt) → inv a ⊗ (a ⊗ x) ≡ x
      back x = sym (times_assoc (inv a) a x) ∙ ap (λ y. y ⊗ x) (times_comm (inv a) a ∙ times_inv a h) ∙ times_one x

  pub take_back : (a b : Elt) → a ⊕ neg (a ⊕ neg b) ≡ b
  take_back a b =
      let d = a ⊕ neg b in
      plus_cancel d (a ⊕ neg d) b
      (plus-left_comm d a (neg d) ∙ ap (λ x. a ⊕ x) (plus_neg d ∙ sym (plus_neg b) ∙ plus_comm b (neg b)) ∙ sym (plus_assoc a (neg b) b))

  pub share_back : (a b : Elt) → b ≢ zer → (a ⊗ inv b) ⊗ neg b ≡ neg a
  share_back a b h =
      times_assoc a (inv b) (neg b)
      ∙ ap (λ x. a ⊗ x) (times_comm (inv b) (neg b) ∙ neg_times b (inv b) ∙ ap neg (times_inv b h))
      ∙ times_neg_one a

  -- a combination, times a value and in a sum
  pub row_linear : (a b c t : Elt) → (a ⊕ (c ⊗ b)) ⊗ t ≡ (a ⊗ t) ⊕ (c ⊗ (b ⊗ t))
  row_linear a b c t = simp (distributes_right, times_assoc)

  pub table_linear : (r a b c : Elt) → r ⊗ (a ⊕ (c ⊗ b)) ≡ (r ⊗ a) ⊕ (c ⊗ (r ⊗ b))
  table_linear r a b c = distributes r a (c ⊗ b) ∙ ap (λ x. (r ⊗ a) ⊕ x) (times-left_comm r c b)

  pub plus_linear : (a b c x y : Elt) → (a ⊕ (c ⊗ x)) ⊕ (b ⊕ (c ⊗ y)) ≡ (a ⊕ b) ⊕ (c ⊗ (x ⊕ y))
  plus_linear a b c x y = simp (distributes, plus_assoc, plus-left_comm (c ⊗ x) b (c ⊗ y))

  abbrev pub total : ℕ → (ℕ → Elt) → Elt
  total zero f = zer
  total (suc n) f = total n f ⊕ f n

  pub total_cong : (n : ℕ) (f h : ℕ → Elt) → ((m : ℕ) → m < n → f m ≡ h m) → total n f ≡ total n h
  total_cong zero f h e = refl
  total_cong (suc n) f h e = ap₂ ◌⊕◌ (total_cong n f h (λ m b. e m (omega arith))) (e n (omega arith))

  pub total_linear : (n : ℕ) (c : Elt) (f h : ℕ → Elt) → total n (λ m. f m ⊕ (c ⊗ h m)) ≡ total n f ⊕ (c ⊗ total n h)
  total_linear zero c f h = sym (ap (λ x. zer ⊕ x) (times_zero c) ∙ plus_zero zer)
  total_linear (suc n) c f h = ap (λ x. x ⊕ (f n ⊕ (c ⊗ h n))) (total_linear n c f h) ∙ plus_linear (total n f) (f n) c (total n h) (h n)

  pub total_zero : (n : ℕ) (f : ℕ → Elt) → ((m : ℕ) → m < n → f m ≡ zer) → total n f ≡ zer
  total_zero zero f e = refl
  total_zero (suc n) f e = ap₂ ◌⊕◌ (total_zero n f (λ m b. e m (omega arith))) (e n (omega arith)) ∙ plus_zero zer

  pub one_term : (n j : ℕ) (f : ℕ → Elt) → j < n → ((m : ℕ) → m < n → m ≢ j → f m ≡ zer) → total n f ≡ f j
  one_term zero j f below e = absurd (omega arith)
  one_term (suc n) j f below e =
      let at-end : n ≡ j → total n f ⊕ f n ≡ f j =
      λ p. ap₂ ◌⊕◌ (total_zero n f (λ m b. e m (omega arith) (omega arith))) (ap f p) ∙ plus_zero (f j)
      in
      let before : n ≢ j → total n f ⊕ f n ≡ f j =
      λ p. ap₂ ◌⊕◌ (one_term n j f (omega arith) (λ m b. e m (omega arith))) (e n (omega arith) p) ∙ zero_right (f j)
      in
      elim (ℕ_discrete n j) [ yes p ↦ at-end p | no p ↦ before p ]

  pub two_terms : (n j k : ℕ) (f : ℕ → Elt) → j < n → k < n → j ≢ k → ((m : ℕ) → m < n → m ≢ j → m ≢ k → f m ≡ zer) → total n f ≡ f j ⊕ f k
  two_terms zero j k f below below' apart e = absurd (omega arith)
  two_terms (suc n) j k f below below' apart e =
      let at_first : n ≡ j → total n f ⊕ f n ≡ f j ⊕ f k =
      λ p. ap₂ ◌⊕◌ (one_term n k f (omega arith) (λ m b q. e m (omega arith) (omega arith) q)) (ap f p) ∙ plus_comm (f k) (f j)
      in
      let at_second : n ≡ k → total n f ⊕ f n ≡ f j ⊕ f k =
      λ p. ap₂ ◌⊕◌ (one_term n j f (omega arith) (λ m b q. e m (omega arith) q (omega arith))) (ap f p)
      in
      let before : n ≢ j → n ≢ k → total n f ⊕ f n ≡ f j ⊕ f k =
      λ p q. ap₂ ◌⊕◌ (two_terms n j k f (omega arith) (omega arith) apart (λ m b. e m (omega arith))) (e n (omega arith) p q) ∙ zero_right (f j ⊕ f k)
      in
      elim (ℕ_discrete n j) [ yes p ↦ at_first p | no p ↦ elim (ℕ_discrete n k) [ yes q ↦ at_second q | no q ↦ before p q ] ]
