-- What a field's laws give of 0, over codes. Assumes nothing.
use Rattle.std.proofs.Common.{◌≡◌, ℕ, ◌<◌, sym, ap, ◌∙◌, arith}
use Rattle.field.specs.Model.{FieldModel, FieldLaws}

module _ (M : FieldModel) (L : FieldLaws M) where
  pub zero-code : 0 < M.size
  zero-code = let two = L.two_elements in omega arith

  pub zero_right : (a : ℕ) → a < M.size → M.plus a 0 ≡ a
  zero_right a ha = L.plus_comm a 0 ha zero-code ∙ L.plus_zero a ha

  -- the one element that changes nothing in a sum with itself is 0
  own-double : (a : ℕ) → a < M.size → M.plus a a ≡ a → a ≡ 0
  own-double a ha e =
      let back = L.opposite_below a ha in
      sym (zero_right a ha)
      ∙ ap (M.plus a) (sym (L.plus_opposite a ha))
      ∙ sym (L.plus_assoc a a (M.opposite a) ha ha back)
      ∙ ap (λ x. M.plus x (M.opposite a)) e
      ∙ L.plus_opposite a ha

  pub times_zero : (a : ℕ) → a < M.size → M.times a 0 ≡ 0
  times_zero a ha =
      own-double (M.times a 0) (L.times_below a 0 ha zero-code)
      (sym (L.distributes a 0 0 ha zero-code zero-code) ∙ ap (M.times a) (L.plus_zero 0 zero-code))

  pub zero-times : (a : ℕ) → a < M.size → M.times 0 a ≡ 0
  zero-times a ha = L.times_comm 0 a zero-code ha ∙ times_zero a ha
