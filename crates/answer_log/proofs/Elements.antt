-- The bytes of one element among others: written and read back, read and written again. Assumes nothing.
use Rattle.std.proofs.Common.{◌≡◌, ℕ, ◌+◌, ◌*◌, ◌/◌, ◌%◌, ◌<◌, ◌≤◌, Bool, true, false, leb, List, [], ◌∷◌, ◌++◌, length, get_or, take, drop, sym, refl, ap, ◌∙◌, ap₂, add-zero, arith}
use Rattle.std.proofs.lemmas.List.{get_or-append-add, drop_more, take-append-drop, take-take, drop-take}
use Rattle.field.specs.Model.{FieldModel}
use Rattle.field.specs.Bytes.{by_width, width, written, code_at}

-- the front of a list, in two parts
pub take-parts : (a b : ℕ) (xs : List ℕ) → take (a + b) xs ≡ take a xs ++ take b (drop a xs)
take-parts a b xs =
    sym (take-append-drop a (take (a + b) xs))
    ∙ ap₂ (λ ys zs. ys ++ zs) (take-take a (a + b) xs (omega arith)) (drop-take a b xs)

module _ (M : FieldModel) where
  pub some-width : 1 ≤ width M
  some-width = go (leb M.size 256)
    where
      go : (b : Bool) → 1 ≤ by_width b 1 2
      go true = omega arith
      go false = omega arith

  pub written-length : (e : ℕ) → length (written M e) ≡ width M
  written-length e = go (leb M.size 256)
    where
      go : (b : Bool) → length (by_width b (e ∷ []) (e / 256 ∷ e % 256 ∷ [])) ≡ by_width b 1 2
      go true = refl
      go false = refl

  -- what was written is read
  pub code_back : (before after : List ℕ) (e : ℕ) → code_at M (before ++ (written M e ++ after)) (length before) ≡ e
  code_back before after e = go (leb M.size 256)
    where
      first : (x : ℕ) (xs : List ℕ) → get_or (before ++ (x ∷ xs)) (length before) 0 ≡ x
      first x xs = ap (λ i. get_or (before ++ (x ∷ xs)) i 0) (sym (add-zero (length before))) ∙ get_or-append-add before (x ∷ xs) 0 0

      second : (x y : ℕ) (xs : List ℕ) → get_or (before ++ (x ∷ y ∷ xs)) (length before + 1) 0 ≡ y
      second x y xs = get_or-append-add before (x ∷ y ∷ xs) 1 0

      go :
          (b : Bool)
          → (let bs = before ++ (by_width b (e ∷ []) (e / 256 ∷ e % 256 ∷ []) ++ after) in
          by_width b (get_or bs (length before) 0) (get_or bs (length before) 0 * 256 + get_or bs (length before + 1) 0))
          ≡ e
      go true = first e after
      go false =
          ap₂ (λ x y. x * 256 + y) (first (e / 256) (e % 256 ∷ after)) (second (e / 256) (e % 256) after) ∙ omega arith

  -- what was read is written
  pub code_again :
      (bs : List ℕ) → ((i : ℕ) → get_or bs i 0 < 256) → (p : ℕ) → p + width M ≤ length bs
      → written M (code_at M bs p) ≡ take (width M) (drop p bs)
  code_again bs fit p long = go (leb M.size 256) long
    where
      go :
          (b : Bool) → p + by_width b 1 2 ≤ length bs
          → (let e = by_width b (get_or bs p 0) (get_or bs p 0 * 256 + get_or bs (p + 1) 0) in
          by_width b (e ∷ []) (e / 256 ∷ e % 256 ∷ []))
          ≡ take (by_width b 1 2) (drop p bs)
      go true h = sym (ap (take 1) (drop_more bs p 0 (omega arith)))
      go false h =
          let high = get_or bs p 0 in
          let low = get_or bs (p + 1) 0 in
          let small = fit (p + 1) in
          let upper : (high * 256 + low) / 256 ≡ high = omega arith in
          let lower : (high * 256 + low) % 256 ≡ low = omega arith in
          ap₂ (λ x y. x ∷ y ∷ []) upper lower
          ∙ sym (ap (take 2) (drop_more bs p 0 (omega arith) ∙ ap (λ xs. high ∷ xs) (drop_more bs (p + 1) 0 (omega arith))))
