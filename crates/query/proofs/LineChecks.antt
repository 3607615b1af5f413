-- A line, from what its reader finds. A limit or a request that the code names is an argument, with the equation that says which
-- it has to be. Assumes nothing.
use Rattle.std.proofs.Common.{◌≡◌, ℕ, ◌<◌, ◌≤◌, cond, eqb, ltb, List, [], ◌∷◌, length, Some, None, Ok, Err, Result, sym, refl, ap, ◌∙◌, arith}
use Rattle.std.proofs.lemmas.Bool.{cond-true, cond-false, eq-eqb, ne_eqb, lt-ltb, le-ltb}
use Rattle.query.specs.declared.faults.ItemFault.{ItemFault}
use Rattle.query.specs.declared.faults.LineFault.{LineFault}
use Rattle.query.specs.declared.faults.LineFault.TheVariants.{TooLong, NoKind, Item, NotEnded}
use Rattle.query.specs.declared.numbers.Numeral.{Numeral}
use Rattle.query.specs.declared.items.Limits.{Limits}
use Rattle.query.specs.declared.items.Weights.{Weights}
use Rattle.query.specs.declared.lines.Request.{Request}
use Rattle.query.specs.declared.lines.Request.TheVariants.{Ask, Try, Witness, Remark}
use Rattle.query.specs.Numbers.{byte_at}
use Rattle.query.specs.Items.{code, then, no_weights, read_spaced_lem, read_items_lem}
use Rattle.query.specs.Lines.{of_line, read_witness_lem, by_kind, reading}
use Rattle.query.proofs.Checks.{ok_same}

pub of_line_ok : {A : Type 0} (r : Result A ItemFault) (x : A) → of_line r ≡ Ok x → r ≡ Ok x
of_line_ok (Ok y) x e = ap Ok (ok_same _ _ e)
of_line_ok (Err f) x e = absurd (let z : ◌≡◌ {A = ℕ} 0 1 = cc in omega arith)

module _ (lim : Limits) (line : List ℕ) (p : ℕ) where
  after_element : Numeral → Numeral → Result Request LineFault
  after_element m e =
      cond (ltb e.after.0 (length line)) (Err (NotEnded e.after)) (Ok (Witness (record { 0 = m.value }) (code e.value)))

  after_member : Numeral → Result Request LineFault
  after_member m = then (of_line (read_spaced_lem lim.size line m.after.0)) (after_element m)

  pub witness_fault : (f : ItemFault) → read_spaced_lem lim.members line p ≡ Err f → read_witness_lem lim line p ≡ Err (Item f)
  unfolding read_witness_lem after_member after_element
  witness_fault f e = ap (λ r. then (of_line r) after_member) e

  module _ (m : Numeral) (found : read_spaced_lem lim.members line p ≡ Ok m) where
    -- the second number, as its reader was asked for it
    below_size :
        {limit : ℕ} {r : Result Numeral ItemFault} → limit ≡ lim.size → read_spaced_lem limit line m.after.0 ≡ r
        → read_spaced_lem lim.size line m.after.0 ≡ r
    below_size is e = ap (λ k. read_spaced_lem k line m.after.0) (sym is) ∙ e

    pub witness_element_fault :
        (f : ItemFault) {limit : ℕ} (size : limit ≡ lim.size) → read_spaced_lem limit line m.after.0 ≡ Err f
        → read_witness_lem lim line p ≡ Err (Item f)
    unfolding read_witness_lem after_member after_element
    witness_element_fault f size e =
        ap (λ r. then (of_line r) after_member) found ∙ ap (λ r. then (of_line r) (after_element m)) (below_size size e)

    module _ (e : Numeral) {limit : ℕ} (size : limit ≡ lim.size) (asked : read_spaced_lem limit line m.after.0 ≡ Ok e) where
      second : read_spaced_lem lim.size line m.after.0 ≡ Ok e
      second = below_size size asked

      pub witness_long : e.after.0 < length line → read_witness_lem lim line p ≡ Err (NotEnded e.after)
      unfolding read_witness_lem after_member after_element
      witness_long h =
          ap (λ r. then (of_line r) after_member) found ∙ ap (λ r. then (of_line r) (after_element m)) second
          ∙ cond-true _ _ _ (lt-ltb _ _ h)

      pub witness_fine :
          length line ≤ e.after.0 → read_witness_lem lim line p ≡ Ok (Witness (record { 0 = m.value }) (code e.value))
      unfolding read_witness_lem after_member after_element
      witness_fine h =
          ap (λ r. then (of_line r) after_member) found ∙ ap (λ r. then (of_line r) (after_element m)) second
          ∙ cond-false _ _ _ (le-ltb _ _ h)

module _ (lim : Limits) where
  pub reading_empty : (line : List ℕ) → None ≡ byte_at line 0 → reading lim line ≡ Err NoKind
  unfolding reading
  reading_empty [] e = refl
  reading_empty (b ∷ bs) e = absurd (let z : ◌≡◌ {A = ℕ} 0 1 = cc in omega arith)

  some :
      (line : List ℕ) (k : ℕ) → Some k ≡ byte_at line 0
      → reading lim line ≡ cond (eqb k 35) (Ok Remark) (cond (ltb 640 (length line)) (Err TooLong) (by_kind k lim line))
  unfolding reading
  some [] k e = absurd (let z : ◌≡◌ {A = ℕ} 0 1 = cc in omega arith)
  some (b ∷ bs) k e =
      let same : b ≡ k = cc in
      ap (λ c. cond (eqb c 35) (Ok Remark) (cond (ltb 640 (length (b ∷ bs))) (Err TooLong) (by_kind c lim (b ∷ bs)))) same

  module _ (line : List ℕ) (k : ℕ) (first : Some k ≡ byte_at line 0) where
    pub reading-remark : k ≡ 35 → reading lim line ≡ Ok Remark
    reading-remark e = some line k first ∙ cond-true _ _ _ (eq-eqb _ _ e)

    pub reading_long : (k ≡ 35 → ⊥) → 640 < length line → reading lim line ≡ Err TooLong
    reading_long e h = some line k first ∙ cond-false _ _ _ (ne_eqb _ _ e) ∙ cond-true _ _ _ (lt-ltb _ _ h)

    pub reading-short : (k ≡ 35 → ⊥) → length line ≤ 640 → reading lim line ≡ by_kind k lim line
    reading-short e h = some line k first ∙ cond-false _ _ _ (ne_eqb _ _ e) ∙ cond-false _ _ _ (le-ltb _ _ h)

-- a line of rows: what is made of its weights
unfoldable pub rows : {A : Type 0} → (Weights → A) → Result Weights ItemFault → Result A LineFault
rows make r = then (of_line r) (λ row. Ok (make row))

pub row_fault :
    {A : Type 0} (make : Weights → A) (r : Result Weights ItemFault) (f : ItemFault) → r ≡ Err f → rows make r ≡ Err (Item f)
unfolding rows
row_fault make r f e = ap (rows make) e

pub row_fine :
    {A : Type 0} (make : Weights → A) (r : Result Weights ItemFault) (row : Weights) {made : A} → r ≡ Ok row → made ≡ make row
    → rows make r ≡ Ok made
unfolding rows
row_fine make r row e is = ap (rows make) e ∙ ap Ok (sym is)

module _ (lim : Limits) (b : ℕ) (line : List ℕ) where
  pub kind-ask : b ≡ 97 → by_kind b lim line ≡ rows Ask (read_items_lem lim no_weights line 1)
  unfolding rows
  kind-ask e = cond-true _ _ _ (eq-eqb b 97 e)

  pub kind-try : b ≡ 116 → by_kind b lim line ≡ rows Try (read_items_lem lim no_weights line 1)
  unfolding rows
  kind-try e = cond-false _ _ _ (ne_eqb b 97 (λ z. omega arith)) ∙ cond-true _ _ _ (eq-eqb b 116 e)

  pub kind-witness : b ≡ 119 → by_kind b lim line ≡ read_witness_lem lim line 1
  kind-witness e =
      cond-false _ _ _ (ne_eqb b 97 (λ z. omega arith)) ∙ cond-false _ _ _ (ne_eqb b 116 (λ z. omega arith))
      ∙ cond-true _ _ _ (eq-eqb b 119 e)

  pub kind_none : (b ≡ 97 → ⊥) → (b ≡ 116 → ⊥) → (b ≡ 119 → ⊥) → by_kind b lim line ≡ Err NoKind
  kind_none a t w =
      cond-false _ _ _ (ne_eqb b 97 a) ∙ cond-false _ _ _ (ne_eqb b 116 t) ∙ cond-false _ _ _ (ne_eqb b 119 w)
