-- What is left over of a row, where only its figure is another. Assumes nothing.
use Rattle.std.proofs.Common.{◌≡◌, ℕ, suc, ◌<◌, List, [], ◌∷◌, sym, ap, ◌∙◌, ap₂, arith}
use Rattle.field.specs.Model.{FieldModel, FieldLaws}
use Rattle.field.specs.Sums.{minus}
use Rattle.echelon.specs.Rows.{Figured, CodedRow}
use Rattle.echelon.specs.Reduced.{Pivoted}
use Rattle.echelon.specs.Elimination.{cleared, leftover}
use Rattle.echelon.proofs.Values.{AllCodes, cleared-codes}

-- rows that are equal but for their figures, cleared by one row
cleared-row : (M : FieldModel) (e : Pivoted) (g h : Figured) → h.row ≡ g.row → (cleared M e h).row ≡ (cleared M e g).row
cleared-row M e g h same = ap (λ r. λ m. minus M (r m) (M.times (r e.pivot) (e.weights m))) same

pub leftover-row : (M : FieldModel) (rec : List Pivoted) (g h : Figured) → h.row ≡ g.row → (leftover M rec h).row ≡ (leftover M rec g).row
leftover-row M [] g h same = same
leftover-row M (e ∷ rec) g h same = leftover-row M rec (cleared M e g) (cleared M e h) (cleared-row M e g h same)

module _ (M : FieldModel) (L : FieldLaws M) (n : ℕ) (v : ℕ) (code : v < M.size) where
  -- what is added first is there after something is taken away
  added : (a t : ℕ) → a < M.size → t < M.size → minus M (M.plus a v) t ≡ M.plus (minus M a t) v
  added a t ha ht =
      let o = L.opposite_below t ht in
      L.plus_assoc a v (M.opposite t) ha code o ∙ ap (M.plus a) (L.plus_comm v (M.opposite t) code o) ∙ sym (L.plus_assoc a (M.opposite t) v ha o code)

  pub leftover-figure :
      (rec : List Pivoted) → AllCodes M n rec → (g h : Figured) → CodedRow M n g → h.row ≡ g.row → h.figure ≡ M.plus g.figure v
      → (leftover M rec h).figure ≡ M.plus (leftover M rec g).figure v
  leftover-figure [] cr g h cg same more = more
  leftover-figure (e ∷ rec) cr g h cg same more =
      let (ce, below) = cr 0 (omega arith) in
      let taken : M.times (g.row e.pivot) e.figure < M.size = L.times_below _ _ (cg.0 e.pivot below) ce.1 in
      leftover-figure rec (λ a b. cr (suc a) (omega arith)) (cleared M e g) (cleared M e h) (cleared-codes M L n e g ce below cg)
      (cleared-row M e g h same)
      (ap₂ (λ f r. minus M f (M.times (r e.pivot) e.figure)) more same ∙ added g.figure _ cg.1 taken)
