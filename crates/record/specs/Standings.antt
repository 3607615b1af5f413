-- What is left over of a row, in terms of the theory. Its figure is not known yet, and counts as 0.
--   unfigured r            the row r with the figure 0
--   Left M n rec g p       p is the lowest member that what is left over of g names
--   fresh_row M rec g p    what is left over of g, made 1 at p: the row that would join
--   MayJoin M n rec r x    x is the row that would join for r, with the factor that made it so, and r pins nobody
--   Stands M n rec r s     s says what is left over of r, and which member r would pin, if any
-- Assumes nothing.
use Rattle.std.specs.Prelude.{◌≡◌, ℕ, ◌<◌, ◌≢◌, List}
use Rattle.field.specs.Model.{FieldModel}
use Rattle.field.specs.Sums.{Vector}
use Rattle.server.specs.Checks.{Lowest}
use Rattle.echelon.specs.Rows.{Figured, CodedRow, row_with}
use Rattle.echelon.specs.Reduced.{Pivoted, figured, PinnedWith}
use Rattle.echelon.specs.Elimination.{leftover, scaled, with_pivot}
use Rattle.record.specs.Rows.{pivoted, SamePivoted}
use Rattle.record.specs.declared.rows.FreshRow.{FreshRow}
use Rattle.record.specs.declared.judge.Standing.{Standing}
use Rattle.record.specs.declared.judge.Standing.TheVariants.{Fixed, Pinning, Fresh}

abbrev pub unfigured : Vector → Figured
unfigured r = row_with r 0

pub record Left (M : FieldModel) (n : ℕ) (rec : List Pivoted) (g : Figured) (p : ℕ) : Type 0 where
  pub below : p < n
  pub named : (leftover M rec g).row p ≢ 0
  pub lowest : (m : ℕ) → m < p → (leftover M rec g).row m ≡ 0

abbrev pub fresh_row : FieldModel → List Pivoted → Figured → ℕ → Pivoted
fresh_row M rec g p = with_pivot p (scaled M (M.inverse ((leftover M rec g).row p)) (leftover M rec g))

pub record MayJoin (M : FieldModel) (n : ℕ) (rec : List Pivoted) (r : Vector) (x : FreshRow) : Type 0 where
  pub left : Left M n rec (unfigured r) x.row.pivot.0
  pub factor : x.factor.0 ≡ M.inverse ((leftover M rec (unfigured r)).row x.row.pivot.0)
  pub same : SamePivoted n (fresh_row M rec (unfigured r) x.row.pivot.0) (pivoted x.row)
  pub coded : CodedRow M n (figured (pivoted x.row))
  pub none_pinned : (i : ℕ) → PinnedWith M n rec r i → ⊥

pub data Stands (M : FieldModel) (n : ℕ) (rec : List Pivoted) (r : Vector) : Standing → Type 0 where
  fixed :
      ((m : ℕ) → m < n → (leftover M rec (unfigured r)).row m ≡ 0) → (f : ℕ) → f ≡ (leftover M rec (unfigured r)).figure
      → Stands M n rec r (Fixed (record { 0 = f }))
  pinning :
      (p : ℕ) → Left M n rec (unfigured r) p → (i : ℕ) → Lowest (PinnedWith M n rec r) i
      → Stands M n rec r (Pinning (record { 0 = i }))
  fresh : (x : FreshRow) → MayJoin M n rec r x → Stands M n rec r (Fresh x)
