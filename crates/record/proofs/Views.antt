-- A record in memory and the theory's record: its rows by place, and reduced echelon form from type and soundness.
-- Assumes nothing.
use Rattle.std.proofs.Common.{◌≡◌, ℕ, suc, ◌<◌, ◌≤◌, ◌≢◌, List, [], ◌∷◌, length, get_or, set, vec_items, refl, sym, ap, ◌∙◌, subst, ap₂, arith, Ok, Err, Result, MatchResult}
use lib.ListN.{length-map, get_or-map}
use native.Mathlib.Decide.{ℕ_discrete, dec_lt}
use Rattle.std.specs.List.Sorted.{IsNonDecreasingBy, IsBinarySearchResult}
use Rattle.std.specs.Ordering.{nat_cmp, ordering_index}
use Rattle.std.specs.declared.cmp.Ordering.TheVariants.{Less, Equal, Greater}
use Rattle.std.proofs.lemmas.Cmp.{ranked}
use Rattle.std.proofs.lemmas.Bool.Decides.{nat_tests}
use Rattle.std.proofs.lemmas.List.Sorted.{IsNonDecreasingBy-from_default}
use Rattle.std.proofs.lemmas.List.{get_or-set_same, get_or-set_other, get_or_default}
use Rattle.field.specs.Model.{FieldModel}
use Rattle.field.specs.Sums.{Vector, Codes, weights_of}
use Rattle.field.specs.declared.Field.{Ghosts}
use Rattle.checks.specs.CheckedRows.{row_of}
use Rattle.checks.specs.declared.row.CheckedRow.{CheckedRow}
use Rattle.echelon.specs.Reduced.{Pivoted, at, figured}
use Rattle.echelon.specs.Elimination.{cleared, leftover, pivot_cleared}
use Rattle.echelon.specs.Rows.{Figured, minus, CodedRow}
use Rattle.record.specs.Rows.{pivoted, all_pivoted, SameRow, SamePivoted}
use Rattle.record.specs.Records.{rec_of}
use Rattle.record.specs.Standings.{unfigured}
use Rattle.record.specs.declared.rows.RecordRow.{RecordRow}
use Rattle.record.specs.declared.record.Record.{Record}

abbrev pub no_record_row : RecordRow
no_record_row = record { pivot = record { 0 = 0 }; row = record { weights = []; figure = record { 0 = 0 } } }

pub at_row : (rows : List RecordRow) (a : ℕ) → at (all_pivoted rows) a ≡ pivoted (get_or rows a no_record_row)
at_row rows a = get_or-map pivoted rows a no_record_row

pub rows-length : (rows : List RecordRow) → length (all_pivoted rows) ≡ length rows
rows-length rows = length-map rows pivoted

-- the weights of a checked row are elements at the record's members
pub row-elements : {F : Type 0} {G : Ghosts F} (r : Record F G) (w : CheckedRow F G) → Codes G.model r.count (row_of w)
row-elements r w m h = w.elements m (omega (arith, r.members))

-- equal rows, cleared by one row, are equal
pub cleared-same :
    (M : FieldModel) (n : ℕ) (e : Pivoted) (g h : Figured) → e.pivot < n → SameRow n g h → SameRow n (cleared M e g) (cleared M e h)
cleared-same M n e g h below same = record {
  rows = λ m b.
      ap₂ (λ x c. minus M x (M.times c (e.weights m))) (same.rows m b) (same.rows e.pivot below);
  figures = ap₂ (λ x c. minus M x (M.times c e.figure)) same.figures (same.rows e.pivot below);
}

pub same_trans : {n : ℕ} {g h k : Figured} → SameRow n g h → SameRow n h k → SameRow n g k
same_trans p q = record { rows = λ m b. p.rows m b ∙ q.rows m b; figures = p.figures ∙ q.figures }

-- what is known of the row that a loop over the record's rows has come to
pub record RowFacts {F : Type 0} {G : Ghosts F} (r : Record F G) (x : RecordRow) (a : ℕ) : Type 0 where
  pub below : a < length (rec_of r)
  pub is : at (rec_of r) a ≡ pivoted x
  pub pivot : x.pivot.0 < r.count
  pub coded : CodedRow G.model r.count (figured (pivoted x))
  pub lowest : (m : ℕ) → m < x.pivot.0 → weights_of x.row.weights m ≡ 0

pub facts_of :
    {F : Type 0} {G : Ghosts F} (r : Record F G) (sl : List RecordRow) → sl ≡ vec_items r.rows
    → (a : ℕ) → a < length sl → RowFacts r (get_or sl a no_record_row) a
facts_of {G = G} r sl e a h =
    let x = get_or sl a no_record_row in
    let below : a < length (rec_of r) = simp length-map (subst (λ (l : List RecordRow). a < length l) e h) in
    let is : at (rec_of r) a ≡ pivoted x = at_row (vec_items r.rows) a ∙ ap (λ l. pivoted (get_or l a no_record_row)) (sym e) in
    record {
      below = below;
      is = is;
      pivot = subst (λ (p : Pivoted). p.pivot < r.count) is (r.reduced.pivot_below a below);
      coded = subst (λ (p : Pivoted). CodedRow G.model r.count (figured p)) is (r.reduced.weights_codes a below, r.reduced.figure_code a below);
      lowest = subst (λ (p : Pivoted). (m : ℕ) → m < p.pivot → p.weights m ≡ 0) is (λ m b. r.reduced.lowest_named a m below b);
    }

pub leftover-same :
    (M : FieldModel) (n : ℕ) (rec : List Pivoted) (g h : Figured) → ((a : ℕ) → a < length rec → (at rec a).pivot < n)
    → SameRow n g h → SameRow n (leftover M rec g) (leftover M rec h)
leftover-same M n [] g h below same = same
leftover-same M n (e ∷ rec) g h below same =
    leftover-same M n rec (cleared M e g) (cleared M e h) (λ a b. below (suc a) (omega arith))
    (cleared-same M n e g h (below 0 (omega arith)) same)

-- what is left over of a row that was taken with the figure 0
pub leftover-unfigured :
    (M : FieldModel) (n : ℕ) (rec : List Pivoted) (l start : Figured) (r : Vector) → ((a : ℕ) → a < length rec → (at rec a).pivot < n)
    → SameRow n l (leftover M rec start) → ((m : ℕ) → m < n → start.row m ≡ r m) → start.figure ≡ 0
    → SameRow n l (leftover M rec (unfigured r))
leftover-unfigured M n rec l start r below same rows none =
    same_trans same (leftover-same M n rec start (unfigured r) below (record { rows = rows; figures = none }))

pub set_here : (rows : List RecordRow) (a : ℕ) (x : RecordRow) → a < length rows → at (all_pivoted (set rows a x)) a ≡ pivoted x
set_here rows a x h = at_row (set rows a x) a ∙ ap pivoted (get_or-set_same rows a x no_record_row h)

pub set_other : (rows : List RecordRow) (a b : ℕ) (x : RecordRow) → b ≢ a → at (all_pivoted (set rows a x)) b ≡ at (all_pivoted rows) b
set_other rows a b x ne = at_row (set rows a x) b ∙ ap pivoted (get_or-set_other rows a b x no_record_row ne) ∙ sym (at_row rows b)

-- a record row that was cleared in memory
pub cleared-row :
    (M : FieldModel) (n : ℕ) (e d : Pivoted) (x y : RecordRow) → d ≡ pivoted x → x.pivot ≡ y.pivot
    → SameRow n (figured (pivoted y)) (cleared M e (figured (pivoted x))) → SamePivoted n (pivoted y) (pivot_cleared M e d)
cleared-row M n e d x y is pivot same =
    subst (λ (z : Pivoted). SamePivoted n (pivoted y) (pivot_cleared M e z)) (sym is)
    (record { pivots = ap (λ p. p.0) (sym pivot); weights = same.rows; figures = same.figures })

-- the rows' pivots rise, as a search by halves wants it
pub pivots_sorted : {F : Type 0} {G : Ghosts F} (r : Record F G) → IsNonDecreasingBy (λ x. x.pivot.0) (vec_items r.rows)
pivots_sorted r =
    let rows = vec_items r.rows in
    let pivot : (a : ℕ) → (get_or rows a no_record_row).pivot.0 ≡ (at (rec_of r) a).pivot = λ a. ap (λ p. p.pivot) (sym (at_row rows a)) in
    IsNonDecreasingBy-from_default (λ x. x.pivot.0) rows no_record_row
    (λ i j le h.
    elim (ℕ_discrete i j) [
      | yes e ↦ subst (λ k. (get_or rows i no_record_row).pivot.0 ≤ (get_or rows k no_record_row).pivot.0) e (omega arith)
      | no ne ↦ let rises = r.reduced.pivots_rise i j (omega (arith, ne)) (simp length-map h) in omega (arith, pivot i, pivot j, rises)
    ])

-- the order of a number and m rises with the number
pub order_rises : (p q m : ℕ) → p ≤ q → ordering_index (nat_cmp p m) ≤ ordering_index (nat_cmp q m)
order_rises p q m le = Prim.grind (arith, nat_tests)

-- what a search by halves for a member's pivot tells
pub searched : {F : Type 0} {G : Ghosts F} (r : Record F G) (rows : List RecordRow) → rows ≡ vec_items r.rows → (m : ℕ) (o : Result ℕ ℕ)
    → IsBinarySearchResult (λ x. nat_cmp x.pivot.0 m) rows o
    → MatchResult o (λ k. (at (rec_of r) k).pivot ≡ m) (λ k. (a : ℕ) → a < length (rec_of r) → (at (rec_of r) a).pivot ≢ m)
searched r rows e m (Ok k) found =
    let is = ranked _ m Equal (sym (found no_record_row)) in
    ap (λ l. (at (all_pivoted l) k).pivot) (sym e) ∙ ap (λ p. p.pivot) (at_row rows k) ∙ is
searched r rows e m (Err k) parted =
    let rise : IsNonDecreasingBy (λ x. ordering_index (nat_cmp x.pivot.0 m)) rows =
    λ i j d le h. order_rises _ _ m (subst (IsNonDecreasingBy (λ x. x.pivot.0)) (sym e) (pivots_sorted r) i j d le h) in
    let cut = parted rise in
    let pivot : (a : ℕ) → (at (rec_of r) a).pivot ≡ (get_or rows a no_record_row).pivot.0 =
    λ a. ap (λ l. (at (all_pivoted l) a).pivot) (sym e) ∙ ap (λ p. p.pivot) (at_row rows a) in
    λ a h z.
    elim (dec_lt a k) [
      | yes b ↦ let less = ranked _ m Less (sym (cut.0 a no_record_row (omega arith) b)) in omega (arith, pivot a, z)
      | no b ↦ let more = ranked _ m Greater (sym (cut.1 a no_record_row (omega arith) (subst (λ (l : List RecordRow). a < length l) (sym e) (omega (arith, h, rows-length (vec_items r.rows)))))) in omega (arith, pivot a, z)
    ]

-- the same of a row that was read by its place
pub read_facts :
    {F : Type 0} {G : Ghosts F} (r : Record F G) (k : ℕ) (x : RecordRow) → k < length (vec_items r.rows) → x ≡ get_or (vec_items r.rows) k x
    → RowFacts r x k
read_facts r k x h e =
    subst (λ y. RowFacts r y k) (get_or_default (vec_items r.rows) k no_record_row x h ∙ sym e) (facts_of r (vec_items r.rows) refl k h)
