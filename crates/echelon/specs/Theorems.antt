-- What holds of records, rows and tables, over every field and every count.
--   PinnedAlone                 a member is pinned exactly where a record row names it alone
--   BaseFits, DirectionFree     B fits the record; N(j) has 1 at j, and the sum 0 over every record row
--   WitnessFits                 a witness has the element at the member, and fits the record
--   AtMostOne, SameFits         reduced records are equal exactly where the same tables fit them
--   FixedLeavesNothing          a row is fixed exactly where nothing of it is left over
--   LeftoverFits                what is left over is 0 at the pivots, and its sum less its figure is that of the row
--   JoinedForm                  a row that joins leaves the record reduced, and adds its own sum and no other
--   FormAgrees, OneForm         tables agree on given rows exactly where they do on their reduced form, which is one
--   FormKept, FormGrown         the reduced form after a row that is fixed, and after one that is not
--   OwnForm                     a reduced record is the reduced form of its own rows
-- Assumes nothing.
use Rattle.std.specs.Prelude.{◌≡◌, ◌≢◌, List, ◌∷◌, ℕ, ◌≤◌, ◌<◌, length}
use Rattle.field.specs.Model.{FieldModel, FieldLaws}
use Rattle.echelon.specs.Rows.{Vector, Codes, minus, sum, Figured, rows_of, RowsCodes, Agree, Fits, Pins, Fixes}
use Rattle.echelon.specs.Reduced.{Pivoted, at, Reduced, Alone, all_figured, ReducedForm, Same}
use Rattle.echelon.specs.Elimination.{leftover, scaled, with_pivot, joined}
use Rattle.echelon.specs.Witness.{Free, base, direction, Witness}

-- A reduced record pins a member exactly when one of its rows names that member alone.
abbrev pub PinnedAlone : Type 0
PinnedAlone =
    (M : FieldModel) → FieldLaws M → (n : ℕ) (rec : List Pivoted) → Reduced M n rec → (i : ℕ) → i < n
    → (Pins M n (rows_of (all_figured rec)) i → (a : ℕ) × (a < length rec) × Alone n (at rec a).weights i)
    × (((a : ℕ) × (a < length rec) × Alone n (at rec a).weights i) → Pins M n (rows_of (all_figured rec)) i)

-- B is a table that fits the record.
abbrev pub BaseFits : Type 0
BaseFits =
    (M : FieldModel) → FieldLaws M → (n : ℕ) (rec : List Pivoted) → Reduced M n rec
    → Codes M n (base rec) × Fits M n (all_figured rec) (base rec)

-- N(j) is a table over which every record row has the sum 0; it has 1 at j.
abbrev pub DirectionFree : Type 0
DirectionFree =
    (M : FieldModel) → FieldLaws M → (n : ℕ) (rec : List Pivoted) → Reduced M n rec → (j : ℕ) → j < n → Free rec j
    → Codes M n (direction M rec j) × (direction M rec j j ≡ 1)
    × ((a : ℕ) → a < length rec → sum M n (at rec a).weights (direction M rec j) ≡ 0)

-- The witness is a table that has the element at the member, and fits the record.
abbrev pub WitnessFits : Type 0
WitnessFits =
    (M : FieldModel) → FieldLaws M → (n : ℕ) (rec : List Pivoted) → Reduced M n rec
    → (i a : ℕ) → i < n → a < M.size → (w : Vector) → Witness M n rec i a w
    → Codes M n w × (w i ≡ a) × Fits M n (all_figured rec) w

-- Two reduced records are equal where the same tables fit them.
abbrev pub AtMostOne : Type 0
AtMostOne =
    (M : FieldModel) → FieldLaws M → (n : ℕ) (rec rec' : List Pivoted) → Reduced M n rec → Reduced M n rec'
    → ((t : Vector) → Codes M n t → Fits M n (all_figured rec) t → Fits M n (all_figured rec') t)
    → ((t : Vector) → Codes M n t → Fits M n (all_figured rec') t → Fits M n (all_figured rec) t)
    → Same n rec rec'

-- The record fixes a row exactly when nothing of it is left over.
abbrev pub FixedLeavesNothing : Type 0
FixedLeavesNothing =
    (M : FieldModel) → FieldLaws M → (n : ℕ) (rec : List Pivoted) → Reduced M n rec
    → (g : Figured) → Codes M n g.row → g.figure < M.size
    → (Fixes M n (rows_of (all_figured rec)) g.row → (m : ℕ) → m < n → (leftover M rec g).row m ≡ 0)
    × (((m : ℕ) → m < n → (leftover M rec g).row m ≡ 0) → Fixes M n (rows_of (all_figured rec)) g.row)

-- What is left over of a row has elements, 0 at every pivot, and for a table that fits the record it has its
-- figure as sum exactly when the row has. The difference of the two sums is that of the two figures.
abbrev pub LeftoverFits : Type 0
LeftoverFits =
    (M : FieldModel) → FieldLaws M → (n : ℕ) (rec : List Pivoted) → Reduced M n rec
    → (g : Figured) → Codes M n g.row → g.figure < M.size
    → Codes M n (leftover M rec g).row × ((leftover M rec g).figure < M.size)
    × ((a : ℕ) → a < length rec → (leftover M rec g).row (at rec a).pivot ≡ 0)
    × ((t : Vector) → Codes M n t → Fits M n (all_figured rec) t
    → minus M (sum M n g.row t) g.figure ≡ minus M (sum M n (leftover M rec g).row t) (leftover M rec g).figure)

-- What is left over, made 1 at its lowest named member p, joins the record before row k, where the pivots below p
-- end: the record is reduced again, the tables that fit it are those that fitted it and have the figure of g, and the
-- tables that agree on its rows are those that agreed on them and on the row of g.
abbrev pub JoinedForm : Type 0
JoinedForm =
    (M : FieldModel) → FieldLaws M → (n : ℕ) (rec : List Pivoted) → Reduced M n rec
    → (g : Figured) → Codes M n g.row → g.figure < M.size
    → (p k : ℕ) → p < n → (leftover M rec g).row p ≢ 0 → ((m : ℕ) → m < p → (leftover M rec g).row m ≡ 0)
    → k ≤ length rec → ((a : ℕ) → a < k → (at rec a).pivot < p)
    → ((a : ℕ) → k ≤ a → a < length rec → p < (at rec a).pivot)
    → (e : Pivoted) → e ≡ with_pivot p (scaled M (M.inverse ((leftover M rec g).row p)) (leftover M rec g))
    → Reduced M n (joined M e k rec)
    × ((t : Vector) → Codes M n t
    → (Fits M n (all_figured (joined M e k rec)) t → Fits M n (g ∷ all_figured rec) t)
    × (Fits M n (g ∷ all_figured rec) t → Fits M n (all_figured (joined M e k rec)) t))
    × ((t u : Vector) → Codes M n t → Codes M n u
    → (Agree M n (rows_of (all_figured (joined M e k rec))) t u → Agree M n (g.row ∷ rows_of (all_figured rec)) t u)
    × (Agree M n (g.row ∷ rows_of (all_figured rec)) t u → Agree M n (rows_of (all_figured (joined M e k rec))) t u))

-- Tables agree on what was given exactly when they agree on its reduced form.
abbrev pub FormAgrees : Type 0
FormAgrees =
    (M : FieldModel) → FieldLaws M → (n : ℕ) (given : List Figured) (rec : List Pivoted) → ReducedForm M n given rec
    → RowsCodes M n (rows_of given)
    → (t u : Vector) → Codes M n t → Codes M n u
    → (Agree M n (rows_of given) t u → Agree M n (rows_of (all_figured rec)) t u)
    × (Agree M n (rows_of (all_figured rec)) t u → Agree M n (rows_of given) t u)

-- A record is its reduced form once more after a row that it already fixes.
abbrev pub FormKept : Type 0
FormKept =
    (M : FieldModel) → FieldLaws M → (n : ℕ) (given : List Figured) (rec : List Pivoted) → ReducedForm M n given rec
    → RowsCodes M n (rows_of given)
    → (g : Figured) → Fixes M n (rows_of (all_figured rec)) g.row → ReducedForm M n (g ∷ given) rec

-- A reduced record that the tables fit which fitted the one before and have the new figure is the reduced form with
-- the new row, where the row was not fixed before.
abbrev pub FormGrown : Type 0
FormGrown =
    (M : FieldModel) → FieldLaws M → (n : ℕ) (given : List Figured) (rec rec' : List Pivoted) → ReducedForm M n given rec
    → (g : Figured) → (Fixes M n (rows_of (all_figured rec)) g.row → ⊥) → Reduced M n rec'
    → ((t : Vector) → Codes M n t
    → (Fits M n (all_figured rec') t → Fits M n (g ∷ all_figured rec) t)
    × (Fits M n (g ∷ all_figured rec) t → Fits M n (all_figured rec') t))
    → ReducedForm M n (g ∷ given) rec'

-- A reduced record is the reduced form of its own rows, with their figures.
abbrev pub OwnForm : Type 0
OwnForm =
    (M : FieldModel) → FieldLaws M → (n : ℕ) (rec : List Pivoted) → Reduced M n rec → ReducedForm M n (all_figured rec) rec

-- At most one record is the reduced form of given rows.
abbrev pub OneForm : Type 0
OneForm =
    (M : FieldModel) → FieldLaws M → (n : ℕ) (given : List Figured) (rec rec' : List Pivoted)
    → ReducedForm M n given rec → ReducedForm M n given rec' → Same n rec rec'

-- The same tables fit two records that are equal.
abbrev pub SameFits : Type 0
SameFits =
    (M : FieldModel) (n : ℕ) (rec rec' : List Pivoted) → Same n rec rec'
    → (t : Vector) → Fits M n (all_figured rec) t → Fits M n (all_figured rec') t
