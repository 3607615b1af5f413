-- Rows in memory, as rows of the theory.
--   figured_row, pivoted     a row with its figure; a record row
--   figured_record_row       a record row as a row with its figure
--   all_pivoted              record rows, one after another
--   SameRow n g h            two rows with figures are equal at the n members
--   SamePivoted n d e        two record rows are equal at the n members
--   AllCleared M n e rec rec'   rec' are the rows rec, each cleared by e
--   row_without M e r        the weights of r, once the pivot of e is cleared from it
--   NamesNobody, FirstNamed    no member of n is named; p is the lowest that is
--   NoOther, FirstOther      the same of the members other than q
--   LowestNamed n w o        o is the lowest named member of n, none where no member is named
--   LowestOther n w q o      the same of the members other than q
--   MadeFresh M n l x        x is l made 1 at its lowest named member, with the factor that made it so
-- Assumes nothing.
use Rattle.std.specs.Prelude.{◌≡◌, ℕ, ◌<◌, ◌≢◌, List, map, length, Option, MatchOption}
use Rattle.refusal.specs.declared.Member.{Member}
use Rattle.field.specs.Model.{FieldModel}
use Rattle.field.specs.Sums.{Vector, weights_of}
use Rattle.echelon.specs.Rows.{Figured, CodedRow}
use Rattle.echelon.specs.Reduced.{Pivoted, at}
use Rattle.echelon.specs.Elimination.{cleared, scaled, pivot_cleared}
use Rattle.record.specs.declared.rows.FiguredRow.{FiguredRow}
use Rattle.record.specs.declared.rows.RecordRow.{RecordRow}
use Rattle.record.specs.declared.rows.FreshRow.{FreshRow}

abbrev pub figured_row : FiguredRow → Figured
figured_row r = record { row = weights_of r.weights; figure = r.figure.0 }

abbrev pub pivoted : RecordRow → Pivoted
pivoted r = record { pivot = r.pivot.0; weights = weights_of r.row.weights; figure = r.row.figure.0 }

abbrev pub figured_record_row : RecordRow → Figured
figured_record_row r = figured_row r.row

abbrev pub all_pivoted : List RecordRow → List Pivoted
all_pivoted rows = map pivoted rows

pub record SameRow (n : ℕ) (g h : Figured) : Type 0 where
  pub rows : (m : ℕ) → m < n → g.row m ≡ h.row m
  pub figures : g.figure ≡ h.figure

pub record SamePivoted (n : ℕ) (d e : Pivoted) : Type 0 where
  pub pivots : d.pivot ≡ e.pivot
  pub weights : (m : ℕ) → m < n → d.weights m ≡ e.weights m
  pub figures : d.figure ≡ e.figure

abbrev pub AllCleared : FieldModel → ℕ → Pivoted → List Pivoted → List Pivoted → Type 0
AllCleared M n e rec rec' = (a : ℕ) → a < length rec → SamePivoted n (at rec' a) (pivot_cleared M e (at rec a))

abbrev pub row_without : FieldModel → RecordRow → RecordRow → Vector
row_without M e r = (cleared M (pivoted e) (figured_record_row r)).row

abbrev pub NamesNobody : ℕ → Vector → Type 0
NamesNobody n w = (m : ℕ) → m < n → w m ≡ 0

abbrev pub FirstNamed : ℕ → Vector → ℕ → Type 0
FirstNamed n w p = (p < n) × (w p ≢ 0) × ((m : ℕ) → m < p → w m ≡ 0)

abbrev pub NoOther : ℕ → Vector → ℕ → Type 0
NoOther n w q = (m : ℕ) → m < n → m ≢ q → w m ≡ 0

abbrev pub FirstOther : ℕ → Vector → ℕ → ℕ → Type 0
FirstOther n w q p = (p < n) × (p ≢ q) × (w p ≢ 0) × ((m : ℕ) → m < p → m ≢ q → w m ≡ 0)

abbrev pub LowestNamed : ℕ → Vector → Option Member → Type 0
LowestNamed n w o = MatchOption o (NamesNobody n w) (λ p. FirstNamed n w p.0)

abbrev pub LowestOther : ℕ → Vector → ℕ → Option Member → Type 0
LowestOther n w q o = MatchOption o (NoOther n w q) (λ p. FirstOther n w q p.0)

pub record MadeFresh (M : FieldModel) (n : ℕ) (l : Figured) (x : FreshRow) : Type 0 where
  pub first : FirstNamed n l.row x.row.pivot.0
  pub factor : x.factor.0 ≡ M.inverse (l.row x.row.pivot.0)
  pub made : SameRow n (figured_record_row x.row) (scaled M x.factor.0 l)
  pub coded : CodedRow M n (figured_record_row x.row)
