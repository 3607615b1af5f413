-- The laws of the reader.
--   Exact lim line r          the line is accepted as a request exactly where it spells that request
--   Parts line r              where the first fault is 18, the line leaves the grammar at its place
--   Within line r             a fault stands within its line, or at its end, and never past place 640
--   ReadsBack bound           what decimal writes of a number below the bound is read as that number
-- Assumes nothing.
use Rattle.std.specs.Prelude.{◌≡◌, ℕ, ◌+◌, ◌<◌, ◌≤◌, List, [], ◌++◌, length, Ok, Err, decimal, Result}
use Rattle.refusal.specs.Numbered.{detail}
use Rattle.refusal.specs.declared.Refusal.TheVariants.{UnexpectedByte}
use Rattle.query.specs.declared.faults.LineFault.{LineFault}
use Rattle.query.specs.declared.items.Limits.{Limits}
use Rattle.query.specs.declared.lines.Request.{Request}
use Rattle.query.specs.Numbers.{place, digits, read_number}
use Rattle.query.specs.Refusals.{line_refusal}
use Rattle.query.specs.Grammar.{Accepted}
use Rattle.query.specs.Shape.{PartsAt}

pub record Exact (lim : Limits) (line : List ℕ) (r : Result Request LineFault) : Type 0 where
  pub sound : (q : Request) → r ≡ Ok q → Accepted lim line q
  pub complete : (q : Request) → Accepted lim line q → r ≡ Ok q

abbrev pub Parts : List ℕ → Result Request LineFault → Type 0
Parts line r = (f : LineFault) (p : ℕ) → r ≡ Err f → line_refusal f ≡ UnexpectedByte (place p) → PartsAt line p

abbrev pub Within : List ℕ → Result Request LineFault → Type 0
Within line r = (f : LineFault) → r ≡ Err f → (detail (line_refusal f) ≤ length line) × (detail (line_refusal f) ≤ 640)

-- wherever it stands in a line, if no digit follows it
abbrev pub ReadsBack : ℕ → Type 0
ReadsBack bound =
    (v : ℕ) → v < bound → (least limit : ℕ) → least ≤ v → v < limit → (before rest : List ℕ) → digits rest ≡ []
    → read_number least limit (before ++ (decimal v ++ rest)) (length before)
    ≡ Ok (record { start = place (length before); value = v; after = place (length before + length (decimal v)) })
