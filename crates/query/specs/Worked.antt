-- Faults worked by hand, for three members over a field of 65521 elements, each line with its refusal.
--   WorkedFaults size   each of the listed lines has its refusal, over a field of that size
-- Assumes nothing.
use Rattle.std.specs.Prelude.{◌≡◌, ℕ, List, [], ◌∷◌, Err, codes}
use Rattle.std.specs.List.{AllByRecursion}
use Rattle.refusal.specs.declared.Refusal.{Refusal}
use Rattle.refusal.specs.declared.Refusal.TheVariants.{UnexpectedByte, BadNumber, MemberRepeated}
use Rattle.query.specs.declared.faults.LineFault.{LineFault}
use Rattle.query.specs.declared.items.Limits.{Limits}
use Rattle.query.specs.Refusals.{line_refusal}
use Rattle.query.specs.Numbers.{place}
use Rattle.query.specs.Lines.{reading}

pub record Case : Type 0 where
  pub line : List ℕ
  pub refusal : Refusal

abbrev pub faults : List Case
faults =
    record { line = codes ""; refusal = UnexpectedByte (place 0) }
    ∷ record { line = codes "b 0"; refusal = UnexpectedByte (place 0) }
    ∷ record { line = codes "a"; refusal = UnexpectedByte (place 1) }
    ∷ record { line = codes "a  0"; refusal = UnexpectedByte (place 2) }
    ∷ record { line = codes "a 0:"; refusal = UnexpectedByte (place 4) }
    ∷ record { line = codes "w 0 1 2"; refusal = UnexpectedByte (place 5) }
    ∷ record { line = codes "a 0 3"; refusal = BadNumber (place 4) }
    ∷ record { line = codes "a 01"; refusal = BadNumber (place 2) }
    ∷ record { line = codes "a 0:0"; refusal = BadNumber (place 4) }
    ∷ record { line = codes "a 0:65521"; refusal = BadNumber (place 4) }
    ∷ record { line = codes "a 0 0:x"; refusal = MemberRepeated (place 4) }
    ∷ record { line = codes "w 0 65521"; refusal = BadNumber (place 4) }
    ∷ []

abbrev pub Refused : Limits → Case → Type 0
Refused lim c = (f : LineFault) × (reading lim c.line ≡ Err f) × (line_refusal f ≡ c.refusal)

abbrev pub WorkedFaults : ℕ → Type 0
WorkedFaults size = AllByRecursion (Refused (record { members = 3; size = size })) faults
