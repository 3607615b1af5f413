-- How programs show refusals and rows: bytes, with numbers in decimal.
--   refused_text e      a refusal: its number, and what comes with it
--   answered_text t r   what t shows of what was given, or the refusal in its place
--   listed between es   elements, with a text between them
--   row_text es v       a row with its figure
-- Assumes nothing.
use Rattle.std.specs.Prelude.{ℕ, List, [], ◌∷◌, ◌++◌, decimal, codes, Option, Some, Result, Ok, Err}
use Rattle.std.specs.List.{flat_map}
use Rattle.refusal.specs.Numbered.{number, detail}
use Rattle.refusal.specs.declared.Refusal.{Refusal}
use Rattle.field.specs.declared.Element.{Element}

abbrev pub refused_text : Refusal → List ℕ
refused_text e = codes "refused by " ++ decimal (number e) ++ codes " with " ++ decimal (detail e)

abbrev pub answered_text : {T : Type 0} → (T → Option (List ℕ)) → Result T Refusal → Option (List ℕ)
answered_text t (Ok x) = t x
answered_text t (Err e) = Some (refused_text e)

abbrev pub listed : List ℕ → List Element → List ℕ
listed between [] = []
listed between (e ∷ es) = decimal e.0 ++ flat_map (λ v. between ++ decimal v.0) es

abbrev pub row_text : List Element → Element → List ℕ
row_text es v = codes "(" ++ listed (codes ", ") es ++ codes " : " ++ decimal v.0 ++ codes ")"
