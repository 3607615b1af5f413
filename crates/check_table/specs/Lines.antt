-- What the program chooses and prints before a table is listed.
--   is_of_ticks bytes   whether a table file is read over ticks: its first byte is 2
--   name_of k           what the field of kind k is called: `ticks` where k is 2, else `amounts`
--   refused_line e      the line of a refused table file: a mark, the refusal's number, and what comes with it
-- Assumes nothing.
use Rattle.std.specs.Prelude.{ℕ, Bool, cond, List, ◌++◌, ◌==◌, slice_index, decimal, codes}
use Rattle.refusal.specs.Numbered.{number, detail}
use Rattle.refusal.specs.declared.Refusal.{Refusal}

abbrev pub is_of_ticks : List ℕ → Bool
is_of_ticks bytes = slice_index bytes 0 == 2

abbrev pub name_of : ℕ → List ℕ
name_of k = cond (k == 2) (codes "ticks") (codes "amounts")

abbrev pub refused_line : Refusal → List ℕ
refused_line e = codes "- " ++ decimal (number e) ++ codes " " ++ decimal (detail e)
