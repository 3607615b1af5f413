-- The lines that a replay prints: bytes, with numbers in decimal.
--   after_space v      a number after a space
--   spaced vs          each number after a space
--   pair_text m a b    a mark and two numbers, each after a space
--   newline            the byte that ends a line
--   Told               what a line of query text is told
--   told_text t        what a line prints of that
--   answer_line k t    the line that query line k prints, with its newline
--   refusal_line_lem n d   the line of a refused table file: the number and detail of the refusal
--   stop_line_lem n k      the line of a stop: its number, and the line before which it came
--   told_of a          what an answer in memory tells
--   Short t            its numbers have five digits at most, and a table has 64 of them at most
--   LinesFit room      a line below 100000 that tells what is short takes no more than this room
-- Assumes nothing.
use Rattle.std.specs.Prelude.{ℕ, ◌<◌, ◌≤◌, List, [], ◌∷◌, ◌++◌, length, decimal, slice_index}
use Rattle.std.specs.List.{flat_map}
use Rattle.refusal.specs.declared.Refusal.{Refusal}
use Rattle.refusal.specs.Numbered.{number, detail}
use Rattle.server.specs.Tables.{codes}
use Rattle.answer_text.specs.declared.answers.Answer.{Answer}
use Rattle.answer_text.specs.declared.answers.Answer.TheVariants.{Figure, Granted, Witness, Refused}

abbrev pub after_space : ℕ → List ℕ
after_space v = 32 ∷ decimal v

abbrev pub spaced : List ℕ → List ℕ
spaced vs = flat_map after_space vs

abbrev pub pair_text : ℕ → ℕ → ℕ → List ℕ
pair_text mark first second = mark ∷ spaced (first ∷ second ∷ [])

abbrev pub newline : List ℕ
newline = 10 ∷ []

-- a figure; that a try is granted; the codes of a witness table; a refusal
pub data Told : Type 0 where
  figure : ℕ → Told
  granted : Told
  table : List ℕ → Told
  refused : Refusal → Told

abbrev pub told_text : Told → List ℕ
-- =
told_text (figure v) = 61 ∷ spaced (v ∷ [])
-- +
told_text granted = 43 ∷ []
-- w
told_text (table w) = 119 ∷ spaced w
-- -
told_text (refused e) = pair_text 45 (number e) (detail e)

abbrev pub answer_line : ℕ → Told → List ℕ
answer_line k t = decimal k ++ (32 ∷ (told_text t ++ newline))

-- -
abbrev pub refusal_line_lem : ℕ → ℕ → List ℕ
refusal_line_lem n d = pair_text 45 n d ++ newline

-- !
abbrev pub stop_line_lem : ℕ → ℕ → List ℕ
stop_line_lem n k = pair_text 33 n k ++ newline

abbrev pub told_of : Answer → Told
told_of (Figure v) = figure v.0
told_of Granted = granted
told_of (Witness es) = table (codes es.now)
told_of (Refused e) = refused e

abbrev pub Short : Told → Type 0
Short (figure v) = v < 100000
Short granted = Unit {0}
Short (table w) = (length w ≤ 64) × ((m : ℕ) → m < length w → slice_index w m < 100000)
Short (refused e) = (number e < 100000) × (detail e < 100000)

abbrev pub LinesFit : ℕ → Type 0
LinesFit room = (k : ℕ) (t : Told) → k < 100000 → Short t → length (answer_line k t) ≤ room
