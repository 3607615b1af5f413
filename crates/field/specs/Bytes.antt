-- The bytes of an element: one where the field's size is at most 256, else two, the high byte first.
--   width M           how many bytes an element takes
--   written M e       the bytes that stand for a code
--   code_at M bs i    the code that stands in some bytes from place i on
-- Assumes nothing.
use Rattle.std.specs.Prelude.{ℕ, ◌+◌, ◌*◌, ◌/◌, ◌%◌, Bool, true, false, List, [], ◌∷◌, nat_le, slice_index}
use Rattle.field.specs.Model.{FieldModel}

-- the first where the elements take one byte, the second where they take two
abbrev pub by_width : {A : Type 0} → Bool → A → A → A
by_width true one two = one
by_width false one two = two

-- how many bytes an element takes
abbrev pub width : FieldModel → ℕ
width M = by_width (nat_le M.size 256) 1 2

-- the bytes that stand for a code
abbrev pub written : FieldModel → ℕ → List ℕ
written M e = by_width (nat_le M.size 256) (e ∷ []) (e / 256 ∷ e % 256 ∷ [])

-- the code that stands in some bytes from a place on
abbrev pub code_at : FieldModel → List ℕ → ℕ → ℕ
code_at M bs i = by_width (nat_le M.size 256) (slice_index bs i) (slice_index bs i * 256 + slice_index bs (i + 1))
