-- The tables that servers mean.
--   element_or_zero_lem M e, bounded k   what is no element counts as 0; k cut to 1 to 64
--   Table M t           a list of 1 to 64 elements
--   value_at t          the element of each member, 0 from the count on
--   listed M k f        the table of k values f, cut to 1 to 64 members, where a code that is no element counts as 0
--   codes es            the codes of some elements
--   sums M t u          two tables added member by member, as far as both go
-- Assumes nothing.
use Rattle.std.specs.Prelude.{ℕ, ◌<◌, ◌≤◌, min, max, true, false, List, map, length, nat_lt, slice_index}
use Rattle.std.specs.List.{range_with_len}
use Rattle.field.specs.Model.{FieldModel}
use Rattle.field.specs.Sums.{Vector}
use Rattle.field.specs.declared.Element.{Element}

pub record Table (M : FieldModel) (t : List ℕ) : Type 0 where
  pub some : 1 ≤ length t
  pub few : length t ≤ 64
  pub elements : (m : ℕ) → m < length t → slice_index t m < M.size

abbrev pub value_at : List ℕ → Vector
value_at t m = slice_index t m

abbrev pub element_or_zero_lem : FieldModel → ℕ → ℕ
element_or_zero_lem M e = elim (nat_lt e M.size) [ true ↦ e | false ↦ 0 ]

abbrev pub bounded : ℕ → ℕ
bounded k = max 1 (min k 64)

abbrev pub listed : FieldModel → ℕ → Vector → List ℕ
listed M k f = map (λ m. element_or_zero_lem M (f m)) (range_with_len 0 (bounded k))

-- the codes of some elements
abbrev pub codes : List Element → List ℕ
codes es = map (λ e. e.0) es

-- two tables added member by member, as far as both go
abbrev pub sums : FieldModel → List ℕ → List ℕ → List ℕ
sums M t u = map (λ m. M.plus (value_at t m) (value_at u m)) (range_with_len 0 (min (length t) (length u)))
