-- What trials of generated rows have in common.
--   stepped s        the state that a linear congruential generator has after s
--   rolled s n       the number below n that a state gives; 0 where n is 0
--   figured M es vs  the field sum of the products of weights and values, place by place
-- Assumes nothing.
use Rattle.std.specs.Prelude.{ℕ, ◌+◌, ◌*◌, ◌/◌, ◌%◌, ◌^◌, List, max}
use Rattle.std.specs.List.{fold, zip}
use Rattle.field.specs.Model.{FieldModel}
use Rattle.field.specs.declared.Element.{Element}

abbrev pub stepped : ℕ → ℕ
stepped s = ((s * 6364136223846793005) % 2 ^ 64 + 1442695040888963407) % 2 ^ 64

abbrev pub rolled : ℕ → ℕ → ℕ
rolled s n = (s / 2 ^ 33) % max n 1

abbrev pub figured : FieldModel → List Element → List Element → Element
figured M es vs = fold (λ a p. record { 0 = M.plus a.0 (M.times p.0.0 p.1.0) }) (record { 0 = 0 }) (zip es vs)
