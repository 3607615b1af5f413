-- A permit, as clauses see it.
--   number_of p    the number by which it is told in other sessions and in lists of calls
--   is_spent p     it was answered or withdrawn
-- Assumes nothing.
use Rattle.std.specs.Prelude.{ℕ, Bool}
use Rattle.session.specs.declared.permit.Permit.{Permit}

abbrev pub number_of : Permit → ℕ
number_of p = p.number

abbrev pub is_spent : Permit → Bool
is_spent p = p.spent
