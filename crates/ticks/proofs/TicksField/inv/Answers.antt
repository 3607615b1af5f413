-- The inverse of 0 is 0, and that of a power is the power that makes 255 with the exponent.
use mathlib.Core.Path.{◌≡◌, sym, ◌∙◌, ap}
use Prim.Native.Nat.{◌-◌}
use native.Mathlib.Omega.{arith}
use Rattle.ticks.specs.Polynomials.{raised}
use Rattle.ticks.specs.Generator.{inverse_power}
use Rattle.ticks.specs.Raising.{zero-raised}
use Rattle.ticks.proofs.TicksField.inv.Goals as goal

pub returns-then-x-eq0-clause-is : goal.returns-then-x-eq0-clause-is
returns-then-x-eq0-clause-is c =
    sym (zero-raised 253) ∙ ap (λ x. raised x 254) (sym c.if-x-eq0.true ∙ c.low-x.ensures)

pub returns-clause-is : goal.returns-clause-is
returns-clause-is c =
    c.from-2.ensures ∙ c.power.ensures ∙ ap (λ n. raised 3 (255 - n)) c.from.ensures
    ∙ inverse_power c.logarithm.result (omega arith)
    ∙ ap (λ x. raised x 254) (of_x ∙ c.low-x.ensures)
  where
    of_x : raised 3 c.logarithm.result ≡ c.low-x.result
    of_x = search (c.logarithm.ensures.undone)
