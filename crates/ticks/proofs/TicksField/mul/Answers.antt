-- A product with 0 is 0, and exponents add up where powers are multiplied.
use mathlib.Core.Logic.{inl, inr}
use mathlib.Core.Path.{◌≡◌, sym, ◌∙◌, ap, ap₂}
use lib.Dec.{lit<}
use Prim.Native.Nat.{◌+◌}
use Rattle.ticks.specs.Polynomials.{product, raised}
use Rattle.ticks.specs.Raising.{raised-add}
use Rattle.ticks.specs.Products.{zero-product, product-zero}
use Rattle.ticks.proofs.TicksField.mul.Goals as goal

pub returns-then-x-eq0-clause-is : goal.returns-then-x-eq0-clause-is
returns-then-x-eq0-clause-is c = made ∙ ap₂ product c.low-x.ensures c.low-y.ensures
  where
    made : 0 ≡ product c.low-x.result c.low-y.result
    made =
        elim c.then-x-eq0.either [
          | inl e ↦ sym (ap (λ x. product x c.low-y.result) e ∙ zero-product c.low-y.result)
          | inr e ↦ sym (ap (product c.low-x.result) e.1 ∙ product-zero c.low-x.result c.low-x.type_inv)
        ]

pub returns-clause-is : goal.returns-clause-is
returns-clause-is c =
    c.from-3.ensures ∙ c.power.ensures ∙ ap₂ (λ i j. raised 3 (i + j)) c.from.ensures c.from-2.ensures
    ∙ raised-add 3 c.logarithm.result c.logarithm-2.result (lit< tt)
    ∙ ap₂ product (of_x ∙ c.low-x.ensures) (of_y ∙ c.low-y.ensures)
  where
    of_x : raised 3 c.logarithm.result ≡ c.low-x.result
    of_x = search (c.logarithm.ensures.undone)

    of_y : raised 3 c.logarithm-2.result ≡ c.low-y.result
    of_y = search (c.logarithm-2.ensures.undone)
