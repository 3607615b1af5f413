-- The table's rule, by one test over its entries.
use Rattle.ticks.specs.Polynomials.{double, by_bits, product}
use Rattle.ticks.specs.Generator.{chain}
use Rattle.ticks.proofs.Entries.{logarithms_rule}
use Rattle.ticks.proofs.logarithms.Goals as goal

pub returns : goal.returns
unfolding chain product by_bits double
returns c = logarithms_rule _ (search) (search) (search)
