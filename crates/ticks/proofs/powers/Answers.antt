-- The table's rule, by one test over its entries.
use Rattle.ticks.specs.Polynomials.{double, by_bits, product}
use Rattle.ticks.proofs.Entries.{powers_rule}
use Rattle.ticks.proofs.powers.Goals as goal

pub returns : goal.returns
unfolding product by_bits double
returns c = powers_rule _ (search) (search) (search) (search)
