-- The operations of the two fields. Assumes nothing.
use Rattle.std.proofs.Common.{◌≡◌, refl, lit<}
use Rattle.amounts.specs.Prime.{amounts}
use Rattle.amounts.specs.Inverse.{found}
use Rattle.ticks.specs.Polynomials.{ticks_field, double, by_bits, product, raised}

pub inverse_of_2 : amounts.inverse 2 ≡ 32761
inverse_of_2 = found 2 32761 (lit< tt) refl

pub past_the_size : amounts.plus 65520 2 ≡ 1
past_the_size = search

pub past_a_byte : ticks_field.times 2 128 ≡ 27
unfolding double by_bits product
past_a_byte = refl

pub inverse_of_3 : ticks_field.inverse 3 ≡ 246
unfolding double by_bits product raised
inverse_of_3 = refl
