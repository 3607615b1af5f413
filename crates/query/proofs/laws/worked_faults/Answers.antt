-- The faults worked by hand, each with what it is, by computing.
use Rattle.std.proofs.Common.{ℕ, refl}
use Rattle.query.specs.declared.faults.NumberFault.TheVariants.{NoDigit, LeadingZero, OutOfRange}
use Rattle.query.specs.declared.faults.ItemFault.TheVariants.{NoSpace, Number, Repeated}
use Rattle.query.specs.declared.faults.LineFault.{LineFault}
use Rattle.query.specs.declared.faults.LineFault.TheVariants.{NoKind, Item, NotEnded}
use Rattle.query.specs.Numbers.{place, read_number}
use Rattle.query.specs.Items.{read_spaced_lem, read_item_lem, read_items_lem}
use Rattle.query.specs.Lines.{read_witness_lem, reading}
use Rattle.query.proofs.laws.worked_faults.Goals as goal

module _ (p : ℕ) where
  abbrev no_space : LineFault
  no_space = Item (NoSpace (place p))

  abbrev no_digit : LineFault
  no_digit = Item (Number (NoDigit (record { 0 = place p })))

  abbrev leading_zero : LineFault
  leading_zero = Item (Number (LeadingZero (place p)))

  abbrev out_of_range : LineFault
  out_of_range = Item (Number (OutOfRange (place p)))

  abbrev repeated : LineFault
  repeated = Item (Repeated (place p))

pub returns : goal.returns
unfolding read_number read_spaced_lem read_item_lem read_items_lem read_witness_lem reading
returns c =
    ((NoKind, search, refl), ((NoKind, search, refl), ((no_space 1, search, refl), ((no_digit 2, search, refl), ((no_digit 4, search, refl), ((NotEnded (place 5), search, refl), ((out_of_range 4, search, refl), ((leading_zero 2, search, refl), ((out_of_range 4, search, refl), ((out_of_range 4, search, refl), ((repeated 4, search, refl), ((out_of_range 4, search, refl), tt))))))))))))
