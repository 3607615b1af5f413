-- The refusal that each fault counts as: 18 for a byte out of place, 19 for a number, 20 for a member, 21 for a length.
--   digit_refusal, number_refusal, item_refusal, line_refusal   the refusal of each layer's fault
-- Assumes nothing.
use Rattle.refusal.specs.declared.Refusal.{Refusal}
use Rattle.refusal.specs.declared.Refusal.TheVariants.{UnexpectedByte, BadNumber, MemberRepeated, LineTooLong}
use Rattle.query.specs.declared.faults.DigitFault.{DigitFault}
use Rattle.query.specs.declared.faults.NumberFault.{NumberFault}
use Rattle.query.specs.declared.faults.NumberFault.TheVariants.{NoDigit, LeadingZero, TooManyDigits, OutOfRange}
use Rattle.query.specs.declared.faults.ItemFault.{ItemFault}
use Rattle.query.specs.declared.faults.ItemFault.TheVariants.{NoSpace, Number, Repeated}
use Rattle.query.specs.declared.faults.LineFault.{LineFault}
use Rattle.query.specs.declared.faults.LineFault.TheVariants.{TooLong, NoKind, Item, NotEnded}

abbrev pub digit_refusal : DigitFault → Refusal
digit_refusal f = UnexpectedByte f.0

abbrev pub number_refusal : NumberFault → Refusal
number_refusal (NoDigit f) = digit_refusal f
number_refusal (LeadingZero p) = BadNumber p
number_refusal (TooManyDigits p) = BadNumber p
number_refusal (OutOfRange p) = BadNumber p

abbrev pub item_refusal : ItemFault → Refusal
item_refusal (NoSpace p) = UnexpectedByte p
item_refusal (Number f) = number_refusal f
item_refusal (Repeated p) = MemberRepeated p

abbrev pub line_refusal : LineFault → Refusal
line_refusal TooLong = LineTooLong (record { 0 = 640 })
line_refusal NoKind = UnexpectedByte (record { 0 = 0 })
line_refusal (Item f) = item_refusal f
line_refusal (NotEnded p) = UnexpectedByte p
