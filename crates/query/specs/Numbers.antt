-- The numbers of a line, each read at a place of it.
--   place p                            a place by its number
--   byte_at line p                     the byte at a place, none from the line's end on
--   stands_at line p b                 whether the byte b stands at a place
--   read_digit_lem line p              the digit at a place, or its fault
--   digits bs                          the longest front of bs that is digits
--   worth 0 ds                         what the digits are worth
--   read_number least limit line p     the number at a place, from `least` up and below `limit`, or its first fault
-- Assumes nothing.
use Rattle.std.specs.Prelude.{ℕ, ◌+◌, ◌-◌, ◌*◌, Bool, false, cond, ◌&&◌, List, [], ◌∷◌, length, drop, Some, None, Ok, Err, Option, Result, ◌==◌, nat_le, nat_lt}
use Rattle.std.specs.Char.{is_ascii_digit}
use Rattle.refusal.specs.declared.BytePlace.{BytePlace}
use Rattle.query.specs.declared.faults.DigitFault.{DigitFault}
use Rattle.query.specs.declared.faults.NumberFault.{NumberFault}
use Rattle.query.specs.declared.faults.NumberFault.TheVariants.{NoDigit, LeadingZero, TooManyDigits, OutOfRange}
use Rattle.query.specs.declared.numbers.Numeral.{Numeral}

abbrev pub place : ℕ → BytePlace
place p = record { 0 = p }

abbrev pub head : List ℕ → Option ℕ
head [] = None
head (b ∷ bs) = Some b

abbrev pub byte_at : List ℕ → ℕ → Option ℕ
byte_at line p = head (drop p line)

-- whether a byte is the one asked for
abbrev pub is_byte : ℕ → Option ℕ → Bool
is_byte b None = false
is_byte b (Some c) = c == b

abbrev pub stands_at : List ℕ → ℕ → ℕ → Bool
stands_at line p b = is_byte b (byte_at line p)

abbrev pub digit_from : ℕ → List ℕ → Result ℕ DigitFault
digit_from p [] = Err (record { 0 = place p })
digit_from p (b ∷ bs) = cond (is_ascii_digit b) (Ok (b - 48)) (Err (record { 0 = place p }))

abbrev pub read_digit_lem : List ℕ → ℕ → Result ℕ DigitFault
read_digit_lem line p = digit_from p (drop p line)

abbrev pub digits : List ℕ → List ℕ
digits [] = []
digits (b ∷ bs) = cond (is_ascii_digit b) (b ∷ digits bs) []

abbrev pub worth : ℕ → List ℕ → ℕ
worth v [] = v
worth v (d ∷ ds) = worth (v * 10 + (d - 48)) ds

-- the number that the digits at a place write, once its range is known to hold or not
abbrev pub ranged : ℕ → ℕ → ℕ → List ℕ → Result Numeral NumberFault
ranged least limit p ds =
    cond (nat_le least (worth 0 ds) && nat_lt (worth 0 ds) limit)
    (Ok (record { start = place p; value = worth 0 ds; after = place (p + length ds) }))
    (Err (OutOfRange (place p)))

abbrev pub spelt : ℕ → ℕ → ℕ → List ℕ → Result Numeral NumberFault
spelt least limit p [] = Err (NoDigit (record { 0 = place p }))
spelt least limit p (d ∷ ds) =
    cond (d == 48 && nat_lt 1 (length (d ∷ ds))) (Err (LeadingZero (place p)))
    (cond (nat_lt 5 (length (d ∷ ds))) (Err (TooManyDigits (place p))) (ranged least limit p (d ∷ ds)))

unfoldable pub read_number : ℕ → ℕ → List ℕ → ℕ → Result Numeral NumberFault
read_number least limit line p = spelt least limit p (digits (drop p line))
