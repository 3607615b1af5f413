-- The items of a line.
--   code, no_weights                     an element by its code; the row that names nobody
--   names row m                          the row names member m
--   then                                 what to do with a value, where there is no fault
--   read_spaced_lem limit line p         the number below `limit` that stands after the space at a place
--   read_item_lem lim row line p         the item at a place, of a member that the row does not name
--   read_items_lem lim row line p        the row with the weights of all items from a place on to the line's end
-- Assumes nothing.
use Rattle.std.specs.Prelude.{ℕ, zero, suc, ◌+◌, ◌-◌, Bool, cond, not, List, length, replicate, Ok, Err, Result, ◌==◌, slice_set}
use Rattle.field.specs.Sums.{weights_of}
use Rattle.field.specs.declared.Element.{Element}
use Rattle.query.specs.declared.faults.NumberFault.{NumberFault}
use Rattle.query.specs.declared.faults.ItemFault.{ItemFault}
use Rattle.query.specs.declared.faults.ItemFault.TheVariants.{NoSpace, Number, Repeated}
use Rattle.query.specs.declared.numbers.Numeral.{Numeral}
use Rattle.query.specs.declared.items.Limits.{Limits}
use Rattle.query.specs.declared.items.Item.{Item}
use Rattle.query.specs.declared.items.Weights.{Weights}
use Rattle.query.specs.Numbers.{place, stands_at, read_number}

abbrev pub code : ℕ → Element
code e = record { 0 = e }

abbrev pub no_weights : List Element
no_weights = replicate 64 (code 0)

-- whether a row names a member: its weight there is not 0
abbrev pub names : List Element → ℕ → Bool
names row m = not (weights_of row m == 0)

-- what to do with a value, where there is no fault
abbrev pub then : {A B E : Type 0} → Result A E → (A → Result B E) → Result B E
then (Ok x) k = k x
then (Err f) k = Err f

-- a number's fault, as that of its item
abbrev pub of_item : {A : Type 0} → Result A NumberFault → Result A ItemFault
of_item (Ok x) = Ok x
of_item (Err f) = Err (Number f)

-- 32 is the space
unfoldable pub read_spaced_lem : ℕ → List ℕ → ℕ → Result Numeral ItemFault
read_spaced_lem limit line p =
    cond (stands_at line p 32) (of_item (read_number 0 limit line (p + 1))) (Err (NoSpace (place p)))

-- the item of the member found: with the weight after a colon, which is 58, or 1 where there is none
abbrev pub weighed : Limits → List ℕ → Numeral → Result Item ItemFault
weighed lim line m =
    cond (stands_at line m.after.0 58)
    (then (of_item (read_number 1 lim.size line (m.after.0 + 1)))
    (λ w. Ok (record { member = record { 0 = m.value }; weight = code w.value; after = w.after })))
    (Ok (record { member = record { 0 = m.value }; weight = code 1; after = m.after }))

unfoldable pub read_item_lem : Limits → List Element → List ℕ → ℕ → Result Item ItemFault
read_item_lem lim row line p =
    then (read_spaced_lem lim.members line p)
    (λ m. cond (names row m.value) (Err (Repeated m.start)) (weighed lim line m))

-- at most `turns` items; each takes a byte at least, so that the bytes left are turns enough
abbrev pub items_in : ℕ → Limits → List Element → List ℕ → ℕ → Result Weights ItemFault
items_in zero lim row line p = Err (NoSpace (place p))
items_in (suc turns) lim row line p =
    then (read_item_lem lim row line p)
    (λ i. cond (i.after.0 == length line) (Ok (record { 0 = slice_set row i.member.0 i.weight }))
    (items_in turns lim (slice_set row i.member.0 i.weight) line i.after.0))

unfoldable pub read_items_lem : Limits → List Element → List ℕ → ℕ → Result Weights ItemFault
read_items_lem lim row line p = items_in (length line - p) lim row line p
