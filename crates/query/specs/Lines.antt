-- A line, read as a request.
--   read_witness_lem lim line p      the two items of a witness line, from a place on
--   limits M n                   the numbers in range, over a field and n members
--   reading lim line             what the line wants, or its first fault
-- Assumes nothing.
use Rattle.std.specs.Prelude.{ℕ, min, cond, List, [], ◌∷◌, length, Ok, Err, Result, ◌==◌, nat_lt}
use Rattle.field.specs.Model.{FieldModel}
use Rattle.query.specs.declared.faults.ItemFault.{ItemFault}
use Rattle.query.specs.declared.faults.LineFault.{LineFault}
use Rattle.query.specs.declared.faults.LineFault.TheVariants.{TooLong, NoKind, Item, NotEnded}
use Rattle.query.specs.declared.items.Limits.{Limits}
use Rattle.query.specs.declared.lines.Request.{Request}
use Rattle.query.specs.declared.lines.Request.TheVariants.{Ask, Try, Witness, Remark}
use Rattle.query.specs.Items.{code, then, no_weights, read_spaced_lem, read_items_lem}

-- an item's fault, as that of its line
abbrev pub of_line : {A : Type 0} → Result A ItemFault → Result A LineFault
of_line (Ok x) = Ok x
of_line (Err f) = Err (Item f)

unfoldable pub read_witness_lem : Limits → List ℕ → ℕ → Result Request LineFault
read_witness_lem lim line p =
    then (of_line (read_spaced_lem lim.members line p))
    (λ m. then (of_line (read_spaced_lem lim.size line m.after.0))
    (λ e. cond (nat_lt e.after.0 (length line)) (Err (NotEnded e.after))
    (Ok (Witness (record { 0 = m.value }) (code e.value)))))

abbrev pub limits : FieldModel → ℕ → Limits
limits M n = record { members = min n 64; size = M.size }

-- a line whose first byte is not that of a remark: 97, 116 and 119 are `a`, `t` and `w`
abbrev pub by_kind : ℕ → Limits → List ℕ → Result Request LineFault
by_kind b lim line =
    cond (b == 97) (then (of_line (read_items_lem lim no_weights line 1)) (λ row. Ok (Ask row)))
    (cond (b == 116) (then (of_line (read_items_lem lim no_weights line 1)) (λ row. Ok (Try row)))
    (cond (b == 119) (read_witness_lem lim line 1) (Err NoKind)))

-- 35 is `#`
unfoldable pub reading : Limits → List ℕ → Result Request LineFault
reading lim [] = Err NoKind
reading lim (b ∷ bs) =
    cond (b == 35) (Ok Remark)
    (cond (nat_lt 640 (length (b ∷ bs))) (Err TooLong) (by_kind b lim (b ∷ bs)))
