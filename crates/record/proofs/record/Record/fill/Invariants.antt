use Rattle.std.proofs.Common.{◌≡◌, ℕ, ◌<◌, length}
use Rattle.field.specs.Sums.{weights_of}
use Rattle.echelon.specs.Reduced.{at}
use Rattle.echelon.specs.Witness.{Free, base, direction}
use Rattle.record.specs.Records.{rec_of}
use Rattle.record.proofs.record.Record.fill.Given as goal

abbrev pub invariant-loop-row : goal.invariant-loop-row
invariant-loop-row g l =
    let M = g.F.Field.model in
    let rec = rec_of l.self in
    let target : ℕ → ℕ = λ m. M.plus (base rec m) (M.times l.factor.0 (direction M rec l.free.0 m)) in
    (length l.out ≡ l.self.count)
    × ((b : ℕ) → b < l.row-index → weights_of l.out (at rec b).pivot ≡ target (at rec b).pivot)
    × ((m : ℕ) → m < length l.out → Free rec m → weights_of l.out m ≡ target m)
