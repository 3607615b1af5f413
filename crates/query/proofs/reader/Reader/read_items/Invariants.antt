use Rattle.std.proofs.Common.{◌≡◌, ◌-◌, length}
use Rattle.query.specs.Items.{read_items_lem, no_weights}
use Rattle.query.proofs.reader.Reader.read_items.Given as goal

abbrev pub invariant-loop-item : goal.invariant-loop-item
invariant-loop-item l =
    (read_items_lem l.self.limits l.weights.0 l.self.line.now l.at.0 ≡ read_items_lem l.self.limits no_weights l.self.line.now l.initial.at.0)
    × (length l.weights.0 ≡ 64)

abbrev pub decreases-loop-item : goal.decreases-loop-item
decreases-loop-item l = length l.self.line.now - l.at.0
