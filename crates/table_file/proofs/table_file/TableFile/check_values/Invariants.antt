-- The invariant of `check_values`: no member passed so far is faulty.
use Rattle.std.proofs.Common.{ℕ, ◌<◌}
use Rattle.table_file.specs.Files.{Faulty}
use Rattle.table_file.proofs.table_file.TableFile.check_values.Given as goal

abbrev pub invariant-loop-m : goal.invariant-loop-m
invariant-loop-m g l = (k : ℕ) → k < l.m → Faulty g.F.Field.model l.self.bytes.now k → ⊥
