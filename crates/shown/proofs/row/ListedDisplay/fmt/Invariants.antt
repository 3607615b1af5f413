-- The invariant of `fmt`: the elements so far are written, each after the text between them.
use Rattle.std.proofs.Common.{◌++◌, take, decimal}
use Rattle.std.specs.Fmt.{HasWritten, IsPlainFormatter}
use Rattle.std.specs.List.{flat_map}
use Rattle.shown.proofs.row.ListedDisplay.fmt.Given as goal

abbrev pub invariant-loop-element : goal.invariant-loop-element
invariant-loop-element g l =
    IsPlainFormatter l.initial.f → HasWritten g.W.Write.write_str_gives l.initial.f (flat_map (λ v. l.self.between.now ++ decimal v.0) (take l.element-index l.rest)) l.f
