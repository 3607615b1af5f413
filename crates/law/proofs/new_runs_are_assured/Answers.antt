use Rattle.law.proofs.Promised.{new_runs_are_assured_lem}
use Rattle.law.proofs.new_runs_are_assured.Goals as goal

pub returns : goal.returns
returns c = new_runs_are_assured_lem
