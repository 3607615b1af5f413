use Rattle.std.proofs.Common.{arith}
use Rattle.query.proofs.Decimals.{reads_back}
use Rattle.query.proofs.laws.decimals_read_back.Goals as goal

pub returns : goal.returns
returns c = reads_back _ (search arith)
