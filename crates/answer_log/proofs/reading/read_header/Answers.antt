-- Answers for `read_header`: the header's answer, and whether its count is the server's.
use Rattle.std.proofs.Common.{◌≡◌, ◌≢◌, arith, rules}
use Rattle.stored.specs.Stored.{count_of}
use Rattle.answer_log.proofs.Readers.{header_refused, header_differs, header_same}
use Rattle.answer_log.proofs.reading.read_header.Goals as goal

pub returns-in_err-count : goal.returns-in_err-count
returns-in_err-count g c =
    let refused = header_refused g.F.Field.model c.args.n c.args.bytes.now _ c.in_err-count.ensures in search rules

pub returns-then-from-n : goal.returns-then-from-n
returns-then-from-n g c =
    let fine = c.in_ok-count.ensures in
    let other : count_of c.args.bytes.now ≢ c.args.n = omega (arith, fine.1) in
    header_differs g.F.Field.model c.args.n c.args.bytes.now fine.0 other

pub returns : goal.returns
returns g c =
    let fine = c.in_ok-count.ensures in
    let same : count_of c.args.bytes.now ≡ c.args.n = omega (arith, fine.1) in
    header_same g.F.Field.model c.args.n c.args.bytes.now fine.0 same
