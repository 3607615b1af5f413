use Rattle.std.proofs.Common.{rules, ◌≡◌, ◌≢◌}
use Rattle.std.proofs.lemmas.Iterator.{first_from_Range}
use borrow.Author.Tests.{tests}
use Rattle.field.specs.Sums.{weights_of}
use Rattle.record.proofs.rows.FiguredRow.lowest_other.Goals as goal

pub returns : goal.returns
returns c =
    let ws = c.args.self.now.weights in
    let first =
    first_from_Range _ _ _ _ (λ m. (m ≢ c.args.than.0) × (weights_of ws m ≢ 0)) (λ m. m ≢ c.args.than.0 → weights_of ws m ≡ 0) c.find.ensures.ran
    (λ x q k. search (rules, tests)) (λ x q k. search (rules, tests)) in
    search (rules, first)
