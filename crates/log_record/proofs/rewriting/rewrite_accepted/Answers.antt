-- Answers for `rewrite_accepted`: a refusal of the record's, or what the rewriting answers.
use Rattle.std.proofs.Common.{length, Option, subst}
use Rattle.refusal.specs.declared.Refusal.{Refusal}
use Rattle.log_record.specs.Joins.{LogRecord}
use Rattle.log_record.specs.Rewrites.{log_refused}
use Rattle.log_record.proofs.Formed.{written_again, refused_again}
use Rattle.log_record.proofs.rewriting.rewrite_accepted.Goals as goal

pub returns-in-Some-clause-refused : goal.returns-in-Some-clause-refused
returns-in-Some-clause-refused g c =
    let found = c.read_record.ensures.log in
    let refused = subst (λ (o : Option Refusal). LogRecord g.F.Field.model c.args.n c.args.log.now o found.0) c.in-Some.is found.1 in
    log_refused c.in-Some.e found.0 refused

pub returns-clause-written : goal.returns-clause-written
returns-clause-written g c =
    let found = c.read_record.ensures.log in
    let accepted = subst (λ (o : Option Refusal). LogRecord g.F.Field.model c.args.n c.args.log.now o found.0) c.in-None.is found.1 in
    written_again g.F.Field.model c.args.n c.args.log.now (length c.args.out.now) found.0 accepted c.rewrite.result c.rewrite.ensures.written

pub returns-clause-refused : goal.returns-clause-refused
returns-clause-refused g c =
    let found = c.read_record.ensures.log in
    let accepted = subst (λ (o : Option Refusal). LogRecord g.F.Field.model c.args.n c.args.log.now o found.0) c.in-None.is found.1 in
    refused_again g.F.Field.model c.args.n c.args.log.now (length c.args.out.now) found.0 accepted c.rewrite.result c.rewrite.ensures.refused
