use Rattle.std.proofs.Common.{rules, ◌≡◌, ◌∷◌, ◌++◌, length, Some, None, refl, ap, ◌∙◌, arith}
use Rattle.std.proofs.lemmas.List.{length-append}
use Rattle.replay_text.specs.Replays.{at_the_end}
use Rattle.replay_text.proofs.Progress.{begun, one_line, ended, part_back}
use Rattle.replay_text.proofs.replays.handle_lines.Goals as goal

pub loop-rest-init : goal.loop-rest-init
loop-rest-init g c = record {
  server = refl;
  count = omega arith;
  none_yet = refl;
  answers_within = omega arith;
  log_within = omega (arith, c.requires.header.within);
  progress = λ σ H. begun c.args.text.now c.args.answers.now c.args.log.now σ c.args.session.now c.args.log.now _ c.args.header (omega arith) H c.requires.header;
}

pub loop-rest-preserved : goal.loop-rest-preserved
loop-rest-preserved g c =
    let known = c.loop-rest.invariant in
    let found = c.in-Ok.ensures in
    let line = c.in-Ok.bytes.now in
    let after = c.in-Ok.after.now in
    let answers = c.loop-rest.answers in
    let log = c.loop-rest.log in
    let done = c.loop-rest.done in
    let used = c.handle_line-used.result in
    let at = c.handle_line-used.ensures in
    let size : length c.loop-rest.rest.now ≡ length (line ++ (10 ∷ after)) = ap length found.3 in
    let parts = length-append line (10 ∷ after) in
    record {
      server = at.server ∙ known.server;
      count = let before = known.count in omega (arith, before, size, parts);
      none_yet = known.none_yet;
      answers_within = part_back answers done.answers _ used.answers known.answers_within at.lengths.0 at.within.0;
      log_within = part_back log done.log _ used.log known.log_within at.lengths.1 at.within.1;
      progress = λ σ H.
          one_line c.args.text.now c.args.answers.now c.args.log.now σ c.loop-rest.session c.handle_line-used.new.session answers log done
          c.loop-rest.rest.now line after (known.progress σ H) found.2 found.3 found.0 found.1 used _ _ at.within.0 at.within.1 at.done;
    }

pub returns-in-Err-clause-law : goal.returns-in-Err-clause-law
returns-in-Err-clause-law g c =
    let at = c.loop-rest in
    ended g.met.S.Over.Field.laws c.args.session.now at.session c.args.text.now c.args.answers.now c.args.log.now at.answers at.log at.done at.rest.now
    c.requires.text (omega (arith, c.requires.header.within, c.requires.header.size)) at.invariant.progress (Some c.in-Err.refusal) c.in-Err.ensures _ (search rules)

pub returns-clause-law : goal.returns-clause-law
returns-clause-law g c =
    let at = c.loop-rest in
    let none : length at.rest.now ≡ 0 = search rules in
    ended g.met.S.Over.Field.laws c.args.session.now at.session c.args.text.now c.args.answers.now c.args.log.now at.answers at.log at.done at.rest.now
    c.requires.text (omega (arith, c.requires.header.within, c.requires.header.size)) at.invariant.progress None (at_the_end none) _ at.invariant.none_yet
