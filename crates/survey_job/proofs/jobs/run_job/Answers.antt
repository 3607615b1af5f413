-- Answers for `run_job`: by the file's check.
use Rattle.std.proofs.Common.{◌≡◌, ℕ, List, [], Some, vec_items, sym, subst, arith}
use Rattle.refusal.specs.Numbered.{number, detail}
use Rattle.answer_text.specs.AnswerLines.{refusal_line_lem}
use Rattle.table_file.specs.Views.{view_table}
use Rattle.survey_job.specs.Jobs.{Printed, Replays, refused, replayed}
use Rattle.survey_job.proofs.FileFaults.{small_detail}
use Rattle.survey_job.proofs.jobs.run_job.Goals as goal

pub refuse-requires : goal.refuse-requires
refuse-requires g c =
    let small = small_detail g.F.Field.model c.args.table.now (Some c.in-Err.refusal) c.in-Err.ensures.refused in
    omega (arith, small)

pub returns-in-Ok : goal.returns-in-Ok
returns-in-Ok g c =
    let M = g.F.Field.model in
    let file = c.in-Ok.ensures in
    let out = vec_items c.replay_new.result.printed in
    let log = vec_items c.replay_new.result.log in
    let done : Replays M (view_table M c.in-Ok.server) c.args.text.now out log = search (c.replay_new.ensures) in
    replayed file.accepted out log (subst (λ (T : List ℕ). Replays M T c.args.text.now out log) file.table done)

pub returns-in-Err : goal.returns-in-Err
returns-in-Err g c =
    let M = g.F.Field.model in
    let e = c.in-Err.refusal in
    let line = refusal_line_lem (number e) (detail e) in
    let out = vec_items c.refuse.result.printed in
    let log = vec_items c.refuse.result.log in
    let told : out ≡ line = search (c.refuse.ensures) in
    let empty : log ≡ [] = search (c.refuse.ensures) in
    subst (λ (xs : List ℕ). Printed M c.args.table.now c.args.text.now xs log) (sym told)
    (subst (λ (xs : List ℕ). Printed M c.args.table.now c.args.text.now line xs) (sym empty) (refused e c.in-Err.ensures.refused))
