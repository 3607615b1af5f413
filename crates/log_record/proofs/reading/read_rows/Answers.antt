-- Answers for `read_rows`: row after row.
use Rattle.std.proofs.Common.{ℕ, ◌+◌, ◌≤◌, [], ◌∷◌, length, drop, Some, None, sym, ap, ◌∙◌, subst, arith, rules}
use Rattle.std.specs.Iterator.Adapters.{enumerate_source, enumerate_count}
use Rattle.std.proofs.lemmas.Result.{err_from_is_err_and}
use Rattle.checks.specs.CheckedRows.{row_of}
use Rattle.echelon.specs.Rows.{row_with}
use Rattle.record.specs.Records.{rec_of}
use Rattle.answer_log.proofs.Logs.{read_figure}
use Rattle.answer_log.proofs.Steps.{whole_still, count-still, left_within, row_read, next-place, row_bad}
use Rattle.log_record.specs.Joins.{RowsRead, RowsJoin, Recorded, JoinsAfter, RefusedAfter}
use Rattle.log_record.proofs.Forwards.{rows_done, row-refused, row-kept_out, row-joined}
use Rattle.log_record.proofs.Verdicts.{nothing_yet}
use Rattle.log_record.proofs.reading.read_rows.Goals as goal

pub loop-row-init : goal.loop-row-init
loop-row-init g c =
    let M = g.F.Field.model in
    let n = c.count-n.result in
    let bytes = c.args.log.now in
    let gives = c.into_iter-row-iterator.ensures.into_iter_gives in
    let is = ap enumerate_source gives ∙ c.enumerate-row-items.ensures.source in
    let count = ap enumerate_count gives ∙ c.enumerate-row-items.ensures.count in
    let whole = ap (λ r. r.bytes.now) is ∙ c.new.ensures.bytes in
    let at = ap (λ r. r.at) is ∙ c.new.ensures.first.0 in
    let row = ap (λ r. r.row) is ∙ c.new.ensures.first.1 in (
      search rules,
      tt,
      whole,
      ap (λ r. r.n) is ∙ c.new.ensures.count,
      count ∙ sym row,
      sym c.count-n.ensures,
      (
        [],
        subst (Recorded M n []) (sym c.requires.empty) (nothing_yet M g.met.F.Field.laws n),
        λ r given all.
            subst (λ (i : ℕ). RowsJoin M n 0 [] (drop i bytes) r given) at
            (subst (λ (k : ℕ). RowsJoin M n k [] (drop (enumerate_source c.into_iter-row-iterator.result).at bytes) r given) row all),
      ),
    )

pub returns-in_err-entry : goal.returns-in_err-entry
returns-in_err-entry g c =
    let M = g.F.Field.model in
    let n = c.count-n.result in
    let inv = c.loop-row.invariant in
    let bytes = c.args.log.now in
    let s = enumerate_source c.loop-row.row-iterator in
    let t = enumerate_source c.next.new.self in
    let step = c.in-Some.ensures.steps.0 in
    let e = c.in_err-entry.field-0.0 in
    let left = left_within M s t _ step bytes n inv.2 inv.3 in
    let bad = row_bad M s t _ step bytes n inv.2 inv.3 e c.in_err-entry.was in
    let all = inv.6.2 (Some e) [] (row-refused M n s.row inv.6.0 bytes s.at left e bad) in
    let p = err_from_is_err_and c.from_residual.result c.from_residual.ensures.1 in
    rw (p.1, p.2)
    (record {
      count = inv.5 ∙ c.count-n.ensures;
      joins = tt;
      refused = subst (λ (m : ℕ). RowsJoin M m 0 [] (drop 2 bytes) (Some e) []) c.count-n.ensures all;
    })

pub join_row-requires : goal.join_row-requires
join_row-requires g c =
    let M = g.F.Field.model in
    let n = c.count-n.result in
    let inv = c.loop-row.invariant in
    let bytes = c.args.log.now in
    let s = enumerate_source c.loop-row.row-iterator in
    let t = enumerate_source c.next.new.self in
    let row = row_read M s t _ c.in-Some.ensures.steps.0 bytes n inv.2 inv.3 c.in_ok-entry.entry c.in_ok-entry.was in
    record { figure = read_figure M n _ _ _ _ _ row.reads }

pub returns-in_err-join_row : goal.returns-in_err-join_row
returns-in_err-join_row g c =
    let M = g.F.Field.model in
    let n = c.count-n.result in
    let inv = c.loop-row.invariant in
    let bytes = c.args.log.now in
    let s = enumerate_source c.loop-row.row-iterator in
    let t = enumerate_source c.next.new.self in
    let step = c.in-Some.ensures.steps.0 in
    let entry = c.in_ok-entry.entry in
    let w = row_of entry.row in
    let f = entry.figure.0 in
    let row = row_read M s t _ step bytes n inv.2 inv.3 entry c.in_ok-entry.was in
    let left = left_within M s t _ step bytes n inv.2 inv.3 in
    let number = c.in-Some.ensures.steps.1 in
    let e = c.in_err-join_row.field-0.0 in
    let bad : RefusedAfter M n (record { 0 = s.row }) (rec_of c.loop-row.held) (row_with w f) e =
    subst (λ (m : ℕ). RefusedAfter M m (record { 0 = s.row }) (rec_of c.loop-row.held) (row_with w f) e) inv.5
    (subst (λ (k : ℕ). RefusedAfter M c.loop-row.held.count (record { 0 = k }) (rec_of c.loop-row.held) (row_with w f) e)
    (omega (arith, number, inv.4)) c.in_err-join_row.ensures.refused)
    in
    let all = inv.6.2 (Some e) [] (row-kept_out M n s.row inv.6.0 bytes s.at left _ f entry.next row.reads e (bad inv.6.0 inv.6.1)) in
    let p = err_from_is_err_and c.from_residual-in_err-join_row.result c.from_residual-in_err-join_row.ensures.1 in
    rw (p.1, p.2)
    (record {
      count = c.join_row.ensures.count ∙ inv.5 ∙ c.count-n.ensures;
      joins = tt;
      refused = subst (λ (m : ℕ). RowsJoin M m 0 [] (drop 2 bytes) (Some e) []) c.count-n.ensures all;
    })

pub loop-row-preserved : goal.loop-row-preserved
loop-row-preserved g c =
    let M = g.F.Field.model in
    let n = c.count-n.result in
    let inv = c.loop-row.invariant in
    let bytes = c.args.log.now in
    let s = enumerate_source c.loop-row.row-iterator in
    let t = enumerate_source c.next.new.self in
    let step = c.in-Some.ensures.steps.0 in
    let entry = c.in_ok-entry.entry in
    let w = row_of entry.row in
    let f = entry.figure.0 in
    let row = row_read M s t _ step bytes n inv.2 inv.3 entry c.in_ok-entry.was in
    let left = left_within M s t _ step bytes n inv.2 inv.3 in
    let number = c.in-Some.ensures.steps.1 in
    let G = row_with w f in
    let after = rec_of c.join_row.new.held in
    let behind : JoinsAfter M n (record { 0 = s.row }) (rec_of c.loop-row.held) G after =
    subst (λ (m : ℕ). JoinsAfter M m (record { 0 = s.row }) (rec_of c.loop-row.held) G after) inv.5
    (subst (λ (k : ℕ). JoinsAfter M c.loop-row.held.count (record { 0 = k }) (rec_of c.loop-row.held) G after)
    (omega (arith, number, inv.4)) c.in_ok-join_row.ensures.joins)
    in
    let joined = behind inv.6.0 inv.6.1 in
    let goes = c.in-Some.ensures.goes in (
      goes.keeps,
      (goes.on inv.1).1,
      whole_still M s t _ step bytes n inv.2 inv.3,
      count-still M s t _ step bytes n inv.2 inv.3,
      c.in-Some.ensures.steps.2 ∙ ap (λ k. k + 1) inv.4 ∙ sym step.row,
      c.join_row.ensures.count ∙ inv.5,
      (
        G ∷ inv.6.0,
        joined.1,
        λ r given rest.
            inv.6.2 r given
            (row-joined M n s.row inv.6.0 bytes s.at left _ f entry.next row.reads row.on joined.0 r given
            (subst (λ (k : ℕ). RowsJoin M n k (G ∷ inv.6.0) (drop entry.next bytes) r given) step.row
            (subst (λ (i : ℕ). RowsJoin M n t.row (G ∷ inv.6.0) (drop i bytes) r given) (next-place M s t _ step bytes n inv.2 inv.3 entry c.in_ok-entry.was) rest))),
      ),
    )

pub returns : goal.returns
returns g c =
    let M = g.F.Field.model in
    let n = c.count-n.result in
    let inv = c.loop-row.invariant in
    let bytes = c.args.log.now in
    let s = enumerate_source c.loop-row.row-iterator in
    let before = inv.6.0 in
    let done : length bytes ≤ s.at = rw (← inv.2) c.in-None.ensures.steps.0 in
    let all = inv.6.2 None before (rows_done M n s.row before bytes s.at done) in
    record {
      count = inv.5 ∙ c.count-n.ensures;
      joins = subst (λ (m : ℕ). RowsRead M m bytes (rec_of c.loop-row.held)) c.count-n.ensures (before, all, inv.6.1);
      refused = tt;
    }
