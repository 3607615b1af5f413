-- Answers for `weigh`: weights that are stored though each is 1, or not, and the row that they make.
use Rattle.std.proofs.Common.{◌≡◌, ℕ, ◌≤◌, true, false, length, take, None, Result, IfOk, sym, ap, ◌∙◌, subst, arith}
use Rattle.std.proofs.lemmas.Bool.{both_ways}
use Rattle.refusal.specs.declared.Refusal.{Refusal}
use Rattle.field.specs.Sums.{weights_of}
use Rattle.server.specs.Checks.{Count}
use Rattle.checks.specs.Checks.{RowCheck}
use Rattle.checks.specs.CheckedRows.{row_of}
use Rattle.checks.specs.declared.row.CheckedRow.{CheckedRow}
use Rattle.checks.proofs.Made.{made_ok}
use Rattle.answer_log.specs.Rows.{plain}
use Rattle.answer_log.specs.Entries.{weighted, row_weight, Weighed, needless_weights}
use Rattle.answer_log.proofs.Passing.{cut_same_weight, cut_passes}
use Rattle.answer_log.proofs.Readers.{is_weighted, not_weighted, plain_read}
use Rattle.answer_log.proofs.reading.RowBytes.weigh.Goals as goal
use Rattle.answer_log.proofs.reading.RowBytes.weigh.Goals.{else-mark-eq1-via-then-mark-eq1+else-is_plain, else-mark-eq1-via-else-mark-eq1, After-new}

pub returns-then-is_plain-clause-refused : goal.returns-then-is_plain-clause-refused
returns-then-is_plain-clause-refused g c =
    let bs = c.args.self.now.bytes.now in
    let n = c.args.self.now.count in
    let ws = c.in_ok-weights.weights in
    let fine = c.in_ok-weights.ensures in
    let tested : c.is_plain.result ≡ plain (weights_of ws) (length ws) = search (c.is_plain.ensures) in
    needless_weights c.requires fine.no_fault (is_weighted bs _ c.mark.ensures c.if-mark-eq1.true)
    (sym (plain_read g.F.Field.model n bs (weights_of ws) (length ws) (omega (arith, c.requires.named.mapped.count, fine.long)) fine.weights fine.none_past)
    ∙ sym tested ∙ c.if-is_plain.true)

-- the weights that were read are in order
weighed : (g : _) (c : After-new g) → Weighed g.F.Field.model c.args.self.now.count c.args.self.now.bytes.now
weighed g c =
    let M = g.F.Field.model in
    let bs = c.args.self.now.bytes.now in
    let n = c.args.self.now.count in
    let ws = c.in_ok-weights.weights in
    let fine = c.in_ok-weights.ensures in
    let needed : weighted bs ≡ true → plain (row_weight M n bs) n ≡ false = λ e.
    elim c.else-mark-eq1.branch [
      | else-mark-eq1-via-then-mark-eq1+else-is_plain v ↦
          let tested : v.is_plain.result ≡ plain (weights_of ws) (length ws) = search (v.is_plain.ensures) in
          sym (plain_read M n bs (weights_of ws) (length ws) (omega (arith, c.requires.named.mapped.count, fine.long)) fine.weights fine.none_past)
          ∙ sym tested ∙ v.if-is_plain.false
      | else-mark-eq1-via-else-mark-eq1 v ↦
          absurd (both_ways _ (not_weighted bs _ c.mark.ensures v.if-mark-eq1.false) e)
    ]
    in record { framed = c.requires; no_fault = fine.no_fault; needed = needed }

pub unwrap-requires : goal.unwrap-requires
unwrap-requires g c =
    let M = g.F.Field.model in
    let n = c.args.self.now.count in
    let ws = c.in_ok-weights.weights in
    let fine = c.in_ok-weights.ensures in
    let long : n ≤ length ws = omega (arith, c.requires.named.mapped.count, fine.long) in
    let passed = cut_passes M g.met.F.Field.laws n c.args.self.now.bytes.now ws (weighed g c) long fine.weights in
    made_ok M c.from-count.result _ c.new.result (subst Count (sym c.from-count.ensures) c.requires.named.mapped.count)
    (subst (λ (k : ℕ). RowCheck M k (take k ws) None) (sym c.from-count.ensures) passed) c.new.ensures.made

pub returns : goal.returns
returns g c =
    let M = g.F.Field.model in
    let bs = c.args.self.now.bytes.now in
    let n = c.args.self.now.count in
    let ws = c.in_ok-weights.weights in
    let fine = c.in_ok-weights.ensures in
    let long : n ≤ length ws = omega (arith, c.requires.named.mapped.count, fine.long) in
    let well = weighed g (goal.at.returns g c).After-new in
    let row : row_of c.unwrap.result ≡ weights_of (take c.from-count.result ws) =
    subst (λ (r : Result (CheckedRow g.row.F.Denot g.F.Field) Refusal). IfOk r (λ w. row_of w ≡ weights_of (take c.from-count.result ws)))
    c.unwrap.ensures c.new.ensures.row
    in
    let count : c.unwrap.result.count ≡ c.from-count.result =
    subst (λ (r : Result (CheckedRow g.row.F.Denot g.F.Field) Refusal). IfOk r (λ w. w.count ≡ c.from-count.result)) c.unwrap.ensures c.new.ensures.count
    in
    record {
      weighed = well;
      row = λ m h.
          ap (λ w. w m) (row ∙ ap (λ k. weights_of (take k ws)) c.from-count.ensures)
          ∙ cut_same_weight M g.met.F.Field.laws n bs ws well long fine.weights m h;
      count = count ∙ c.from-count.ensures;
      refused = tt;
    }
