-- Answers for `read`: the figure, and the row.
use Rattle.std.proofs.Common.{◌≡◌, ◌+◌, ◌≤◌, length, ap, ◌∙◌, ap₂, arith}
use Rattle.field.specs.Bytes.{code_at, width}
use Rattle.answer_log.specs.Entries.{figure_place, row_length_lem, row_figure, no_figure, accepted}
use Rattle.answer_log.proofs.reading.RowBytes.read.Goals as goal

pub returns-then-figure-size-clause-refused : goal.returns-then-figure-size-clause-refused
unfolding row_figure
returns-then-figure-size-clause-refused g c =
    let M = g.F.Field.model in
    let bs = c.args.self.now.bytes.now in
    let read : c.decode-figure.result.0 ≡ code_at M bs c.in_ok-place.place = search (c.decode-figure.ensures) in
    let figure = read ∙ ap (code_at M bs) c.in_ok-place.ensures.place in
    no_figure c.in_ok-row.ensures.weighed (omega (arith, c.size.ensures, figure))

pub overflow_add-next : goal.overflow_add-next
unfolding row_length_lem
overflow_add-next g c =
    let M = g.F.Field.model in
    let bs = c.args.self.now.bytes.now in
    let rest : figure_place M c.args.self.now.count bs + width M ≤ length bs = c.in_ok-place.ensures.framed.rest in
    omega (arith, c.in_ok-place.ensures.place, c.element_width.ensures)

pub returns : goal.returns
unfolding row_figure row_length_lem
returns g c =
    let M = g.F.Field.model in
    let bs = c.args.self.now.bytes.now in
    let read : c.decode-figure.result.0 ≡ code_at M bs c.in_ok-place.place = search (c.decode-figure.ensures) in
    let figure = read ∙ ap (code_at M bs) c.in_ok-place.ensures.place in
    let made = c.in_ok-row.ensures in
    record {
      row = record {
        check = accepted made.weighed (omega (arith, c.size.ensures, figure));
        weights = made.row;
        none_past = λ m h. c.in_ok-row.row.none_past m (omega (arith, made.count));
        figure = figure;
        whole = ap₂ (λ i j. i + j) c.in_ok-place.ensures.place c.element_width.ensures;
      };
      count = made.count;
      refused = tt;
    }
