-- Answers for `room_after_elements`: each element takes its length from the room.
use Rattle.std.proofs.Common.{rules}
use Rattle.answer_text.proofs.Rooms.{room_after}
use Rattle.answer_text.proofs.numbers.room_after_elements.Goals as goal

pub returns : goal.returns
returns c =
    let ran = c.try_fold.ensures.ran in
    room_after _ (λ f l x r q called. search rules) _ _ c.iter.result c.try_fold.new.self _ ran.2 c.args.room ran.3 c.try_fold.result ran.0 ran.1 (search rules) ran.4 ran.5 ran.6
