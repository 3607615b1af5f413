-- Answers for `put`: part after part.
use Rattle.std.proofs.Common.{◌≤◌, length, arith, rules}
use Rattle.buffer.proofs.Fronts.{same_length, part_length}
use Rattle.answer_log.proofs.Buffers.{room_all, put-mark, put_map, put_stored, put-figure, encoded, encoded_some}
use Rattle.answer_log.proofs.parts.Row.put.Goals as goal

pub bounds-out-0 : goal.bounds-out-0
bounds-out-0 g c =
    let room = room_all _ _ _ _ _ c.requires in
    let h : 1 ≤ length c.args.out.now = omega arith in search rules

pub slice_bounds-write_map-count : goal.slice_bounds-write_map-count
slice_bounds-write_map-count g c =
    let room = room_all _ _ _ _ _ c.requires in
    let marked = put-mark _ _ _ _ _ c.requires _ c.mark.ensures in
    omega (arith, same_length _ _ _ _ marked)

pub slice_bounds-write_map-start : goal.slice_bounds-write_map-start
slice_bounds-write_map-start g c =
    let room = room_all _ _ _ _ _ c.requires in
    let marked = put-mark _ _ _ _ _ c.requires _ c.mark.ensures in
    let same = same_length _ _ _ _ marked in search rules

pub write_map-requires : goal.write_map-requires
write_map-requires g c =
    let room = room_all _ _ _ _ _ c.requires in
    let marked = put-mark _ _ _ _ _ c.requires _ c.mark.ensures in
    omega (arith, part_length _ _ _ _ marked)

pub slice_bounds-write_stored-count : goal.slice_bounds-write_stored-count
slice_bounds-write_stored-count g c =
    let room = room_all _ _ _ _ _ c.requires in
    let marked = put-mark _ _ _ _ _ c.requires _ c.mark.ensures in
    let mapped = put_map _ _ _ _ _ c.requires _ _ _ marked c.map_length-at.ensures c.write_map.ensures in
    omega (arith, same_length _ _ _ _ mapped, c.map_length-at.ensures)

pub slice_bounds-write_stored-start : goal.slice_bounds-write_stored-start
slice_bounds-write_stored-start g c =
    let room = room_all _ _ _ _ _ c.requires in
    let marked = put-mark _ _ _ _ _ c.requires _ c.mark.ensures in
    let mapped = put_map _ _ _ _ _ c.requires _ _ _ marked c.map_length-at.ensures c.write_map.ensures in
    omega (arith, same_length _ _ _ _ mapped, c.map_length-at.ensures)

pub write_stored-stored-requires : goal.write_stored-stored-requires
write_stored-stored-requires g c =
    let room = room_all _ _ _ _ _ c.requires in
    let marked = put-mark _ _ _ _ _ c.requires _ c.mark.ensures in
    let mapped = put_map _ _ _ _ _ c.requires _ _ _ marked c.map_length-at.ensures c.write_map.ensures in
    omega (arith, part_length _ _ _ _ mapped, c.map_length-at.ensures)

pub slice_bounds-encode-count : goal.slice_bounds-encode-count
slice_bounds-encode-count g c =
    let room = room_all _ _ _ _ _ c.requires in
    let marked = put-mark _ _ _ _ _ c.requires _ c.mark.ensures in
    let mapped = put_map _ _ _ _ _ c.requires _ _ _ marked c.map_length-at.ensures c.write_map.ensures in
    let stored = put_stored _ _ _ _ _ c.requires _ _ _ _ mapped c.map_length-at.ensures c.write_stored-stored.ensures.length c.write_stored-stored.ensures.buffer in
    omega (arith, same_length _ _ _ _ stored, c.map_length-at.ensures, c.write_stored-stored.ensures.length)

pub slice_bounds-encode-start : goal.slice_bounds-encode-start
slice_bounds-encode-start g c =
    let room = room_all _ _ _ _ _ c.requires in
    let marked = put-mark _ _ _ _ _ c.requires _ c.mark.ensures in
    let mapped = put_map _ _ _ _ _ c.requires _ _ _ marked c.map_length-at.ensures c.write_map.ensures in
    let stored = put_stored _ _ _ _ _ c.requires _ _ _ _ mapped c.map_length-at.ensures c.write_stored-stored.ensures.length c.write_stored-stored.ensures.buffer in
    omega (arith, same_length _ _ _ _ stored, c.map_length-at.ensures, c.write_stored-stored.ensures.length)

pub unwrap-requires : goal.unwrap-requires
unwrap-requires g c =
    let room = room_all _ _ _ _ _ c.requires in
    let marked = put-mark _ _ _ _ _ c.requires _ c.mark.ensures in
    let mapped = put_map _ _ _ _ _ c.requires _ _ _ marked c.map_length-at.ensures c.write_map.ensures in
    let stored = put_stored _ _ _ _ _ c.requires _ _ _ _ mapped c.map_length-at.ensures c.write_stored-stored.ensures.length c.write_stored-stored.ensures.buffer in
    let part = part_length _ _ _ _ stored in
    encoded_some g.F.Field.model c.args.self.now.figure.0 _ c.encode.new.out c.encode.result c.args.self.now.below (omega (arith, c.map_length-at.ensures, c.write_stored-stored.ensures.length)) c.encode.ensures

pub returns : goal.returns
returns g c =
    let room = room_all _ _ _ _ _ c.requires in
    let marked = put-mark _ _ _ _ _ c.requires _ c.mark.ensures in
    let mapped = put_map _ _ _ _ _ c.requires _ _ _ marked c.map_length-at.ensures c.write_map.ensures in
    let stored = put_stored _ _ _ _ _ c.requires _ _ _ _ mapped c.map_length-at.ensures c.write_stored-stored.ensures.length c.write_stored-stored.ensures.buffer in
    let part = part_length _ _ _ _ stored in
    put-figure _ _ _ _ _ c.requires _ c.encode.new.out _ stored
    (encoded g.F.Field.model c.args.self.now.figure.0 _ c.encode.new.out c.encode.result c.args.self.now.below (omega (arith, c.map_length-at.ensures, c.write_stored-stored.ensures.length)) c.encode.ensures)
