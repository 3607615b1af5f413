-- Answers for `write_map`: one byte more, and the whole map.
use Rattle.std.proofs.Common.{◌≡◌, ◌<◌, ◌++◌, length, take, drop, set, sym, ◌∙◌, ap₂, arith}
use Rattle.std.proofs.lemmas.List.{append-nil, drop_all, length-take-le, take_all}
use Rattle.field.specs.Sums.{weights_of}
use Rattle.member_map.specs.Maps.{map_length_lem}
use Rattle.answer_log.specs.Rows.{map_byte_lem, map_bytes}
use Rattle.answer_log.proofs.Bits.{map-bytes-length, map-bytes-at}
use Rattle.buffer.proofs.Fronts.{byte_put}
use Rattle.answer_log.proofs.parts.Row.write_map.Goals as goal

pub loop-k-preserved : goal.loop-k-preserved
loop-k-preserved g c =
    let ws = c.args.self.now.weights.now in
    let n = length ws in
    let k = c.loop-k.k in
    let o = take c.map_length.result c.args.out.now in
    let map = map_bytes (weights_of ws) n in
    let size : length o ≡ c.map_length.result = length-take-le c.map_length.result c.args.out.now (omega (arith, c.map_length.ensures)) in
    let inside : k < map_length_lem n = omega (arith, c.map_length.ensures) in
    let long : k < length map = omega (arith, map-bytes-length (weights_of ws) n) in
    let byte : c.map_byte.result ≡ map_byte_lem (weights_of ws) k = search (c.map_byte.ensures) in
    ap₂ (λ xs b. set xs k b) c.loop-k.invariant (byte ∙ sym (map-bytes-at (weights_of ws) n k inside))
    ∙ byte_put map o k long c.loop-k-test.true

pub returns : goal.returns
returns g c =
    let ws = c.args.self.now.weights.now in
    let n = length ws in
    let k = c.loop-k.k in
    let o = take c.map_length.result c.args.out.now in
    let map = map_bytes (weights_of ws) n in
    let size : length o ≡ c.map_length.result = length-take-le c.map_length.result c.args.out.now (omega (arith, c.map_length.ensures)) in
    let whole : c.loop-k.map ≡ map =
    c.loop-k.invariant
    ∙ ap₂ (λ xs ys. xs ++ ys) (take_all k map (omega (arith, map-bytes-length (weights_of ws) n, c.map_length.ensures))) (drop_all k o c.loop-k-test.false)
    ∙ append-nil map in
    ap₂ (λ xs i. xs ++ drop i c.args.out.now) whole c.map_length.ensures
