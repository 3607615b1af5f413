-- Answers for `count_named`: the mark and the map.
use Rattle.std.proofs.Common.{◌≡◌, ℕ, sym, ◌∙◌, arith}
use Rattle.member_map.specs.Maps.{named_below, Stray}
use Rattle.answer_log.specs.Entries.{map_of, Mapped, unknown_mark, map_cut, stray_bit, none_named}
use Rattle.record.proofs.Told.{none_told, some_told}
use Rattle.answer_log.proofs.Readers.{stray_of, none_stray, count_is}
use Rattle.answer_log.proofs.reading.RowBytes.count_named.Goals as goal

pub returns-then-mark-gt1-clause-refused : goal.returns-then-mark-gt1-clause-refused
returns-then-mark-gt1-clause-refused g c = unknown_mark c.args.self.now.counted (omega (arith, c.mark.ensures))

pub returns-then-self-map_length-clause-refused : goal.returns-then-self-map_length-clause-refused
returns-then-self-map_length-clause-refused g c =
    map_cut c.args.self.now.counted (omega (arith, c.mark.ensures)) (omega (arith, c.map_length.ensures))

pub returns-then-is_some-clause-refused : goal.returns-then-is_some-clause-refused
returns-then-is_some-clause-refused g c =
    let bs = c.args.self.now.bytes.now in
    let mapped : Mapped c.args.self.now.count bs = record {
      count = c.args.self.now.counted;
      known = omega (arith, c.mark.ensures);
      whole = omega (arith, c.map_length.ensures);
    } in
    let found = some_told _ _ _ (sym c.is_some.ensures ∙ c.if-is_some.true) c.stray_bit.ensures in
    let stray : Stray (map_of bs) c.args.self.now.count found.0.0 = search (stray_of bs c.args.self.now.count, found.1) in
    stray_bit mapped _ stray

pub returns-then-named-eq0-clause-refused : goal.returns-then-named-eq0-clause-refused
returns-then-named-eq0-clause-refused g c =
    let bs = c.args.self.now.bytes.now in
    let mapped : Mapped c.args.self.now.count bs = record {
      count = c.args.self.now.counted;
      known = omega (arith, c.mark.ensures);
      whole = omega (arith, c.map_length.ensures);
    } in
    let none = none_told _ _ _ (sym c.is_some.ensures ∙ c.if-is_some.false) c.stray_bit.ensures in
    let no_stray : (b : ℕ) → Stray (map_of bs) c.args.self.now.count b → ⊥ = search (none_stray bs c.args.self.now.count, none) in
    let nobody : named_below (map_of bs) c.args.self.now.count ≡ 0 =
    sym (count_is bs c.args.self.now.count c.args.self.now.count _ c.named_count-named.ensures) ∙ c.if-named-eq0.true in
    search (none_named, mapped, no_stray, nobody)
