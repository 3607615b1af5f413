-- Answers for `check_values`: the lowest fault, or none.
use Rattle.std.proofs.Common.{◌≡◌, true, false, sym, ◌∙◌, arith, rules, below_more}
use Rattle.member_map.specs.Maps.{named}
use Rattle.table_file.specs.Files.{map_of, file_value, accepted}
use Rattle.table_file.proofs.Verdicts.{no_fault, unnamed_no_fault, value_refused}
use Rattle.table_file.proofs.table_file.TableFile.check_values.Goals as goal
use Rattle.table_file.proofs.table_file.TableFile.check_values.Goals.{then-is_named+in_ok-check_value, else-is_named}

pub returns-in_err-check_value : goal.returns-in_err-check_value
returns-in_err-check_value g c =
    let M = g.F.Field.model in
    let bs = c.args.self.now.bytes.now in
    let bit : named (map_of bs) c.from.result ≡ true = rw c.map.ensures at (sym c.is_named.ensures ∙ c.if-is_named.true) in
    let code : c.stored_code.result.0 ≡ file_value M bs c.loop-m.m = search (c.stored_code.ensures) in
    let refused = value_refused M bs c.requires c.loop-m.m c.from.result _ c.from.ensures (omega arith) bit code
    c.loop-m.invariant _ c.in_err-check_value.ensures in
    search rules

pub loop-m-preserved : goal.loop-m-preserved
loop-m-preserved g c =
    let M = g.F.Field.model in
    let bs = c.args.self.now.bytes.now in
    let m = c.loop-m.m in
    below_more _ _ c.loop-m.invariant
    (elim c.if-is_named.branch [
      | then-is_named+in_ok-check_value w ↦
          let code : w.stored_code.result.0 ≡ file_value M bs m = search (w.stored_code.ensures) in
          no_fault M bs m w.stored_code.result.0 _ code w.in_ok-check_value.ensures.0
      | else-is_named w ↦
          let bit : named (map_of bs) m ≡ false = rw (c.map.ensures, c.from.ensures) at (sym c.is_named.ensures ∙ w.if-is_named.false) in
          unnamed_no_fault M bs m bit
    ])

pub returns : goal.returns
returns g c = accepted c.requires (λ m f. c.loop-m.invariant m (omega (arith, f.0)) f)
