-- The line is accepted as a request exactly where it spells that request. Assumes nothing.
use Rattle.std.proofs.Common.{◌≡◌, ℕ, ◌≤◌, min, List, Result, sym, ◌∙◌, arith}
use Rattle.field.specs.Model.{FieldModel, FieldLaws}
use Rattle.query.specs.declared.faults.LineFault.{LineFault}
use Rattle.query.specs.declared.lines.Request.{Request}
use Rattle.query.specs.Lines.{limits, reading}
use Rattle.query.specs.Laws.{Exact}
use Rattle.query.proofs.Soundness.{sound}
use Rattle.query.proofs.Completeness.{complete}

pub few : (n : ℕ) → min n 64 ≤ 64
few n = omega arith

pub exact :
    (M : FieldModel) → FieldLaws M → (n : ℕ) (line : List ℕ) (r : Result Request LineFault)
    → r ≡ reading (limits M n) line → Exact (limits M n) line r
exact M laws n line r e =
    record {
      sound = λ q h. sound (limits M n) (few n) line q (sym e ∙ h);
      complete = λ q a. e ∙ complete (limits M n) (few n) laws.size_bound line q a;
    }
