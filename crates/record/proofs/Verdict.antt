-- What the record answers about a row, from what is left over of it. Assumes nothing.
use Rattle.std.proofs.Common.{◌≡◌, ℕ, List, sym, ap, ◌∙◌}
use Rattle.field.specs.Model.{FieldModel, FieldLaws}
use Rattle.field.specs.Sums.{Vector, Codes}
use Rattle.field.specs.declared.Element.{Element}
use Rattle.field.proofs.Zero.{zero-code}
use Rattle.refusal.specs.declared.Member.{Member}
use Rattle.server.specs.Checks.{Lowest}
use Rattle.echelon.specs.Rows.{Fixes}
use Rattle.echelon.specs.Reduced.{Pivoted, Reduced, NoneAlone, record_rows, PinnedWith}
use Rattle.echelon.proofs.Judging.{nothing_fixes, not_fixed, fixed-figure}
use Rattle.echelon.proofs.Own.{pins_none}
use Rattle.record.specs.Judged.{Judged}
use Rattle.record.specs.Judged as judged
use Rattle.record.specs.Standings as standings
use Rattle.record.specs.Standings.{unfigured, MayJoin, Stands}
use Rattle.record.specs.declared.judge.Judgement.TheVariants as Judgement
use Rattle.record.specs.declared.judge.Standing.TheVariants as Standing
use Rattle.record.specs.declared.rows.FreshRow.{FreshRow}

-- a row that is fixed pins nobody
pub fixed-pins_none :
    (M : FieldModel) (L : FieldLaws M) (n : ℕ) (rec : List Pivoted) → Reduced M n rec → NoneAlone n rec → (r : Vector)
    → Fixes M n (record_rows rec) r → (i : ℕ) → PinnedWith M n rec r i → ⊥
fixed-pins_none M L n rec R none r fixes i (inside, pins) =
    pins_none M L n rec R none i inside (λ t u ct cu agree. pins t u ct cu (fixes t u ct cu agree, agree))

module _ (M : FieldModel) (L : FieldLaws M) (n : ℕ) (rec : List Pivoted) (R : Reduced M n rec) (r : Vector) (cr : Codes M n r) where
  pub stands-fixed : (left : Element) → Stands M n rec r (Standing.Fixed left) → Fixes M n (record_rows rec) r
  stands-fixed left (standings.fixed none v same) = nothing_fixes M L n rec R (unfigured r) (cr, zero-code M L) none

  pub stands-pinning : (i : Member) → Stands M n rec r (Standing.Pinning i) → Lowest (PinnedWith M n rec r) i.0
  stands-pinning i (standings.pinning p left j low) = low

  pub stands-fresh : (x : FreshRow) → Stands M n rec r (Standing.Fresh x) → MayJoin M n rec r x
  stands-fresh x (standings.fresh y may) = may

  pub fresh-not_fixed : (x : FreshRow) → MayJoin M n rec r x → Fixes M n (record_rows rec) r → ⊥
  fresh-not_fixed x may =
      not_fixed M L n rec R (unfigured r) (cr, zero-code M L) x.row.pivot.0 may.left.below may.left.named may.left.lowest

  pub judged-fixed : (left f : Element) → Stands M n rec r (Standing.Fixed left) → f.0 ≡ M.opposite left.0 → Judged M n rec r (Judgement.Fixed f)
  judged-fixed left f (standings.fixed none v same) is =
      judged.fixed (nothing_fixes M L n rec R (unfigured r) (cr, zero-code M L) none) f.0
      (λ t ct fits. fixed-figure M L n rec R r cr none t ct fits ∙ sym (is ∙ ap M.opposite same))

  pub judged-pinning : (i : Member) → Stands M n rec r (Standing.Pinning i) → Judged M n rec r (Judgement.Pinning i)
  judged-pinning i (standings.pinning p left j low) =
      judged.pins (not_fixed M L n rec R (unfigured r) (cr, zero-code M L) p left.below left.named left.lowest) i.0 low

  pub judged-free : (x : FreshRow) → Stands M n rec r (Standing.Fresh x) → Judged M n rec r Judgement.Free
  judged-free x (standings.fresh y may) = judged.free (fresh-not_fixed x may) may.none_pinned
