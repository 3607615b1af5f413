-- What the record's witness comes to in a session. Assumes nothing.
use Rattle.std.proofs.Common.{◌≡◌, ℕ, List, length, Some, None, Ok, Err, Result, OnOk, IfErr, ◌∙◌, subst}
use Rattle.refusal.specs.declared.Refusal.{Refusal}
use Rattle.field.specs.declared.Field as field
use Rattle.server.specs.declared.Server as server
use Rattle.field.specs.Model.{FieldModel, FieldLaws}
use Rattle.field.specs.Sums.{weights_of}
use Rattle.field.specs.declared.Element.{Element}
use Rattle.server.specs.Tables.{codes}
use Rattle.echelon.specs.Witness.{Witness}
use Rattle.checks.specs.Checks.{WitnessCheck, accepted}
use Rattle.record.specs.Records.{rec_of}
use Rattle.session.specs.States.{Follows, witness_event}
use Rattle.session.specs.declared.session.Session.{Session}
use Rattle.session.proofs.Followed.{witness_refused, witness_filled}

pub buffer-length : (M : FieldModel) (n i a l : ℕ) → WitnessCheck M n i a l None → l ≡ n
buffer-length M n i a l (accepted h k e) = e

-- the record filled a buffer for the member i and the element a, or refused to, and left it as it was
pub witnessed :
    {S V U : Type 0} {GS : server.Ghosts S V} {GV : field.Ghosts V} (L : FieldLaws GV.model) (x : Session S V GS GV) (i a : ℕ) (before after : List Element)
    (r : Result U Refusal) → length after ≡ length before → OnOk r (WitnessCheck GV.model x.audit.«record».count i a (length before) None)
    → IfErr r (λ e. WitnessCheck GV.model x.audit.«record».count i a (length before) (Some e))
    → OnOk r (Witness GV.model x.audit.«record».count (rec_of x.audit.«record») i a (weights_of after))
    → Follows x (witness_event i a (length before) r (codes after)) x
witnessed {GS = GS} {GV = GV} L x i a before after (Ok z) size passed refused made =
    let k = length (GS.table x.server) in
    let here : WitnessCheck GV.model k i a (length before) None = subst (λ (m : ℕ). WitnessCheck GV.model m i a (length before) None) x.counted passed in
    witness_filled L x i a (length before) after here (size ∙ buffer-length GV.model k i a (length before) here)
    (subst (λ (m : ℕ). Witness GV.model m (rec_of x.audit.«record») i a (weights_of after)) x.counted made)
witnessed {GS = GS} {GV = GV} L x i a before after (Err e) size passed refused made =
    witness_refused L x i a (length before) e (subst (λ (k : ℕ). WitnessCheck GV.model k i a (length before) (Some e)) x.counted refused)
