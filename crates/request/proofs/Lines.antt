-- A line, by what it was read as: how the calls that it makes are those of the line. Assumes nothing.
use Rattle.std.proofs.Common.{◌≡◌, ℕ, List, [], ◌∷◌, length, take, Ok, Err, Result, sym, ap, ◌∙◌, refl, subst}
use Rattle.refusal.specs.declared.Member.{Member}
use Rattle.refusal.specs.declared.Refusal.{Refusal}
use Rattle.field.specs.declared.Field as field
use Rattle.server.specs.declared.Server as server
use Rattle.field.specs.Model.{FieldModel}
use Rattle.field.specs.declared.Element.{Element}
use Rattle.server.specs.Tables.{codes}
use Rattle.law.specs.States as law
use Rattle.law.specs.States.{witnesses, witnessed}
use Rattle.checks.specs.declared.row.CheckedRow.{CheckedRow}
use Rattle.law.specs.Law.{ends, goes_on}
use Rattle.session.specs.States.{Holds, members_of}
use Rattle.session.specs.declared.session.Session.{Session}
use Rattle.query.specs.declared.items.Weights.{Weights}
use Rattle.query.specs.declared.faults.LineFault.{LineFault}
use Rattle.query.specs.declared.lines.Request.{Request}
use Rattle.query.specs.declared.lines.Request.TheVariants.{Ask, Try, Witness, Remark}
use Rattle.query.specs.Lines.{limits, reading}
use Rattle.answer_text.specs.AnswerLines.{figure, granted, table, refused}
use Rattle.request.specs.Requests.{row, Asked, Tried, Served, ask, try, witness_refused, witness_filled, remark, faulty, served}
use Rattle.request.specs.Carried.{AsksRow, TriesRow, MakesWitness, CarriedOut}
use Rattle.request.specs.declared.faults.RequestFault.TheVariants.{Line, Call}
use Rattle.request.specs.declared.outcome.Outcome.TheVariants.{Skipped, Answered, Granted, Filled}

pub read_as :
    (M : FieldModel) (line : List ℕ) {m n : ℕ} {q q' : Request} → m ≡ n → Ok q ≡ reading (limits M m) line → q ≡ q'
    → reading (limits M n) line ≡ Ok q'
read_as M line size is same = ap (λ k. reading (limits M k) line) (sym size) ∙ sym is ∙ ap Ok same

module _ {S V : Type 0} {GS : server.Ghosts S V} {GV : field.Ghosts V} (x x' : Session S V GS GV) (bytes : List ℕ) where
  -- the text is read over as many members as the state has
  read_in : {q : Result Request LineFault} {σ : _} → Holds σ x → reading (limits GV.model (members_of x)) bytes ≡ q → reading (limits GV.model (length σ.table)) bytes ≡ q
  read_in H is = ap (λ T. reading (limits GV.model (length T)) bytes) (ap (λ s. s.table) H.is) ∙ is

  pub remark-line : reading (limits GV.model (members_of x)) bytes ≡ Ok Remark → CarriedOut x bytes (Ok Skipped) x
  remark-line is σ H = ([], σ, ends, (remark (read_in H is), refl), H)

  pub faulty-line : (f : LineFault) → reading (limits GV.model (members_of x)) bytes ≡ Err f → CarriedOut x bytes (Err (Line f)) x
  faulty-line f is σ H = ([], σ, ends, (faulty f (read_in H is), refl), H)

  -- a row of the line, over as many members as the state has
  row_in : (P : List Element → Type 0) (w : Weights) {σ : _} → Holds σ x → P (row (members_of x) w) → P (row (length σ.table) w)
  row_in P w H known = subst (λ (T : List ℕ). P (row (length T) w)) (sym (ap (λ s. s.table) H.is)) known

  pub asked-line :
      (w : Weights) (r : CheckedRow V GV) (v : Element) → reading (limits GV.model (members_of x)) bytes ≡ Ok (Ask w)
      → AsksRow x (row (members_of x) w) (Ok (r, v)) x' → CarriedOut x bytes (Ok (Answered r v)) x'
  asked-line w r v is leads σ H =
      let (es, τ, run, (asked, rows), last) = leads σ H in
      (es, τ, run, (served (Ask w) (figure v.0) es (read_in H is) (ask w (figure v.0) es (row_in (λ ws. Asked ws (figure v.0) es) w H asked)), rows), last)

  pub ask_refused-line :
      (w : Weights) (e : Refusal) → reading (limits GV.model (members_of x)) bytes ≡ Ok (Ask w)
      → AsksRow x (row (members_of x) w) (Err e) x' → CarriedOut x bytes (Err (Call e)) x'
  ask_refused-line w e is leads σ H =
      let (es, τ, run, (asked, rows), last) = leads σ H in
      (es, τ, run, (served (Ask w) (refused e) es (read_in H is) (ask w (refused e) es (row_in (λ ws. Asked ws (refused e) es) w H asked)), rows), last)

  pub tried-line :
      {T : Type 0} (w : Weights) (u : T) → reading (limits GV.model (members_of x)) bytes ≡ Ok (Try w)
      → TriesRow x (row (members_of x) w) (Ok u) x' → CarriedOut x bytes (Ok Granted) x'
  tried-line w u is leads σ H =
      let (es, τ, run, (tried, rows), last) = leads σ H in
      (es, τ, run, (served (Try w) granted es (read_in H is) (try w granted es (row_in (λ ws. Tried ws granted es) w H tried)), rows), last)

  pub try_refused-line :
      (T : Type 0) (w : Weights) (e : Refusal) → reading (limits GV.model (members_of x)) bytes ≡ Ok (Try w)
      → TriesRow {T = T} x (row (members_of x) w) (Err e) x' → CarriedOut x bytes (Err (Call e)) x'
  try_refused-line T w e is leads σ H =
      let (es, τ, run, (tried, rows), last) = leads σ H in
      (es, τ, run, (served (Try w) (refused e) es (read_in H is) (try w (refused e) es (row_in (λ ws. Tried ws (refused e) es) w H tried)), rows), last)

  pub witness-line :
      (i : Member) (a : Element) (t : List Element) → reading (limits GV.model (members_of x)) bytes ≡ Ok (Witness i a)
      → MakesWitness x i.0 a.0 (Ok t) → CarriedOut x bytes (Ok (Filled t)) x
  witness-line i a t is step σ H =
      let (due, next) = step σ H in
      let w = codes (take (members_of x) t) in
      let made : Served (length σ.table) (Witness i a) (table w) (witnessed i.0 a.0 (members_of x) w ∷ []) =
      subst (λ (T : List ℕ). Served (length T) (Witness i a) (table w) (witnessed i.0 a.0 (members_of x) w ∷ [])) (sym (ap (λ s. s.table) H.is))
      (witness_filled i a w)
      in
      (witnessed i.0 a.0 (members_of x) w ∷ [], _, goes_on due ends, (served (Witness i a) (table w) _ (read_in H is) made, refl), next)

  pub witness_refused-line :
      (i : Member) (a : Element) (e : Refusal) → reading (limits GV.model (members_of x)) bytes ≡ Ok (Witness i a)
      → MakesWitness x i.0 a.0 (Err e) → CarriedOut x bytes (Err (Call e)) x
  witness_refused-line i a e is step σ H =
      let (due, next) = step σ H in
      let c = witnesses i.0 a.0 (members_of x) in
      let made : Served (length σ.table) (Witness i a) (refused e) (law.refused c e ∷ []) =
      subst (λ (T : List ℕ). Served (length T) (Witness i a) (refused e) (law.refused c e ∷ [])) (sym (ap (λ s. s.table) H.is)) (witness_refused i a e)
      in
      (law.refused c e ∷ [], _, goes_on due ends, (served (Witness i a) (refused e) _ (read_in H is) made, refl), next)
