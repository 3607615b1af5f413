-- A replay on its way: what is known before each line, after one line more, and where it ends. Assumes nothing.
use Rattle.std.proofs.Common.{◌≡◌, ℕ, suc, ◌+◌, ◌-◌, ◌≤◌, List, [], ◌∷◌, ◌++◌, length, take, drop, None, Option, sym, refl, ap, ◌∙◌, subst, arith, length-drop}
use borrow.Rule.Slice.PartMut.{put_mid}
use Rattle.std.proofs.lemmas.List.{append_assoc, drop-drop, length-append, length-take-le}
use Rattle.refusal.specs.declared.Refusal.{Refusal}
use Rattle.field.specs.declared.Field as field
use Rattle.server.specs.declared.Server as server
use Rattle.field.specs.Model.{FieldModel, FieldLaws}
use Rattle.buffer.specs.Buffers.{onto, Front}
use Rattle.buffer.proofs.Fronts.{same_length, part_length, front-put, front_as, front_all}
use Rattle.law.specs.States.{State, Event, answered_by}
use Rattle.law.specs.Law.{ends}
use Rattle.law.proofs.Promised.{runs_are_assured_lem}
use Rattle.session.specs.States.{members_of, Holds}
use Rattle.session.specs.declared.session.Session.{Session}
use Rattle.answer_log.specs.Rows.{header_bytes}
use Rattle.log_record.specs.Joins.{rows_bytes}
use Rattle.replay_text.specs.declared.outcome.Replay.{Replay}
use Rattle.replay_text.specs.declared.outcome.Stop.{Stop}
use Rattle.replay_text.specs.declared.lines.Used.{Used}
use Rattle.replay_text.specs.Replays.{NoNewline, printed, logged, Lines, none_yet, one_more, Stops, stopped, Replayed, too_long, no_header, replayed}
use Rattle.replay_text.specs.Handling.{LineDone, Replays}
use Rattle.replay_text.proofs.Logged.{lines_run, logged_more}

-- the text up to a line, and that line
line_more : (before line rest : List ℕ) → before ++ (line ++ (10 ∷ rest)) ≡ (before ++ (line ++ (10 ∷ []))) ++ rest
line_more before line rest =
    ap (λ bs. before ++ bs) (sym (append_assoc line (10 ∷ []) rest)) ∙ sym (append_assoc before (line ++ (10 ∷ [])) rest)

-- the part of a buffer that is left
abbrev pub left : List ℕ → ℕ → List ℕ
left xs a = take (length xs - a) (drop a xs)

-- a part that comes back as long as it went leaves its buffer as long
pub part_back :
    (xs : List ℕ) (a : ℕ) (ys : List ℕ) (k : ℕ) → a ≤ length xs → length ys ≡ length (left xs a) → k ≤ length (left xs a)
    → a + k ≤ length (put_mid a (length xs - a) xs ys)
part_back xs a ys k within same fits =
    let rest = drop (length xs - a) (drop a xs) in
    let all = length-append (take a xs) (ys ++ rest) in
    let part = length-append ys rest in
    let front = length-take-le a xs within in omega (arith, all, part, front, same, fits)

-- what is known before a line, where the session began in the state σ
pub record Progress {S V : Type 0} {GS : server.Ghosts S V} {GV : field.Ghosts V} (x : Session S V GS GV) (text answers₀ log₀ answers log : List ℕ) (done : Replay) (rest : List ℕ) (σ : State) : Type 0 where
  pub before : List ℕ
  pub cut : text ≡ before ++ rest
  pub events : List Event
  pub state : State
  pub out : List ℕ
  pub lines : Lines GV.model σ (length answers₀) (length log₀) done.lines before events state out
  pub printed_is : Front answers₀ answers out done.answers
  pub logged_is : Front log₀ log (logged GV.model σ events) done.log
  pub holds : Holds state x

module _ {S V : Type 0} {GS : server.Ghosts S V} {GV : field.Ghosts V} (text answers₀ log₀ : List ℕ) (σ : State) where
  -- before the first line, where the log has its header, and the place in it is after that
  pub begun :
      (x : Session S V GS GV) (log : List ℕ) (place header : ℕ) → place ≡ header → Holds σ x → Front log₀ log (header_bytes GV.model (members_of x)) header
      → Progress x text answers₀ log₀ answers₀ log (record { lines = 0; answers = 0; log = place; stop = None }) text σ
  begun x log place header is H front = record {
    before = [];
    cut = refl;
    events = [];
    state = σ;
    out = [];
    lines = none_yet;
    printed_is = record { buffer = refl; size = refl; within = omega arith };
    logged_is = subst (λ (T : List ℕ). Front log₀ log (header_bytes GV.model (length T)) place) (sym (ap (λ s. s.table) H.is)) (subst (Front log₀ log (header_bytes GV.model (members_of x))) (sym is) front);
    holds = H;
  }

  pub one_line :
      (x x' : Session S V GS GV) (answers log : List ℕ) (done : Replay) (rest line rest' : List ℕ)
      → (p : Progress x text answers₀ log₀ answers log done rest σ)
      → NoNewline line → rest ≡ line ++ (10 ∷ rest')
      → 392 ≤ length answers - done.answers → 139 ≤ length log - done.log
      → (used : Used) (answers' log' : List ℕ) → used.answers ≤ length (left answers done.answers) → used.log ≤ length (left log done.log)
      → LineDone x (done.lines + 1) line (left answers done.answers) (left log done.log) x' answers' log' used
      → Progress x' text answers₀ log₀ (put_mid done.answers (length answers - done.answers) answers answers') (put_mid done.log (length log - done.log) log log')
      (record { lines = done.lines + 1; answers = done.answers + used.answers; log = done.log + used.log; stop = done.stop }) rest' σ
  one_line x x' answers log done rest line rest' p plain is room log-room used answers' log' fits log-fits handles =
      let (new, τ, run, (a, handled, put-answers, put-log), last) = handles p.state p.holds in
      let more = printed (done.lines + 1) a in
      let rows = rows_bytes GV.model (length p.state.table) (answered_by p.state new) in
      let same-answers = same_length answers₀ answers p.out done.answers p.printed_is in
      let same_log = same_length log₀ log _ done.log p.logged_is in
      let size = p.printed_is.size in
      let log-size = p.logged_is.size in
      let part = part_length answers₀ answers p.out done.answers p.printed_is in
      let log-part = part_length log₀ log _ done.log p.logged_is in
      let count = put-answers.count in
      let log-count = put-log.count in
      record {
        before = p.before ++ (line ++ (10 ∷ []));
        cut = p.cut ∙ ap (λ bs. p.before ++ bs) is ∙ line_more p.before line rest';
        events = p.events ++ new;
        state = τ;
        out = p.out ++ more;
        lines =
            one_more done.lines p.before p.events p.state p.out p.lines (omega (arith, room, same-answers, size)) (omega (arith, log-room, same_log, log-size))
            line plain a new τ handled run;
        printed_is = front-put answers₀ answers p.out done.answers p.printed_is more answers' used.answers put-answers (omega (arith, fits, part, count, room, same-answers));
        logged_is =
            front_as log₀ _ _ _
            (front-put log₀ log _ done.log p.logged_is rows log' used.log put-log (omega (arith, log-fits, log-part, log-count, log-room, same_log)))
            (logged GV.model σ (p.events ++ new)) (logged_more (lines_run p.lines) new);
        holds = last;
      }

-- the replay ends where no further line is handled
pub ended :
    {S V : Type 0} {GS : server.Ghosts S V} {GV : field.Ghosts V} (L : FieldLaws GV.model) (x₀ x : Session S V GS GV) (text answers₀ log₀ answers log : List ℕ) (done : Replay) (rest : List ℕ)
    → length text ≤ 65536 → 2 ≤ length log₀ → ((σ : State) → Holds σ x₀ → Progress x text answers₀ log₀ answers log done rest σ)
    → (e : Option Refusal) → Stops rest (length answers - done.answers) (length log - done.log) e
    → (stop : Option Stop) → stop ≡ stopped (done.lines + 1) e
    → Replays x₀ text answers₀ log₀ (record { lines = done.lines; answers = done.answers; log = done.log; stop = stop }) answers log x
ended {GV = GV} L x₀ x text answers₀ log₀ answers log done rest short wide known e stops stop is σ H =
    let p = known σ H in
    let all = front_all answers₀ answers p.out done.answers p.printed_is p.out refl in
    let all_log = front_all log₀ log _ done.log p.logged_is (logged GV.model σ p.events) refl in
    let same_answers = same_length answers₀ answers p.out done.answers p.printed_is in
    let same_log = same_length log₀ log _ done.log p.logged_is in
    let stops' = rw (same_answers, same_log, all.count, all_log.count) at stops in (
      p.events,
      p.state,
      rw (all.count, all_log.count, all.buffer, all_log.buffer, is) (replayed short wide done.lines p.before rest p.events p.state p.out p.cut p.lines e stops'),
      runs_are_assured_lem GV.model L σ p.state p.events H.sound (lines_run p.lines),
      p.holds,
    )

-- a log that had its header before is left as one that gets it now
module _ (M : FieldModel) (n : ℕ) (log log₁ : List ℕ) (is : log₁ ≡ onto (header_bytes M n) log) (wide : 2 ≤ length log) where
  header-length : length log₁ ≡ length log
  header-length =
      let rest = length-drop 2 log in
      let whole : suc (suc (length (drop 2 log))) ≡ length log = omega (arith, rest) in ap length is ∙ whole

  header-onto : (bs : List ℕ) → onto (header_bytes M n ++ bs) log₁ ≡ onto (header_bytes M n ++ bs) log
  header-onto bs =
      let all = header_bytes M n ++ bs in
      ap (λ l. all ++ l) (ap (drop (length all)) is ∙ drop-drop (length bs) 2 log
      ∙ ap (λ k. drop k log) (let z : 2 + length bs ≡ suc (suc (length bs)) = omega arith in z))

with_header :
    (M : FieldModel) (σ : State) (text answers log log₁ : List ℕ) → log₁ ≡ onto (header_bytes M (length σ.table)) log → 2 ≤ length log
    → length text ≤ 65536 → (r : Replay) (es : List Event) (τ : State) (answers' log' : List ℕ)
    → Replayed M σ text answers log₁ r es τ answers' log' → Replayed M σ text answers log r es τ answers' log'
with_header M σ text answers log log₁ is wide few r es τ answers' log' (too_long long) = absurd (omega arith)
with_header M σ text answers log log₁ is wide few r es τ answers' log' (no_header short none) =
    absurd (let z = header-length M (length σ.table) log log₁ is wide in omega (arith, z, none, wide))
with_header M σ text answers log log₁ is wide few r es τ answers' log' (replayed short some k done rest ds ρ out cut lines e stops) =
    let size = header-length M (length σ.table) log log₁ is wide in
    let lines' = subst (λ (l : ℕ). Lines M σ (length answers) l k done ds ρ out) size lines in
    let stops' = subst (λ (l : ℕ). Stops rest (length answers - length out) (l - length (logged M σ ds)) e) size stops in
    subst (λ (us : List ℕ). Replayed M σ text answers log (record { lines = k; answers = length out; log = length (logged M σ ds); stop = stopped (k + 1) e }) ds ρ (onto out answers) us)
    (sym (header-onto M (length σ.table) log log₁ is wide (rows_bytes M (length σ.table) (answered_by σ ds)))) (replayed short wide k done rest ds ρ out cut lines' e stops')

pub header_before :
    {S V : Type 0} {GS : server.Ghosts S V} {GV : field.Ghosts V} (x x' : Session S V GS GV) (text answers log log₁ : List ℕ)
    → log₁ ≡ onto (header_bytes GV.model (members_of x)) log → 2 ≤ length log → length text ≤ 65536 → (r : Replay) (answers' log' : List ℕ)
    → Replays x text answers log₁ r answers' log' x' → Replays x text answers log r answers' log' x'
header_before {GV = GV} x x' text answers log log₁ is wide few r answers' log' replays σ H =
    let (es, τ, told, assured, last) = replays σ H in
    let header : log₁ ≡ onto (header_bytes GV.model (length σ.table)) log =
    subst (λ (T : List ℕ). log₁ ≡ onto (header_bytes GV.model (length T)) log) (sym (ap (λ s. s.table) H.is)) is in
    (es, τ, with_header GV.model σ text answers log log₁ header wide few r es τ answers' log' told, assured, last)

-- nothing was handled
pub no_line :
    {S V : Type 0} {GS : server.Ghosts S V} {GV : field.Ghosts V} (L : FieldLaws GV.model) (x : Session S V GS GV) (text answers log : List ℕ) (r : Replay)
    → ((σ : State) → Replayed GV.model σ text answers log r [] σ answers log) → Replays x text answers log r answers log x
no_line {GV = GV} L x text answers log r told σ H = ([], σ, told σ, runs_are_assured_lem GV.model L σ σ [] H.sound ends, H)
