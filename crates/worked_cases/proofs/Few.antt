-- Three members, and a session's events over them. Assumes nothing.
use Rattle.std.proofs.Common.{◌≡◌, ℕ, zero, suc, ◌+◌, ◌<◌, ◌≢◌, List, [], ◌∷◌, length, None, refl, subst, arith, lit<}
use Rattle.field.specs.Model.{FieldModel}
use Rattle.field.specs.Sums.{Vector, Codes, sum, weights_of}
use Rattle.server.specs.Checks.{Lowest}
use Rattle.server.specs.Tables.{value_at}
use Rattle.echelon.specs.Rows.{Agree, Pins, given_row}
use Rattle.checks.specs.Checks.{RowCheck}
use Rattle.checks.specs.Checks as check
use Rattle.law.specs.States.{State, seen, Event, permitted, answered, after}
use Rattle.law.specs.Law.{Due, Grants, Lawful, grants, figures, goes_on}
use Rattle.worked_cases.specs.Cases.{weighing, answered_row}

pub of_two : (P : ℕ → Type 0) → P 0 → P 1 → (a : ℕ) → a < 2 → P a
of_two P p q zero h = p
of_two P p q (suc zero) h = q
of_two P p q (suc (suc a)) h = absurd (omega arith)

pub of_three : (P : ℕ → Type 0) → P 0 → P 1 → P 2 → (m : ℕ) → m < 3 → P m
of_three P p q r zero h = p
of_three P p q r (suc zero) h = q
of_three P p q r (suc (suc zero)) h = r
of_three P p q r (suc (suc (suc m))) h = absurd (omega arith)

abbrev pub table : ℕ → ℕ → ℕ → Vector
table a b c = value_at (a ∷ b ∷ c ∷ [])

abbrev pub none : Vector
none = table 0 0 0

-- a table that agrees with none but differs from it at every member: nobody is pinned
pub pins_nobody :
    (M : FieldModel) (rows : List Vector) (w : Vector) (a b c : ℕ)
    → Codes M 3 none → Codes M 3 (table a b c) → Agree M 3 (w ∷ rows) none (table a b c)
    → 0 ≢ a → 0 ≢ b → 0 ≢ c → (i : ℕ) → (i < 3) × Pins M 3 (w ∷ rows) i → ⊥
pins_nobody M rows w a b c zeros codes agree na nb nc i pinned =
    of_three (λ m. none m ≢ table a b c m) na nb nc i pinned.0 (pinned.1 none (table a b c) zeros codes agree)

-- what holds of 0 holds of it as the lowest
pub lowest-zero : (P : ℕ → Type 0) → P 0 → Lowest P 0
lowest-zero P p = record { holds = p; none_below = λ k h. absurd (omega arith) }

-- a row of three elements, not all of them 0, passes its checks
pub passes :
    (M : FieldModel) (a b c : ℕ) → a < M.size → b < M.size → c < M.size → a + b + c ≢ 0
    → RowCheck M 3 (weighing (a ∷ b ∷ c ∷ [])) None
passes M a b c ha hb hc some =
    check.accepted refl (of_three (λ m. weights_of (weighing (a ∷ b ∷ c ∷ [])) m < M.size) ha hb hc)
    (λ bare. some (let x = bare 0 (lit< tt) in let y = bare 1 (lit< tt) in let z = bare 2 (lit< tt) in omega arith))

-- a row that is granted the next permit is answered with its sum, before the events that then come
pub goes_on-answered :
    (M : FieldModel) (σ τ : State) (ws : List ℕ) (k f : ℕ) (es : List Event) → σ.issued + 1 ≡ k → Grants M (seen σ) (weighing ws)
    → sum M (length σ.table) (weights_of (weighing ws)) (value_at σ.table) ≡ f
    → Lawful M (record { table = σ.table; given = given_row (weighing ws) f ∷ σ.given; pending = None; issued = k }) es τ
    → Lawful M σ (answered_row ws k f es) τ
goes_on-answered M σ τ ws k f es next granted figure more =
    let opened : State = after σ (permitted (weighing ws) k) in
    let first : Due M σ (permitted (weighing ws) k) =
    subst (λ (j : ℕ). Due M σ (permitted (weighing ws) j)) next (grants (weighing ws) granted) in
    let second : Due M opened (answered k f) =
    subst (λ (v : ℕ). Due M opened (answered k v)) figure
    (figures k (record { permit = k; row = weights_of (weighing ws) }) (record { open_is = refl; permit_is = refl })) in
    goes_on first (goes_on second more)
