-- Lists by index: fits-at, agree_at and back, pivot_or_free, and what base and direction hold at each member.
-- Assumes nothing.
use mathlib.Core.Path.{◌≡◌, refl, ap, subst, ◌∙◌}
use mathlib.Core.Logic.{◌≢◌, ◌⊎◌, inl, inr}
use mathlib.Core.Bool.{Bool, true, false}
use mathlib.Core.List.{List, [], ◌∷◌}
use Prim.Native.Nat.{ℕ, zero, suc, ◌<◌}
use native.Mathlib.Decide.{ℕ_discrete}
use native.Mathlib.Omega.{arith}
use lib.Dec.{T, eqb, eqb→eq, eqb_refl}
use lib.ListN.{length}
use Rattle.field.specs.Model.{FieldModel}
use Rattle.echelon.specs.Rows.{Vector, sum, rows_of, Agree, Fits}
use Rattle.echelon.specs.Reduced.{Pivoted, all_figured, at}
use Rattle.echelon.specs.Witness.{Free, base, direction}

-- some index below k at which Q holds, or none
pub find : (k : ℕ) (Q : ℕ → Type 0) → ((a : ℕ) → Dec (Q a)) → ((a : ℕ) × (a < k) × Q a) ⊎ ((a : ℕ) → a < k → Q a → ⊥)
find zero Q dec = inr (λ a b q. omega arith)
find (suc k) Q dec = later (find k Q dec) (dec k)
  where
    later :
        ((a : ℕ) × (a < k) × Q a) ⊎ ((a : ℕ) → a < k → Q a → ⊥) → Dec (Q k)
        → ((a : ℕ) × (a < suc k) × Q a) ⊎ ((a : ℕ) → a < suc k → Q a → ⊥)
    later (inl (a, b, q)) d = inl (a, omega arith, q)
    later (inr none) (yes q) = inl (k, omega arith, q)
    later (inr none) (no h) =
        inr (λ a b q. elim (ℕ_discrete a k) [ yes e ↦ h (subst Q e q) | no e ↦ none a (omega arith) q ])

module _ (M : FieldModel) (n : ℕ) where
  pub fits-at : (rec : List Pivoted) (t : Vector) → Fits M n (all_figured rec) t → (a : ℕ) → a < length rec → sum M n (at rec a).weights t ≡ (at rec a).figure
  fits-at [] t f a b = absurd (omega arith)
  fits-at (e ∷ rec) t f zero b = f.0
  fits-at (e ∷ rec) t f (suc a) b = fits-at rec t f.1 a (omega arith)

  pub at-fits : (rec : List Pivoted) (t : Vector) → ((a : ℕ) → a < length rec → sum M n (at rec a).weights t ≡ (at rec a).figure) → Fits M n (all_figured rec) t
  at-fits [] t f = tt
  at-fits (e ∷ rec) t f = (f 0 (omega arith), at-fits rec t (λ a b. f (suc a) (omega arith)))

  pub agree_at :
      (rec : List Pivoted) (t u : Vector) → Agree M n (rows_of (all_figured rec)) t u
      → (a : ℕ) → a < length rec → sum M n (at rec a).weights t ≡ sum M n (at rec a).weights u
  agree_at [] t u f a b = absurd (omega arith)
  agree_at (e ∷ rec) t u f zero b = f.0
  agree_at (e ∷ rec) t u f (suc a) b = agree_at rec t u f.1 a (omega arith)

  pub at_agree :
      (rec : List Pivoted) (t u : Vector) → ((a : ℕ) → a < length rec → sum M n (at rec a).weights t ≡ sum M n (at rec a).weights u)
      → Agree M n (rows_of (all_figured rec)) t u
  at_agree [] t u f = tt
  at_agree (e ∷ rec) t u f = (f 0 (omega arith), at_agree rec t u (λ a b. f (suc a) (omega arith)))

pub pivot_or_free : (rec : List Pivoted) (m : ℕ) → ((a : ℕ) × (a < length rec) × ((at rec a).pivot ≡ m)) ⊎ Free rec m
pivot_or_free rec m = find (length rec) (λ a. (at rec a).pivot ≡ m) (λ a. ℕ_discrete (at rec a).pivot m)

-- no member is the pivot of two rows
abbrev pub Distinct : List Pivoted → Type 0
Distinct rec = (a b : ℕ) → a < b → b < length rec → (at rec a).pivot ≢ (at rec b).pivot

-- f of the row with pivot m, and d where m is free
abbrev look : (Pivoted → ℕ) → List Pivoted → ℕ → ℕ → ℕ
look f [] d m = d
look f (e ∷ rec) d m = elim (eqb e.pivot m) [ true ↦ f e | false ↦ look f rec d m ]

pub by_test : {A : Type 0} (b : Bool) (x y z : A) → (T b → x ≡ z) → ((T b → ⊥) → y ≡ z) → (elim b [ true ↦ x | false ↦ y ]) ≡ z
by_test true x y z p q = p tt
by_test false x y z p q = q (λ t. t)

look_free : (f : Pivoted → ℕ) (rec : List Pivoted) (d m : ℕ) → Free rec m → look f rec d m ≡ d
look_free f [] d m free = refl
look_free f (e ∷ rec) d m free =
    by_test (eqb e.pivot m) (f e) (look f rec d m) d (λ h. absurd (free 0 (omega arith) (eqb→eq e.pivot m h)))
    (λ h. look_free f rec d m (λ a b. free (suc a) (omega arith)))

look_pivot : (f : Pivoted → ℕ) (rec : List Pivoted) (d : ℕ) → Distinct rec → (a : ℕ) → a < length rec → look f rec d (at rec a).pivot ≡ f (at rec a)
look_pivot f [] d apart a b = absurd (omega arith)
look_pivot f (e ∷ rec) d apart zero b =
    by_test (eqb e.pivot e.pivot) (f e) (look f rec d e.pivot) (f e) (λ h. refl) (λ h. absurd (h (eqb_refl e.pivot)))
look_pivot f (e ∷ rec) d apart (suc a) b =
    let p = (at rec a).pivot in
    by_test (eqb e.pivot p) (f e) (look f rec d p) (f (at rec a))
    (λ h. absurd (apart 0 (suc a) (omega arith) b (eqb→eq e.pivot p h)))
    (λ h. look_pivot f rec d (λ x y l k. apart (suc x) (suc y) (omega arith) (omega arith)) a (omega arith))

base_look : (rec : List Pivoted) (m : ℕ) → base rec m ≡ look (λ e. e.figure) rec 0 m
base_look [] m = refl
base_look (e ∷ rec) m = ap {B = ℕ} (λ x. elim (eqb e.pivot m) [ true ↦ e.figure | false ↦ x ]) (base_look rec m)

abbrev one_at : ℕ → ℕ → ℕ
one_at j m = elim (eqb m j) [ true ↦ 1 | false ↦ 0 ]

direction_look : (M : FieldModel) (rec : List Pivoted) (j m : ℕ) → direction M rec j m ≡ look (λ e. M.opposite (e.weights j)) rec (one_at j m) m
direction_look M [] j m = refl
direction_look M (e ∷ rec) j m =
    ap {B = ℕ} (λ x. elim (eqb e.pivot m) [ true ↦ M.opposite (e.weights j) | false ↦ x ]) (direction_look M rec j m)

pub base-free : (rec : List Pivoted) (m : ℕ) → Free rec m → base rec m ≡ 0
base-free rec m free = base_look rec m ∙ look_free (λ e. e.figure) rec 0 m free

pub base-pivot : (rec : List Pivoted) → Distinct rec → (a : ℕ) → a < length rec → base rec (at rec a).pivot ≡ (at rec a).figure
base-pivot rec apart a b = base_look rec (at rec a).pivot ∙ look_pivot (λ e. e.figure) rec 0 apart a b

pub direction_self : (M : FieldModel) (rec : List Pivoted) (j : ℕ) → Free rec j → direction M rec j j ≡ 1
direction_self M rec j free =
    direction_look M rec j j ∙ look_free (λ e. M.opposite (e.weights j)) rec (one_at j j) j free
    ∙ by_test (eqb j j) 1 0 1 (λ h. refl) (λ h. absurd (h (eqb_refl j)))

pub direction_other : (M : FieldModel) (rec : List Pivoted) (j m : ℕ) → Free rec m → m ≢ j → direction M rec j m ≡ 0
direction_other M rec j m free apart =
    direction_look M rec j m ∙ look_free (λ e. M.opposite (e.weights j)) rec (one_at j m) m free
    ∙ by_test (eqb m j) 1 0 0 (λ h. absurd (apart (eqb→eq m j h))) (λ h. refl)

pub direction-pivot : (M : FieldModel) (rec : List Pivoted) → Distinct rec → (j a : ℕ) → a < length rec → direction M rec j (at rec a).pivot ≡ M.opposite ((at rec a).weights j)
direction-pivot M rec apart j a b =
    let p = (at rec a).pivot in
    direction_look M rec j p ∙ look_pivot (λ e. M.opposite (e.weights j)) rec (one_at j p) apart a b
