-- The rows after a row has joined in memory are those of the joined record. Assumes nothing.
use Rattle.std.proofs.Common.{◌≡◌, ℕ, suc, pred, ◌<◌, ◌≤◌, List, ◌∷◌, ◌++◌, length, take, drop, sym, refl, ap, ◌∙◌, subst, ap₂, arith}
use native.Mathlib.Decide.{ℕ_discrete, dec_lt}
use Rattle.std.specs.List.{insert}
use Rattle.std.proofs.lemmas.List.{map-append, map-id, take-map, drop-map}
use Rattle.field.specs.Model.{FieldModel}
use Rattle.field.specs.Sums.{minus}
use Rattle.echelon.specs.Reduced.{Pivoted, at, Same, Reduced}
use Rattle.echelon.specs.Elimination.{pivot_cleared, joined}
use Rattle.echelon.proofs.Joined.{put, put-length, put_low, put_here, put_high}
use Rattle.record.specs.Rows.{pivoted, all_pivoted, SamePivoted}
use Rattle.record.proofs.Shaped.{few-rows}
use Rattle.record.specs.declared.rows.RecordRow.{RecordRow}

itself : Pivoted → Pivoted
itself x = x

-- insertion in memory, as the theory has it
in_memory : (rows : List RecordRow) (k : ℕ) (x : RecordRow) → all_pivoted (insert rows k x) ≡ put itself (pivoted x) k (all_pivoted rows)
unfolding itself
in_memory rows k x =
    map-append pivoted (take k rows) (x ∷ drop k rows)
    ∙ ap₂ (λ front back. front ++ pivoted x ∷ back) (sym (take-map pivoted k rows)) (sym (drop-map pivoted k rows))
    ∙ ap (λ l. take k l ++ pivoted x ∷ drop k l) (sym (map-id (all_pivoted rows)))

same_row : {n : ℕ} (x y p q : Pivoted) → x ≡ p → y ≡ q → SamePivoted n p q → SamePivoted n x y
same_row x y p q xp yq same = record {
  pivots = ap (λ r. r.pivot) xp ∙ same.pivots ∙ ap (λ r. r.pivot) (sym yq);
  weights = λ m b. ap (λ r. r.weights m) xp ∙ same.weights m b ∙ ap (λ r. r.weights m) (sym yq);
  figures = ap (λ r. r.figure) xp ∙ same.figures ∙ ap (λ r. r.figure) (sym yq);
}

-- two rows put into rows that are equal one by one
module _
    (n : ℕ) (f f₁ : Pivoted → Pivoted) (x x₁ : Pivoted) (fresh : SamePivoted n x x₁) (rec rec₁ : List Pivoted)
    (len : length rec₁ ≡ length rec) (is : (a : ℕ) → a < length rec → SamePivoted n (f (at rec a)) (f₁ (at rec₁ a)))
    (k : ℕ) (place : k ≤ length rec) where
  each : (a : ℕ) → a < suc (length rec) → SamePivoted n (at (put f x k rec) a) (at (put f₁ x₁ k rec₁) a)
  each a h =
      let place₁ : k ≤ length rec₁ = omega arith in
      elim (dec_lt a k) [
        | yes low ↦
            same_row _ _ _ _ (put_low f x k rec place a low) (put_low f₁ x₁ k rec₁ place₁ a low) (is a (omega arith))
        | no high ↦
            elim (ℕ_discrete a k) [
              | yes same ↦
                  same_row _ _ x x₁ (ap (at (put f x k rec)) same ∙ put_here f x k rec place)
                  (ap (at (put f₁ x₁ k rec₁)) same ∙ put_here f₁ x₁ k rec₁ place₁) fresh
              | no ne ↦
                  let b = pred a in
                  let next : a ≡ suc b = omega arith in
                  same_row _ _ _ _ (ap (at (put f x k rec)) next ∙ put_high f x k rec place b (omega arith) (omega arith))
                  (ap (at (put f₁ x₁ k rec₁)) next ∙ put_high f₁ x₁ k rec₁ place₁ b (omega arith) (omega arith)) (is b (omega arith))
            ]
      ]

  pub same-put : Same n (put f x k rec) (put f₁ x₁ k rec₁)
  same-put =
      let size : length (put f x k rec) ≡ suc (length rec) = put-length f x k rec place in
      let size₁ : length (put f₁ x₁ k rec₁) ≡ suc (length rec₁) = put-length f₁ x₁ k rec₁ (omega arith) in
      record {
        lengths = omega arith;
        pivots = λ a h. (each a (omega arith)).pivots;
        figures = λ a h. (each a (omega arith)).figures;
        weights = λ a m h b. (each a (omega arith)).weights m b;
      }

same_itself : {n : ℕ} (x : Pivoted) → SamePivoted n x x
same_itself x = record { pivots = refl; weights = λ m b. refl; figures = refl }

pub turned : {n : ℕ} {x y : Pivoted} → SamePivoted n x y → SamePivoted n y x
turned same = record { pivots = sym same.pivots; weights = λ m b. sym (same.weights m b); figures = sym same.figures }

-- rows that are cleared by equal rows
pub cleared_by_same :
    (M : FieldModel) (n : ℕ) (e e₁ d : Pivoted) → SamePivoted n e e₁ → SamePivoted n (pivot_cleared M e d) (pivot_cleared M e₁ d)
cleared_by_same M n e e₁ d same = record {
  pivots = refl;
  weights = λ m b. ap₂ (λ q w. minus M (d.weights m) (M.times (d.weights q) w)) same.pivots (same.weights m b);
  figures = ap₂ (λ q w. minus M d.figure (M.times (d.weights q) w)) same.pivots same.figures;
}

-- equal rows that join make equal records
pub same-joins :
    (M : FieldModel) (n : ℕ) (e e₁ : Pivoted) → SamePivoted n e e₁ → (rec : List Pivoted) (k : ℕ) → k ≤ length rec
    → Same n (joined M e k rec) (joined M e₁ k rec)
same-joins M n e e₁ same rec k place =
    same-put n (pivot_cleared M e) (pivot_cleared M e₁) e e₁ same rec rec refl (λ a h. cleared_by_same M n e e₁ (at rec a) same) k place

pub same-joined :
    (M : FieldModel) (n : ℕ) (x : RecordRow) (rows rows₁ : List RecordRow) → length (all_pivoted rows₁) ≡ length (all_pivoted rows)
    → ((a : ℕ) → a < length (all_pivoted rows) → SamePivoted n (at (all_pivoted rows₁) a) (pivot_cleared M (pivoted x) (at (all_pivoted rows) a)))
    → (k : ℕ) → k ≤ length (all_pivoted rows)
    → Same n (joined M (pivoted x) k (all_pivoted rows)) (all_pivoted (insert rows₁ k x))
same-joined M n x rows rows₁ len is k place =
    subst (Same n (joined M (pivoted x) k (all_pivoted rows))) (sym (in_memory rows₁ k x))
    (unfold itself in
    same-put n (pivot_cleared M (pivoted x)) itself (pivoted x) (pivoted x) (same_itself (pivoted x)) (all_pivoted rows) (all_pivoted rows₁) len
    (λ a h. turned (is a h)) k place)

-- where the joined record is reduced, there was room for one more row
pub one_more : (M : FieldModel) (n : ℕ) (e : Pivoted) (k : ℕ) (rec : List Pivoted) → k ≤ length rec → Reduced M n (joined M e k rec) → length rec < n
one_more M n e k rec place R =
    let more : length (joined M e k rec) ≡ suc (length rec) = put-length (pivot_cleared M e) e k rec place in
    let few = few-rows M n (joined M e k rec) R in
    omega arith

-- where the joined record is reduced, the row that joined is 0 below its pivot
pub joined_lowest :
    (M : FieldModel) (n : ℕ) (e : Pivoted) (k : ℕ) (rec : List Pivoted) → k ≤ length rec → Reduced M n (joined M e k rec)
    → (m : ℕ) → m < e.pivot → e.weights m ≡ 0
joined_lowest M n e k rec place R m h =
    let here = put_here (pivot_cleared M e) e k rec place in
    ap (λ p. p.weights m) (sym here)
    ∙ R.lowest_named k m (omega (arith, put-length (pivot_cleared M e) e k rec place, place)) (subst (λ (p : Pivoted). m < p.pivot) (sym here) h)
