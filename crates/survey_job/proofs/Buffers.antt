-- Lines that were written in a vector's slice, and vectors that are cut to what was written. Assumes nothing.
use Rattle.std.proofs.Common.{◌≡◌, ◌∙◌, ap, sym, subst, ℕ, ◌+◌, ◌-◌, ◌≤◌, List, ◌++◌, length, take, drop, Some, None, MatchOption, Option, refl, append_assoc, arith}
use Rattle.std.proofs.lemmas.List.{take_at, take-take, take_rest, length-append, length-drop, length-take-le, take-append-le}
use Rattle.std.specs.Option.{IsSome}
use Rattle.buffer.specs.Buffers.{Put, Writes}

-- what fits is written
pub written_if : (P : Type 0) (Q : ℕ → Type 0) (r : Option ℕ) → MatchOption r P Q → (P → ⊥) → IsSome r
written_if P Q (Some k) done fits = refl
written_if P Q None done fits = absurd (fits done)

-- a line that was written, fits, and is put
pub written_line :
    (line o ws : List ℕ) (r : Option ℕ) (k : ℕ) → Writes line o ws r → r ≡ Some k → (length line ≤ length o) × Put line o ws k
written_line line o ws r k done is = subst (λ (x : Option ℕ). Writes line o ws x) is done

-- how long the rest of a slice is
pub rest-length : (xs : List ℕ) (a : ℕ) → length (take (length xs - a) (drop a xs)) ≡ length xs - a
rest-length xs a = ap length (take_rest xs a) ∙ length-drop a xs

-- a vector that was lent as a slice, where as many elements come back, and then cut
pub cut_back :
    (us xs ws : List ℕ) (j k room : ℕ) → us ≡ take j (take room (ws ++ drop (length ws) xs)) → length ws ≡ room → j ≡ k
    → us ≡ take k ws
cut_back us xs ws j k room is back all =
    is ∙ ap (take j) (take_at ws (drop (length ws) xs) room back) ∙ ap (λ n. take n ws) all

-- a line at the front, and a cut after it
pub line_alone :
    (us xs o ws line : List ℕ) (j k room : ℕ) → us ≡ take j (take room (ws ++ drop (length ws) xs)) → length ws ≡ room
    → j ≡ k → Put line o ws k → us ≡ line
line_alone us xs o ws line j k room is back all put =
    cut_back us xs ws j k room is back all ∙ ap (take k) put.buffer ∙ take_at line (drop (length line) o) k (sym put.count)

regroup : (p q r s t : List ℕ) → (p ++ ((q ++ r) ++ s)) ++ t ≡ (p ++ q) ++ (r ++ (s ++ t))
regroup p q r s t = simp append_assoc

-- a line after the first `a` elements, and a cut after it
pub line_after :
    (us xs ys o ws post line : List ℕ) (a j k room : ℕ) → us ≡ take j (take room ((take a xs ++ (ws ++ post)) ++ ys))
    → j ≡ a + k → a + k ≤ room → a ≤ length xs → Put line o ws k → us ≡ take a xs ++ line
line_after us xs ys o ws post line a j k room is all within front put =
    let first = length-take-le a xs front in
    let long = length-append (take a xs) line in
    let count = put.count in
    is ∙ take-take j room _ (omega arith) ∙ ap (λ (w : List ℕ). take j ((take a xs ++ (w ++ post)) ++ ys)) put.buffer
    ∙ ap (take j) (regroup (take a xs) line (drop (length line) o) post ys)
    ∙ take_at (take a xs ++ line) (drop (length line) o ++ (post ++ ys)) j (omega arith)

-- the first elements of a vector whose front was lent
pub front_kept :
    (ws post ys : List ℕ) (j k room : ℕ) → j ≡ k → k ≤ room → k ≤ length ws
    → take j (take room ((ws ++ post) ++ ys)) ≡ take k ws
front_kept ws post ys j k room all within front =
    take-take j room _ (omega arith) ∙ ap (take j) (append_assoc ws post ys) ∙ take-append-le j ws (post ++ ys) (omega arith)
    ∙ ap (λ n. take n ws) all
