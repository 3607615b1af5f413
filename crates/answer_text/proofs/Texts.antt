-- Numbers after spaces, and how long lines are. Assumes nothing.
use Rattle.std.proofs.Common.{◌≡◌, ℕ, suc, ◌+◌, ◌*◌, ◌<◌, ◌≤◌, List, [], ◌∷◌, ◌++◌, length, get_or, take, drop, decimal, sym, ap, ◌∙◌, arith}
use Rattle.std.proofs.lemmas.List.{length-append, map-append, map_more, flat_map_more, take-append-drop}
use Rattle.std.proofs.lemmas.Grind.{flat_map-append}
use Rattle.field.specs.Sums.{weights_of}
use Rattle.field.specs.declared.Element.{Element}
use Rattle.server.specs.Tables.{codes}
use Rattle.refusal.specs.Numbered.{number, detail}
use Rattle.buffer.proofs.Digits.{five_digits}
use Rattle.answer_text.specs.AnswerLines.{after_space, spaced, newline, Told, figure, granted, table, refused, told_text, answer_line, Short, LinesFit}

-- one element more
pub element_more :
    (es : List Element) (i : ℕ) (d : Element) → i < length es
    → spaced (codes (take (i + 1) es)) ≡ spaced (codes (take i es)) ++ after_space (get_or es i d).0
element_more es i d h =
    ap spaced (map_more (λ e. e.0) es i d h) ∙ sym (flat_map_more after_space [] (codes (take i es)) (get_or es i d).0)

pub element_more_length :
    (es : List Element) (i : ℕ) → i < length es
    → length (spaced (codes (take (i + 1) es))) ≡ length (spaced (codes (take i es))) + length (after_space (weights_of es i))
element_more_length es i h =
    ap length (element_more es i (record { 0 = 0 }) h) ∙ length-append (spaced (codes (take i es))) (after_space (weights_of es i))

-- the first elements take no more than all of them
pub elements-below : (es : List Element) (i : ℕ) → length (spaced (codes (take i es))) ≤ length (spaced (codes es))
elements-below es i =
    let all = ap length (ap (λ us. spaced (codes us)) (sym (take-append-drop i es)) ∙ ap spaced (map-append (λ e. e.0) (take i es) (drop i es)) ∙ flat_map-append after_space (codes (take i es)) (codes (drop i es))) in
    let parts = length-append (spaced (codes (take i es))) (spaced (codes (drop i es))) in
    omega arith

pub line-length : (k : ℕ) (t : Told) → length (answer_line k t) ≡ length (decimal k) + 2 + length (told_text t)
line-length k t =
    let all = length-append (decimal k) (32 ∷ (told_text t ++ newline)) in
    let rest = length-append (told_text t) newline in
    omega arith

spaced-short : (w : List ℕ) → ((m : ℕ) → m < length w → get_or w m 0 < 100000) → length (spaced w) ≤ 6 * length w
spaced-short [] h = omega arith
spaced-short (v ∷ w) h =
    let first = five_digits v (h 0 (omega arith)) in
    let rest = spaced-short w (λ m l. h (suc m) (omega arith)) in
    let all = length-append (decimal v) (spaced w) in
    omega arith

text-fits : (t : Told) → Short t → length (told_text t) ≤ 385
text-fits (figure v) h =
    let digits = five_digits v h in let all = length-append (decimal v) [] in omega arith
text-fits granted h = omega arith
text-fits (table w) h = let long = spaced-short w h.1 in omega (arith, h.0)
text-fits (refused e) h =
    let first = five_digits (number e) h.0 in
    let second = five_digits (detail e) h.1 in
    let all = length-append (decimal (number e)) (spaced (detail e ∷ [])) in
    let rest = length-append (decimal (detail e)) [] in
    omega arith

pub lines_fit : (room : ℕ) → 392 ≤ room → LinesFit room
lines_fit room enough k t small short =
    let number = five_digits k small in
    let text = text-fits t short in
    let all = line-length k t in
    omega arith

pub two_length : (first second : ℕ) → length (spaced (first ∷ second ∷ [])) ≡ length (after_space first) + length (after_space second)
two_length first second =
    let all = length-append (decimal first) (spaced (second ∷ [])) in let rest = length-append (decimal second) [] in omega arith
