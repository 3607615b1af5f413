-- What spells a request is accepted as it. Assumes nothing.
use Rattle.std.proofs.Common.{◌≡◌, ℕ, ◌+◌, ◌<◌, ◌≤◌, false, ◌≢◌, ◌⊎◌, List, [], ◌∷◌, ◌++◌, length, drop, set, Some, Ok, decimal, sym, refl, ap, ◌∙◌, inl, inr, ⊎_elim, append_assoc, arith}
use Rattle.std.specs.List.{flat_map, AllByRecursion}
use Rattle.std.proofs.lemmas.List.{append-nil, drop_at, drop-drop, length-drop, length-append, get_or-set_other, get_or-replicate, get_or_past}
use Rattle.std.proofs.ByRecursion.{All-weaker}
use Rattle.std.proofs.lemmas.Bool.{cases_lt}
use Rattle.field.specs.Sums.{weights_of}
use Rattle.field.specs.declared.Element.{Element}
use Rattle.query.specs.declared.numbers.Numeral.{Numeral}
use Rattle.query.specs.declared.items.Limits.{Limits}
use Rattle.query.specs.declared.lines.Request.{Request}
use Rattle.query.specs.declared.lines.Request.TheVariants.{Ask, Try, Witness}
use Rattle.query.specs.Numbers.{place, byte_at, stands_at, digits}
use Rattle.query.specs.Items.{code, no_weights, of_item, read_spaced_lem, read_item_lem, read_items_lem}
use Rattle.query.specs.Lines.{read_witness_lem, reading}
use Rattle.query.specs.Grammar.{Entry, alone, weighted, member, weight, text, InRange, Named, with_weights, Spells, ask, try, witness, remark, Accepted}
use Rattle.query.proofs.Bytes.{front-stands, front_other, front_none}
use Rattle.query.proofs.Decimals.{reads_decimal}
use Rattle.query.proofs.ItemChecks.{unnamed_zero, spaced-some, item_weighed, weighed-plain, weighed_more, items_last, items_more}
use Rattle.query.proofs.LineChecks.{row_fine, kind-ask, kind-try, kind-witness, reading-remark, reading-short, witness_fine}

-- what follows an item: nothing, or a space
abbrev pub Ends : List ℕ → Type 0
Ends rest = (rest ≡ []) ⊎ ((bs : List ℕ) × (rest ≡ 32 ∷ bs))

pub ends_digits : (rest : List ℕ) → Ends rest → digits rest ≡ []
ends_digits rest (inl e) = ap digits e
ends_digits rest (inr e) = ap digits e.1

pub ends_colon : (line : List ℕ) (p : ℕ) (rest : List ℕ) → drop p line ≡ rest → Ends rest → stands_at line p 58 ≡ false
ends_colon line p rest d (inl e) = front_none line p 58 (d ∙ e)
ends_colon line p rest d (inr e) = front_other line p 58 32 e.0 (d ∙ e.1) (λ z. omega arith)

pub ends_joined : (es : List Entry) → Ends (flat_map text es)
ends_joined [] = inl refl
ends_joined (alone m ∷ es) = inr (decimal m ++ flat_map text es, refl)
ends_joined (weighted m w ∷ es) = inr ((decimal m ++ (58 ∷ decimal w)) ++ flat_map text es, refl)

both : {X : Type 0} (P Q : X → Type 0) (xs : List X) → AllByRecursion P xs → AllByRecursion Q xs → AllByRecursion (λ x. P x × Q x) xs
both P Q [] p q = tt
both P Q (x ∷ xs) p q = ((p.0, q.0), both P Q xs p.1 q.1)

-- what is left of a line after a front of what was left
pub left : (line : List ℕ) (p q : ℕ) (xs rest : List ℕ) → drop p line ≡ xs ++ rest → q ≡ p + length xs → drop q line ≡ rest
left line p q xs rest e is =
    ap (λ k. drop k line) is ∙ sym (drop-drop (length xs) p line) ∙ ap (drop (length xs)) e ∙ drop_at xs rest (length xs) refl

module _ (limit v : ℕ) (line : List ℕ) (p : ℕ) (rest : List ℕ) (small : v < 100000) (below : v < limit) (e : drop p line ≡ (32 ∷ decimal v) ++ rest) where
  pub spaced-reads :
      digits rest ≡ []
      → read_spaced_lem limit line p ≡ Ok (record { start = place (p + 1); value = v; after = place (p + 1 + length (decimal v)) })
  spaced-reads none =
      let next : drop (p + 1) line ≡ decimal v ++ rest = left line p (p + 1) (32 ∷ []) (decimal v ++ rest) e refl in
      spaced-some limit line p (front-stands line p 32 (decimal v ++ rest) e)
      ∙ ap of_item (reads_decimal 0 limit v line (p + 1) rest small (omega arith) below next none)

  pub spaced-left : drop (p + 1 + length (decimal v)) line ≡ rest
  spaced-left = left line p (p + 1 + length (decimal v)) (32 ∷ decimal v) rest e (omega arith)

module _ (lim : Limits) (few : lim.members ≤ 64) (size : lim.size ≤ 65536) (line : List ℕ) where
  item_reads :
      (e : Entry) (row : List Element) (p : ℕ) (rest : List ℕ) → InRange lim e → weights_of row (member e) ≡ 0
      → drop p line ≡ text e ++ rest → Ends rest
      → read_item_lem lim row line p
      ≡ Ok (record { member = record { 0 = member e }; weight = code (weight e); after = place (p + length (text e)) })
  item_reads (alone m) row p rest below unnamed e ends =
      let r = spaced-reads lim.members m line p rest (omega arith) below e (ends_digits rest ends) in
      let here : Numeral = record { start = place (p + 1); value = m; after = place (p + 1 + length (decimal m)) } in
      let after : p + 1 + length (decimal m) ≡ p + length (text (alone m)) = omega arith in
      item_weighed lim row line p here r (unnamed_zero row m unnamed)
      ∙ weighed-plain lim line here refl
      (ends_colon line (p + 1 + length (decimal m)) rest (spaced-left lim.members m line p rest (omega arith) below e) ends)
      ∙ ap (λ q. Ok (record { member = record { 0 = m }; weight = code 1; after = place q })) after
  item_reads (weighted m w) row p rest range unnamed e ends =
      let below = range.0 in
      let tail : List ℕ = 58 ∷ (decimal w ++ rest) in
      let split : drop p line ≡ (32 ∷ decimal m) ++ tail = e ∙ ap (λ u. 32 ∷ u) (append_assoc (decimal m) (58 ∷ decimal w) rest) in
      let r = spaced-reads lim.members m line p tail (omega arith) below split refl in
      let q : ℕ = p + 1 + length (decimal m) in
      let here : Numeral = record { start = place (p + 1); value = m; after = place q } in
      let after-m : drop q line ≡ tail = spaced-left lim.members m line p tail (omega arith) below split in
      let after-colon : drop (q + 1) line ≡ decimal w ++ rest = left line q (q + 1) (58 ∷ []) (decimal w ++ rest) after-m refl in
      let high = range.2 in
      let n = reads_decimal 1 lim.size w line (q + 1) rest (omega arith) range.1 high after-colon (ends_digits rest ends) in
      let sizes = length-append (decimal m) (58 ∷ decimal w) in
      let after : q + 1 + length (decimal w) ≡ p + length (text (weighted m w)) = omega arith in
      item_weighed lim row line p here r (unnamed_zero row m unnamed)
      ∙ weighed_more lim line here _ refl (front-stands line q 58 (decimal w ++ rest) after-m) n
      ∙ ap (λ k. Ok (record { member = record { 0 = m }; weight = code w; after = place k })) after

  text-some : (e : Entry) → 0 < length (text e)
  text-some (alone m) = omega arith
  text-some (weighted m w) = omega arith

  items_read :
      (e : Entry) (es : List Entry) (row : List Element) (p : ℕ) → Named lim (e ∷ es)
      → AllByRecursion (λ f. weights_of row (member f) ≡ 0) (e ∷ es) → drop p line ≡ flat_map text (e ∷ es)
      → read_items_lem lim row line p ≡ Ok (record { 0 = with_weights row (e ∷ es) })
  items_read e [] row p named fresh is =
      let r = item_reads e row p [] named.in_range.0 fresh.0 is (inl refl) in
      let n = length-drop p line in
      let k = ap length is ∙ length-append (text e) [] in
      let s = text-some e in
      items_last lim row line p _ r (omega arith)
  items_read e (f ∷ fs) row p named fresh is =
      let rest : List ℕ = flat_map text (f ∷ fs) in
      let r = item_reads e row p rest named.in_range.0 fresh.0 is (ends_joined (f ∷ fs)) in
      let q : ℕ = p + length (text e) in
      let next : drop q line ≡ rest = left line p q (text e) rest is refl in
      let n = length-drop q line in
      let k = ap length next ∙ length-append (text f) (flat_map text fs) in
      let s = text-some f in
      let clean =
      All-weaker _ (λ g. weights_of (set row (member e) (code (weight e))) (member g) ≡ 0)
      (λ g h. ap (λ x. x.0) (get_or-set_other row (member e) (member g) (code (weight e)) (code 0) h.0) ∙ h.1) (f ∷ fs)
      (both (λ g. member g ≢ member e) (λ g. weights_of row (member g) ≡ 0) (f ∷ fs) named.apart.0 fresh.1) in
      items_more lim row line p _ r (λ z. omega arith)
      ∙ items_read f fs (set row (member e) (code (weight e))) q
      (record { in_range = named.in_range.1; apart = named.apart.1 }) clean next

pub not_remark : (b : ℕ) → (b ≡ 35 → ⊥) → Some b ≡ Some 35 → ⊥
not_remark b n e = let same : b ≡ 35 = cc in n same

pub unnamed : (m : ℕ) → weights_of no_weights m ≡ 0
unnamed m =
    ap (λ x. x.0)
    (⊎_elim (λ h. get_or-replicate 64 m (code 0) (code 0) h) (λ h. get_or_past no_weights m (code 0) h) (cases_lt m 64))

all_unnamed : (es : List Entry) → AllByRecursion (λ f. weights_of no_weights (member f) ≡ 0) es
all_unnamed [] = tt
all_unnamed (e ∷ es) = (unnamed (member e), all_unnamed es)

module _ (lim : Limits) (few : lim.members ≤ 64) (size : lim.size ≤ 65536) where
  witness-reads :
      (m e : ℕ) → m < lim.members → e < lim.size
      → read_witness_lem lim (119 ∷ ((32 ∷ decimal m) ++ (32 ∷ decimal e))) 1 ≡ Ok (Witness (record { 0 = m }) (code e))
  witness-reads m e below-m below-e =
      let line : List ℕ = 119 ∷ ((32 ∷ decimal m) ++ (32 ∷ decimal e)) in
      let first = spaced-reads lim.members m line 1 (32 ∷ decimal e) (omega arith) below-m refl refl in
      let q : ℕ = 1 + 1 + length (decimal m) in
      let next : drop q line ≡ 32 ∷ decimal e = spaced-left lim.members m line 1 (32 ∷ decimal e) (omega arith) below-m refl in
      let whole : drop q line ≡ (32 ∷ decimal e) ++ [] = next ∙ sym (append-nil (32 ∷ decimal e)) in
      let second = spaced-reads lim.size e line q [] (omega arith) below-e whole refl in
      let n = length-append (32 ∷ decimal m) (32 ∷ decimal e) in
      let end : length line ≤ q + 1 + length (decimal e) = omega arith in
      witness_fine lim line 1 _ first _ refl second end

  spelt-reads :
      (line : List ℕ) (q : Request) → Spells lim line q → ((byte_at line 0 ≡ Some 35 → ⊥) → length line ≤ 640) → reading lim line ≡ Ok q
  spelt-reads line q (ask e es named) short =
      let row = items_read lim few size line e es no_weights 1 named (all_unnamed (e ∷ es)) refl in
      reading-short lim line 97 refl (λ z. omega arith) (short (λ z. not_remark 97 (λ k. omega arith) z))
      ∙ kind-ask lim 97 line refl ∙ row_fine Ask _ _ row refl
  spelt-reads line q (try e es named) short =
      let row = items_read lim few size line e es no_weights 1 named (all_unnamed (e ∷ es)) refl in
      reading-short lim line 116 refl (λ z. omega arith) (short (λ z. not_remark 116 (λ k. omega arith) z))
      ∙ kind-try lim 116 line refl ∙ row_fine Try _ _ row refl
  spelt-reads line q (witness m e below-m below-e) short =
      reading-short lim line 119 refl (λ z. omega arith) (short (λ z. not_remark 119 (λ k. omega arith) z))
      ∙ kind-witness lim 119 line refl ∙ witness-reads m e below-m below-e
  spelt-reads line q (remark bs) short = reading-remark lim line 35 refl refl

  pub complete : (line : List ℕ) (q : Request) → Accepted lim line q → reading lim line ≡ Ok q
  complete line q a = spelt-reads line q a.spells a.short
