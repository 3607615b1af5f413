-- What stands at the place of a fault by 19 or 20, and which line has one by 21. Assumes nothing.
use Rattle.std.proofs.Common.{◌≡◌, ℕ, ◌+◌, ◌<◌, ◌≤◌, cond, eqb, ltb, ◌≢◌, ◌⊎◌, List, [], ◌∷◌, ◌++◌, length, drop, Some, Ok, Err, decimal, Result, sym, refl, ap, ◌∙◌, ap₂, inl, inr, arith}
use Rattle.std.specs.List.{flat_map}
use Rattle.std.proofs.lemmas.Bool.{cases_eq, eqb-false, ltb-true}
use Rattle.field.specs.Model.{FieldModel, FieldLaws}
use Rattle.refusal.specs.declared.Refusal.TheVariants.{BadNumber, MemberRepeated}
use Rattle.query.specs.declared.faults.ItemFault.{ItemFault}
use Rattle.query.specs.declared.faults.LineFault.{LineFault}
use Rattle.query.specs.declared.faults.LineFault.TheVariants.{TooLong, NoKind, Item, NotEnded}
use Rattle.query.specs.declared.numbers.Numeral.{Numeral}
use Rattle.query.specs.declared.items.Limits.{Limits}
use Rattle.query.specs.declared.items.Weights.{Weights}
use Rattle.query.specs.declared.lines.Request.{Request}
use Rattle.query.specs.declared.lines.Request.TheVariants.{Ask, Try, Witness, Remark}
use Rattle.query.specs.Refusals.{item_refusal, line_refusal}
use Rattle.query.specs.Numbers.{place, byte_at}
use Rattle.query.specs.Items.{code, no_weights, read_spaced_lem, read_items_lem}
use Rattle.query.specs.Lines.{limits, read_witness_lem, by_kind, reading}
use Rattle.query.specs.Grammar.{Entry, text, Named, with_weights}
use Rattle.query.specs.Firsts.{RowKind, BadNumberAt, no_member, no_weight, no_member_of_witness, no_element, RepeatedAt, Firsts}
use Rattle.query.proofs.LineChecks.{of_line_ok, rows, kind-ask, kind-try, kind-witness, kind_none, reading_long}
use Rattle.query.proofs.Completeness.{unnamed, not_remark}
use Rattle.query.proofs.Exactness.{few}
use Rattle.query.proofs.Stops.{split, err_same, no_err, cond_err, then_err, of_line_err}
use Rattle.query.proofs.Rows.{unnamed_apart, named_has}
use Rattle.query.proofs.NumberFaults.{Bad, Again, byte_bad, byte_again, spaced_bad, spaced_again, member_read}
use Rattle.query.proofs.ItemFaults.{NumberHere, member_here, weight_here, AgainHere, item_bad, item_again, rows_fault, rows_after}

-- the fault of a witness line: of its member, of its element, or what follows them
data WitnessFault (lim : Limits) (line : List ℕ) (f : LineFault) : Type 0 where
  of_member : (g : ItemFault) → read_spaced_lem lim.members line 1 ≡ Err g → Item g ≡ f → WitnessFault lim line f
  of_element :
      (m : Numeral) (g : ItemFault) → read_spaced_lem lim.members line 1 ≡ Ok m → read_spaced_lem lim.size line m.after.0 ≡ Err g
      → Item g ≡ f → WitnessFault lim line f
  of_end : (p : ℕ) → NotEnded (place p) ≡ f → WitnessFault lim line f

witness_fault : (lim : Limits) (line : List ℕ) (f : LineFault) → read_witness_lem lim line 1 ≡ Err f → WitnessFault lim line f
unfolding read_witness_lem
witness_fault lim line f e =
    split (then_err _ _ f e) (λ h. let g = of_line_err _ f h in of_member g.0 g.1 g.2)
    (λ h.
    let found = of_line_ok _ _ h.1 in
    split (then_err _ _ f h.2) (λ k. let g = of_line_err _ f k in of_element h.0 g.0 found g.1 g.2)
    (λ k.
    split
    (cond_err (ltb k.0.after.0 (length line)) (Err (NotEnded k.0.after)) (Ok (Witness (record { 0 = h.0.value }) (code k.0.value))) f k.2)
    (λ l. of_end k.0.after.0 (err_same _ _ l.1)) (λ l. no_err _ f l.1)))

module _ (lim : Limits) (few : lim.members ≤ 64) (size : lim.size ≤ 65536) (b : ℕ) (bs : List ℕ) (q : ℕ) where
  row_bad :
      (make : Weights → Request) (f : LineFault) → RowKind b → rows make (read_items_lem lim no_weights (b ∷ bs) 1) ≡ Err f
      → Bad q (line_refusal f) → BadNumberAt lim (b ∷ bs) q
  row_bad make f kind e u =
      let a = rows_after lim few (b ∷ bs) q (λ g. Bad q (item_refusal g)) (NumberHere lim) (λ p. byte_bad p q) (item_bad lim few size (b ∷ bs) q)
      make f (λ g s. ap line_refusal s ∙ u) e in
      go a.entries a.tail a.at a.named a.is a.place_is a.here
    where
      go :
          (es : List Entry) (tail : List ℕ) (j : ℕ) → Named lim es → bs ≡ flat_map text es ++ tail
          → q ≡ 1 + (length (flat_map text es) + j) → NumberHere lim (with_weights no_weights es) tail j
          → BadNumberAt lim (b ∷ bs) q
      go es tail j named is at (member_here t here bad one) =
          no_member b es t kind named (ap (λ u. b ∷ u) (is ∙ ap (λ u. flat_map text es ++ u) here)) bad (omega arith)
      go es tail j named is at (weight_here m t here below unset bad size-is) =
          no_weight b es m t kind
          (record { in_range = (below, named.in_range); apart = (unnamed_apart lim few m es no_weights refl named.in_range unset, named.apart) })
          (ap (λ u. b ∷ u) (is ∙ ap (λ u. flat_map text es ++ u) here)) bad (omega arith)

  row_again :
      (make : Weights → Request) (f : LineFault) → RowKind b → rows make (read_items_lem lim no_weights (b ∷ bs) 1) ≡ Err f
      → Again q (line_refusal f) → RepeatedAt lim (b ∷ bs) q
  row_again make f kind e u =
      let a = rows_after lim few (b ∷ bs) q (λ g. Again q (item_refusal g)) AgainHere (λ p. byte_again p q) (item_again lim few size (b ∷ bs) q)
      make f (λ g s. ap line_refusal s ∙ u) e in
      let h = a.here in
      let at = a.place_is in
      let one = h.place_is in
      record {
        first = b;
        entries = a.entries;
        again = h.again;
        rest = h.behind;
        kind = kind;
        named = a.named;
        has = named_has lim few h.again a.entries no_weights (unnamed h.again) h.named;
        line_is = ap (λ u. b ∷ u) (a.is ∙ ap (λ u. flat_map text a.entries ++ u) h.is);
        whole = h.whole;
        place_is = omega arith;
      }

  witness_bad : (f : LineFault) → b ≡ 119 → read_witness_lem lim (b ∷ bs) 1 ≡ Err f → Bad q (line_refusal f) → BadNumberAt lim (b ∷ bs) q
  witness_bad f kind e u = go (witness_fault lim (b ∷ bs) f e)
    where
      go : WitnessFault lim (b ∷ bs) f → BadNumberAt lim (b ∷ bs) q
      go (of_member g bad same) =
          let s = spaced_bad lim.members (b ∷ bs) 1 q g (omega arith) bad (ap line_refusal same ∙ u) in
          no_member_of_witness (drop 2 (b ∷ bs)) (ap₂ (λ c u. c ∷ u) kind s.0) s.1.1 s.1.0
      go (of_element m g found bad same) =
          let r = member_read lim.members (b ∷ bs) 1 m found in
          let s = spaced_bad lim.size (b ∷ bs) m.after.0 q g size bad (ap line_refusal same ∙ u) in
          let rest : List ℕ = drop (m.after.0 + 1) (b ∷ bs) in
          let after = r.after_is in
          let at = s.1.0 in
          no_element m.value rest r.below (ap₂ (λ c u. c ∷ u) kind (r.is ∙ ap (λ u. 32 ∷ (decimal m.value ++ u)) s.0)) s.1.1 (omega arith)
      go (of_end p same) = byte_bad p q (ap line_refusal same ∙ u)

  witness_again : {X : Type 0} (f : LineFault) → read_witness_lem lim (b ∷ bs) 1 ≡ Err f → Again q (line_refusal f) → X
  witness_again {X} f e u = go (witness_fault lim (b ∷ bs) f e)
    where
      go : WitnessFault lim (b ∷ bs) f → X
      go (of_member g bad same) = spaced_again lim.members (b ∷ bs) 1 q g bad (ap line_refusal same ∙ u)
      go (of_element m g found bad same) = spaced_again lim.size (b ∷ bs) m.after.0 q g bad (ap line_refusal same ∙ u)
      go (of_end p same) = byte_again p q (ap line_refusal same ∙ u)

  kind_bad : (f : LineFault) → by_kind b lim (b ∷ bs) ≡ Err f → Bad q (line_refusal f) → BadNumberAt lim (b ∷ bs) q
  kind_bad f e u =
      split (cases_eq b 97) (λ a. row_bad Ask f (inl a) (sym (kind-ask lim b (b ∷ bs) a) ∙ e) u)
      (λ a.
      split (cases_eq b 116) (λ t. row_bad Try f (inr t) (sym (kind-try lim b (b ∷ bs) t) ∙ e) u)
      (λ t.
      split (cases_eq b 119) (λ w. witness_bad f w (sym (kind-witness lim b (b ∷ bs) w) ∙ e) u)
      (λ w. byte_bad 0 q (ap line_refusal (err_same _ _ (sym (kind_none lim b (b ∷ bs) a t w) ∙ e)) ∙ u))))

  kind_again : (f : LineFault) → by_kind b lim (b ∷ bs) ≡ Err f → Again q (line_refusal f) → RepeatedAt lim (b ∷ bs) q
  kind_again f e u =
      split (cases_eq b 97) (λ a. row_again Ask f (inl a) (sym (kind-ask lim b (b ∷ bs) a) ∙ e) u)
      (λ a.
      split (cases_eq b 116) (λ t. row_again Try f (inr t) (sym (kind-try lim b (b ∷ bs) t) ∙ e) u)
      (λ t.
      split (cases_eq b 119) (λ w. witness_again f (sym (kind-witness lim b (b ∷ bs) w) ∙ e) u)
      (λ w. byte_again 0 q (ap line_refusal (err_same _ _ (sym (kind_none lim b (b ∷ bs) a t w) ∙ e)) ∙ u))))

-- a line that is not too long is never refused by 21
not_long : {X : Type 0} (g : ItemFault) → Item g ≡ TooLong → X
not_long g e = absurd (let z : ◌≡◌ {A = ℕ} 0 1 = cc in omega arith)

ended_long : {X : Type 0} (p : ℕ) → NotEnded (place p) ≡ TooLong → X
ended_long p e = absurd (let z : ◌≡◌ {A = ℕ} 0 1 = cc in omega arith)

rows_long : {X : Type 0} (make : Weights → Request) (lim : Limits) (line : List ℕ) → rows make (read_items_lem lim no_weights line 1) ≡ Err TooLong → X
rows_long make lim line e = let g = rows_fault make lim line TooLong e in not_long g.0 g.1.1

witness_long : {X : Type 0} (lim : Limits) (line : List ℕ) → read_witness_lem lim line 1 ≡ Err TooLong → X
witness_long {X} lim line e = go (witness_fault lim line TooLong e)
  where
    go : WitnessFault lim line TooLong → X
    go (of_member g bad same) = not_long g same
    go (of_element m g found bad same) = not_long g same
    go (of_end p same) = ended_long p same

none_long : {X : Type 0} → NoKind ≡ TooLong → X
none_long e = absurd (let z : ◌≡◌ {A = ℕ} 0 1 = cc in omega arith)

kind_long : {X : Type 0} (lim : Limits) (b : ℕ) (line : List ℕ) → by_kind b lim line ≡ Err TooLong → X
kind_long lim b line e =
    split (cases_eq b 97) (λ a. rows_long Ask lim line (sym (kind-ask lim b line a) ∙ e))
    (λ a.
    split (cases_eq b 116) (λ t. rows_long Try lim line (sym (kind-try lim b line t) ∙ e))
    (λ t.
    split (cases_eq b 119) (λ w. witness_long lim line (sym (kind-witness lim b line w) ∙ e))
    (λ w. none_long (err_same _ _ (sym (kind_none lim b line a t w) ∙ e)))))

long_bad : {X : Type 0} (q : ℕ) → line_refusal TooLong ≡ BadNumber (place q) → X
long_bad q e = absurd (let z : ◌≡◌ {A = ℕ} 0 1 = cc in omega arith)

long_again : {X : Type 0} (q : ℕ) → line_refusal TooLong ≡ MemberRepeated (place q) → X
long_again q e = absurd (let z : ◌≡◌ {A = ℕ} 0 1 = cc in omega arith)

-- the fault of a line that is no remark: it is too long, or that of its kind
reading_fault :
    (lim : Limits) (b : ℕ) (bs : List ℕ) (f : LineFault) → reading lim (b ∷ bs) ≡ Err f
    → (b ≡ 35 → ⊥) × (((640 < length (b ∷ bs)) × (TooLong ≡ f)) ⊎ (by_kind b lim (b ∷ bs) ≡ Err f))
unfolding reading
reading_fault lim b bs f e =
    let more = cond (ltb 640 (length (b ∷ bs))) (Err TooLong) (by_kind b lim (b ∷ bs)) in
    split (cond_err (eqb b 35) (Ok Remark) more f e) (λ h. no_err _ f h.1)
    (λ h. (
      eqb-false _ _ h.0,
      split (cond_err (ltb 640 (length (b ∷ bs))) (Err TooLong) (by_kind b lim (b ∷ bs)) f h.1)
          (λ k. inl (ltb-true _ _ k.0, err_same _ _ k.1)) (λ k. inr k.1),
    ))

reading_none : (lim : Limits) (f : LineFault) → reading lim [] ≡ Err f → NoKind ≡ f
unfolding reading
reading_none lim f e = err_same _ _ e

module _ (lim : Limits) (few : lim.members ≤ 64) (size : lim.size ≤ 65536) where
  bad_number : (line : List ℕ) (f : LineFault) (q : ℕ) → reading lim line ≡ Err f → Bad q (line_refusal f) → BadNumberAt lim line q
  bad_number [] f q e u = byte_bad 0 q (ap line_refusal (reading_none lim f e) ∙ u)
  bad_number (b ∷ bs) f q e u =
      split (reading_fault lim b bs f e).1 (λ k. long_bad q (ap line_refusal k.1 ∙ u)) (λ k. kind_bad lim few size b bs q f k u)

  repeated : (line : List ℕ) (f : LineFault) (q : ℕ) → reading lim line ≡ Err f → Again q (line_refusal f) → RepeatedAt lim line q
  repeated [] f q e u = byte_again 0 q (ap line_refusal (reading_none lim f e) ∙ u)
  repeated (b ∷ bs) f q e u =
      split (reading_fault lim b bs f e).1 (λ k. long_again q (ap line_refusal k.1 ∙ u)) (λ k. kind_again lim few size b bs q f k u)

longer : (lim : Limits) (line : List ℕ) → 640 < length line → byte_at line 0 ≢ Some 35 → reading lim line ≡ Err TooLong
longer lim [] long other = absurd (omega arith)
longer lim (b ∷ bs) long other = reading_long lim (b ∷ bs) b refl (λ z. other (ap Some z)) long

too_long : (lim : Limits) (line : List ℕ) → reading lim line ≡ Err TooLong → (640 < length line) × (byte_at line 0 ≢ Some 35)
too_long lim [] e = none_long (reading_none lim TooLong e)
too_long lim (b ∷ bs) e =
    let r = reading_fault lim b bs TooLong e in
    (split r.1 (λ k. k.0) (λ k. kind_long lim b (b ∷ bs) k), not_remark b r.0)

pub firsts :
    (M : FieldModel) → FieldLaws M → (n : ℕ) (line : List ℕ) (r : Result Request LineFault)
    → r ≡ reading (limits M n) line → Firsts (limits M n) line r
firsts M laws n line r is =
    record {
      bad_number = λ f p e u. bad_number (limits M n) (few n) laws.size_bound line f p (sym is ∙ e) u;
      repeated = λ f p e u. repeated (limits M n) (few n) laws.size_bound line f p (sym is ∙ e) u;
      longer = λ long other. is ∙ longer (limits M n) line long other;
      too_long = λ e. too_long (limits M n) line (sym is ∙ e);
    }
