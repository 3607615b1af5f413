-- The checks of a header and of a row have one answer. Assumes nothing.
use Rattle.std.proofs.Common.{◌≡◌, ℕ, zero, suc, ◌+◌, ◌<◌, ◌≤◌, true, false, ◌≢◌, List, length, get_or, Some, None, Option, sym, refl, ap, subst, arith}
use Rattle.std.proofs.lemmas.Bool.{both_ways}
use Rattle.refusal.specs.declared.Refusal.{Refusal}
use Rattle.refusal.specs.declared.Refusal.TheVariants.{WrongLength, WrongKind, WrongCount, StrayMapBit, NotAnElement, StoredZero, CountsDiffer, UnknownMark, NoMemberNamed, NeedlessWeights}
use Rattle.refusal.specs.declared.Site.TheVariants.{Nothing, OfRow}
use Rattle.refusal.specs.declared.LogRow.{LogRow}
use Rattle.field.specs.Model.{FieldModel, FieldLaws}
use Rattle.field.proofs.Zero.{zero-code}
use Rattle.server.specs.Checks.{Lowest, Count}
use Rattle.member_map.specs.Maps.{map_length_lem, named_below, Stray}
use Rattle.checks.proofs.Searching.{lowest-one}
use Rattle.answer_log.specs.Rows.{plain}
use Rattle.answer_log.specs.Entries as entries
use Rattle.answer_log.specs.Entries.{mark_of, map_of, weighted, row_length_lem, row_weight, row_figure, Mapped, Named, Framed, Faulty, Weighed, EntryCheck, HeaderCheck}
use Rattle.log_record.proofs.Levels.{All, Level, one_level}

module _ (M : FieldModel) (n : ℕ) (bs : List ℕ) where
  abbrev header_asks : ℕ → Type 0
  header_asks zero = 2 ≤ length bs
  header_asks (suc zero) = get_or bs 0 0 ≡ M.kind
  header_asks (suc (suc zero)) = Count (get_or bs 1 0)
  header_asks (suc (suc (suc zero))) = get_or bs 1 0 ≡ n
  header_asks (suc (suc (suc (suc l)))) = ⊥

  abbrev header_answer : ℕ → Option Refusal
  header_answer zero = Some (WrongLength Nothing)
  header_answer (suc zero) = Some WrongKind
  header_answer (suc (suc zero)) = Some WrongCount
  header_answer (suc (suc (suc zero))) = Some CountsDiffer
  header_answer (suc (suc (suc (suc l)))) = None

  header_level : (r : Option Refusal) → HeaderCheck M n bs r → Level header_asks header_answer r
  header_level _ (entries.no_header short) = record { level = 0; passed = tt; fails = λ long. omega arith; is = refl }
  header_level _ (entries.wrong_kind long other) = record { level = 1; passed = (long, tt); fails = other; is = refl }
  header_level _ (entries.wrong_count long kind none) = record { level = 2; passed = (kind, (long, tt)); fails = none; is = refl }
  header_level _ (entries.counts_differ long kind some other) = record { level = 3; passed = (some, (kind, (long, tt))); fails = other; is = refl }
  header_level _ (entries.accepted long kind count same) =
      record { level = 4; passed = (same, (subst Count (sym same) count, (kind, (long, tt)))); fails = λ no. no; is = refl }

  pub header-one : (r r' : Option Refusal) → HeaderCheck M n bs r → HeaderCheck M n bs r' → r ≡ r'
  header-one r r' x y = one_level header_asks header_answer r r' (header_level r x) (header_level r' y)

module _ (M : FieldModel) (L : FieldLaws M) (n : ℕ) (k : LogRow) (bs : List ℕ) where
  abbrev asks : ℕ → Type 0
  asks zero = Count n
  asks (suc zero) = mark_of bs < 2
  asks (suc (suc zero)) = 1 + map_length_lem n ≤ length bs
  asks (suc (suc (suc zero))) = (b : ℕ) → Stray (map_of bs) n b → ⊥
  asks (suc (suc (suc (suc zero)))) = named_below (map_of bs) n ≢ 0
  asks (suc (suc (suc (suc (suc zero))))) = row_length_lem M n bs ≤ length bs
  asks (suc (suc (suc (suc (suc (suc zero)))))) = (m : ℕ) → Lowest (Faulty M n bs) m → M.size ≤ row_weight M n bs m → ⊥
  asks (suc (suc (suc (suc (suc (suc (suc zero))))))) = (m : ℕ) → Lowest (Faulty M n bs) m → row_weight M n bs m ≡ 0 → ⊥
  asks (suc (suc (suc (suc (suc (suc (suc (suc zero)))))))) = weighted bs ≡ true → plain (row_weight M n bs) n ≡ false
  asks (suc (suc (suc (suc (suc (suc (suc (suc (suc zero))))))))) = row_figure M n bs < M.size
  asks (suc (suc (suc (suc (suc (suc (suc (suc (suc (suc l)))))))))) = ⊥

  abbrev answer : ℕ → Option Refusal
  answer zero = Some WrongCount
  answer (suc zero) = Some (UnknownMark k)
  answer (suc (suc zero)) = Some (WrongLength (OfRow k))
  answer (suc (suc (suc zero))) = Some (StrayMapBit (OfRow k))
  answer (suc (suc (suc (suc zero)))) = Some (NoMemberNamed (OfRow k))
  answer (suc (suc (suc (suc (suc zero))))) = Some (WrongLength (OfRow k))
  answer (suc (suc (suc (suc (suc (suc zero)))))) = Some (NotAnElement (OfRow k))
  answer (suc (suc (suc (suc (suc (suc (suc zero))))))) = Some (StoredZero (OfRow k))
  answer (suc (suc (suc (suc (suc (suc (suc (suc zero)))))))) = Some (NeedlessWeights k)
  answer (suc (suc (suc (suc (suc (suc (suc (suc (suc zero))))))))) = Some (NotAnElement (OfRow k))
  answer (suc (suc (suc (suc (suc (suc (suc (suc (suc (suc l)))))))))) = None

  mapped_all : Mapped n bs → All asks answer 3
  mapped_all mapped = (mapped.whole, (mapped.known, (mapped.count, tt)))

  named_all : Named n bs → All asks answer 5
  named_all named = (named.some_named, (named.no_stray, mapped_all named.mapped))

  framed_all : Framed M n bs → All asks answer 6
  framed_all framed = (framed.rest, named_all framed.named)

  faultless_all : Framed M n bs → ((m : ℕ) → Faulty M n bs m → ⊥) → All asks answer 8
  faultless_all framed none = (λ m low z. none m low.holds, (λ m low p. none m low.holds, framed_all framed))

  weighed_all : Weighed M n bs → All asks answer 9
  weighed_all weighed = (weighed.needed, faultless_all weighed.framed weighed.no_fault)

  -- the lowest fault is a weight of 0, and so no weight past the size
  zero-first : (m : ℕ) → Lowest (Faulty M n bs) m → row_weight M n bs m ≡ 0 → asks 6
  zero-first m low z m' low' past =
      let same = ap (row_weight M n bs) (lowest-one (Faulty M n bs) m m' low low') in
      let some = zero-code M L in
      omega arith

  row_level : (r : Option Refusal) → EntryCheck M n k bs r → Level asks answer r
  row_level _ (entries.wrong_count none) = record { level = 0; passed = tt; fails = none; is = refl }
  row_level _ (entries.unknown_mark count high) = record { level = 1; passed = (count, tt); fails = λ low. omega arith; is = refl }
  row_level _ (entries.map_cut count known cut) = record { level = 2; passed = (known, (count, tt)); fails = λ whole. omega arith; is = refl }
  row_level _ (entries.stray_bit mapped b stray) = record { level = 3; passed = mapped_all mapped; fails = λ none. none b stray; is = refl }
  row_level _ (entries.none_named mapped stray none) = record { level = 4; passed = (stray, mapped_all mapped); fails = λ some. some none; is = refl }
  row_level _ (entries.rest_cut named cut) = record { level = 5; passed = named_all named; fails = λ whole. omega arith; is = refl }
  row_level _ (entries.not_an_element framed m low past) =
      record { level = 6; passed = framed_all framed; fails = λ none. none m low past; is = refl }
  row_level _ (entries.stored_zero framed m low z) =
      record { level = 7; passed = (zero-first m low z, framed_all framed); fails = λ none. none m low z; is = refl }
  row_level _ (entries.needless_weights framed none stored all) =
      record { level = 8; passed = faultless_all framed none; fails = λ needed. both_ways _ (needed stored) all; is = refl }
  row_level _ (entries.no_figure weighed past) = record { level = 9; passed = weighed_all weighed; fails = λ small. omega arith; is = refl }
  row_level _ (entries.accepted weighed small) = record { level = 10; passed = (small, weighed_all weighed); fails = λ no. no; is = refl }

  pub row_one : (r r' : Option Refusal) → EntryCheck M n k bs r → EntryCheck M n k bs r' → r ≡ r'
  row_one r r' x y = one_level asks answer r r' (row_level r x) (row_level r' y)
