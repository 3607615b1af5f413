-- A log that is read row by row, and written again. Assumes nothing.
use Rattle.std.proofs.Common.{◌≡◌, ℕ, ◌+◌, ◌-◌, ◌<◌, ◌≤◌, List, [], ◌∷◌, ◌++◌, length, get_or, take, drop, Some, None, Option, sym, refl, ap, ◌∙◌, subst, ap₂, inl, ⊎_elim, arith}
use borrow.Rule.Slice.PartMut.{put_mid}
use Rattle.std.proofs.lemmas.List.{drop-drop, drop_more, length-append, length-drop, length-take-le, get_or-take, get_or-drop}
use Rattle.std.proofs.lemmas.Slice.{drop-append-drop}
use Rattle.std.proofs.lemmas.Bool.{both_ways, cases_Bool, cases_lt}
use Rattle.refusal.specs.declared.Refusal.{Refusal}
use Rattle.refusal.specs.declared.LogRow.{LogRow}
use Rattle.field.specs.Model.{FieldModel, FieldLaws}
use Rattle.field.specs.Sums.{Vector, Codes, weights_of}
use Rattle.field.specs.declared.Element.{Element}
use Rattle.field.proofs.Zero.{zero-code}
use Rattle.server.specs.Checks.{Count}
use Rattle.member_map.specs.Maps.{named}
use Rattle.checks.proofs.Weights.{past_end}
use Rattle.answer_log.specs.Rows.{header_bytes, row_bytes}
use Rattle.answer_log.specs.Entries.{map_of, row_length_lem, row_weight, Faulty, EntryCheck, wrong_count, unknown_mark, map_cut, stray_bit, none_named, rest_cut, not_an_element, stored_zero, needless_weights, no_figure, accepted, Reads, RowAt, HeaderCheck}
use Rattle.answer_log.specs.Writes.{HeaderWrite, wrong_count as no-count, log_full as no_room}
use Rattle.buffer.specs.Buffers.{onto, Put, Front}
use Rattle.answer_log.specs.Logs.{RowsCheck, no_more, bad_row, next_row, LogCheck, rows}
use Rattle.answer_log.proofs.Elements.{take-parts}
use Rattle.buffer.proofs.Fronts.{front_more}
use Rattle.answer_log.proofs.Again.{unnamed_weight, again}

-- a row that is accepted is not refused
pub excluded : (M : FieldModel) (n : ℕ) (k : LogRow) (bs : List ℕ) (e : Refusal) → EntryCheck M n k bs None → EntryCheck M n k bs (Some e) → ⊥
excluded M n k bs _ (accepted fine below) (wrong_count none) = none fine.framed.named.mapped.count
excluded M n k bs _ (accepted fine below) (unknown_mark count high) = let known = fine.framed.named.mapped.known in omega arith
excluded M n k bs _ (accepted fine below) (map_cut count known cut) = let whole = fine.framed.named.mapped.whole in omega arith
excluded M n k bs _ (accepted fine below) (stray_bit mapped b stray) = fine.framed.named.no_stray b stray
excluded M n k bs _ (accepted fine below) (none_named mapped stray none) = fine.framed.named.some_named none
excluded M n k bs _ (accepted fine below) (rest_cut named cut) = let rest = fine.framed.rest in omega arith
excluded M n k bs _ (accepted fine below) (not_an_element framed m low past) = fine.no_fault m low.holds
excluded M n k bs _ (accepted fine below) (stored_zero framed m low zero) = fine.no_fault m low.holds
excluded M n k bs _ (accepted fine below) (needless_weights framed none stored all) = both_ways _ (fine.needed stored) all
excluded M n k bs _ (accepted fine below) (no_figure weighed past) = omega arith

pub row_count : (M : FieldModel) (n : ℕ) (k : LogRow) (bs : List ℕ) → EntryCheck M n k bs None → n ≤ 64
row_count M n k bs (accepted fine below) = fine.framed.named.mapped.count.1

-- the figure of a row that was read is an element
pub read_figure :
    (M : FieldModel) (n : ℕ) (k : LogRow) (bs : List ℕ) (w : Vector) (f size : ℕ) → Reads M n k bs w f size → f < M.size
read_figure M n k bs w f size r = go r.check
  where
    go : EntryCheck M n k bs None → f < M.size
    go (accepted fine below) = rw r.figure below

-- every weight of a row without faults is an element
pub weight-below :
    (M : FieldModel) (n : ℕ) (bs : List ℕ) → FieldLaws M → ((m : ℕ) → Faulty M n bs m → ⊥) → (m : ℕ) → m < n
    → row_weight M n bs m < M.size
weight-below M n bs L none m h =
    ⊎_elim
    (λ e. ⊎_elim (λ l. l) (λ p. absurd (none m (h, e, inl p))) (cases_lt (row_weight M n bs m) M.size))
    (λ e. rw (unnamed_weight M n bs m e) (zero-code M L))
    (cases_Bool (named (map_of bs) m))

module _ (M : FieldModel) (n k : ℕ) (bytes : List ℕ) (at : ℕ) where
  -- what is left behind a row
  left_behind :
      (w : Vector) (f next : ℕ) → RowAt M n (record { 0 = k }) bytes at w f next
      → drop (row_length_lem M n (drop at bytes)) (drop at bytes) ≡ drop next bytes
  left_behind w f next r =
      let on = r.on in
      let size = r.reads.whole in
      drop-drop (row_length_lem M n (drop at bytes)) at bytes ∙ ap (λ i. drop i bytes) (omega arith)

  -- one row more, as a log is read forwards
  pub row_passed :
      (w : Vector) (f next : ℕ) → at < length bytes → RowAt M n (record { 0 = k }) bytes at w f next → (r : Option Refusal)
      → RowsCheck M n (k + 1) (drop next bytes) r → RowsCheck M n k (drop at bytes) r
  row_passed w f next h row r rest =
      next_row k (drop at bytes) r (rw length-drop (omega arith)) row.reads.check
      (subst (λ (bs : List ℕ). RowsCheck M n (k + 1) bs r) (sym (left_behind w f next row)) rest)

  pub row-refused :
      at < length bytes → (e : Refusal) → EntryCheck M n (record { 0 = k }) (drop at bytes) (Some e)
      → RowsCheck M n k (drop at bytes) (Some e)
  row-refused h e bad = bad_row k (drop at bytes) e (rw length-drop (omega arith)) bad

  pub rows_done : length bytes ≤ at → RowsCheck M n k (drop at bytes) None
  rows_done h = no_more k (drop at bytes) (rw length-drop (omega arith))

  -- one row of a log that is in order
  pub row_fine : at < length bytes → RowsCheck M n k (drop at bytes) None → EntryCheck M n (record { 0 = k }) (drop at bytes) None
  row_fine h (no_more _ _ none) = absurd (omega (arith, length-drop at bytes))
  row_fine h (next_row _ _ _ some fine rest) = fine

  pub rows_left :
      (w : Vector) (f next : ℕ) → at < length bytes → RowAt M n (record { 0 = k }) bytes at w f next
      → RowsCheck M n k (drop at bytes) None → RowsCheck M n (k + 1) (drop next bytes) None
  rows_left w f next h row (no_more _ _ none) = absurd (omega (arith, length-drop at bytes))
  rows_left w f next h row (next_row _ _ _ some fine rest) =
      subst (λ (bs : List ℕ). RowsCheck M n (k + 1) bs None) (left_behind w f next row) rest

-- a row of a log that is read, cut to its count, and written again
module _ (M : FieldModel) (L : FieldLaws M) (n : ℕ) (k : LogRow) (bytes : List ℕ) (fit : (i : ℕ) → get_or bytes i 0 < 256)
    (at : ℕ) (ws : List Element) (f next : ℕ) (row : RowAt M n k bytes at (weights_of ws) f next) (long : n ≤ length ws) where
  cut_length : length (take n ws) ≡ n
  cut_length = length-take-le n ws long

  cut_weight : (m : ℕ) → m < n → weights_of (take n ws) m ≡ weights_of ws m
  cut_weight m h = ap (λ e. e.0) (get_or-take n ws m (record { 0 = 0 }) h)

  pub cut_reads : Reads M n k (drop at bytes) (weights_of (take n ws)) f (next - at)
  cut_reads =
      let r = row.reads in
      record {
        check = r.check;
        weights = λ m h. cut_weight m h ∙ r.weights m h;
        none_past = λ m h. past_end (take n ws) m (omega (arith, cut_length));
        figure = r.figure;
        whole = r.whole;
      }

  -- the bytes of the row are those that it was read from
  pub cut_same : row_bytes M (length (take n ws)) (weights_of (take n ws)) f ≡ take (next - at) (drop at bytes)
  cut_same =
      ap (λ i. row_bytes M i (weights_of (take n ws)) f) cut_length
      ∙ sym (again M n k (drop at bytes) (λ i. rw get_or-drop (fit (at + i))) (weights_of (take n ws)) f (next - at) cut_reads)

  pub cut_size : length (row_bytes M (length (take n ws)) (weights_of (take n ws)) f) ≡ next - at
  cut_size =
      let on = row.on in
      let within = row.within in
      let rest = length-drop at bytes in
      ap length cut_same ∙ length-take-le (next - at) (drop at bytes) (omega arith)

  pub cut_figure : f < M.size
  cut_figure = read_figure M n k (drop at bytes) (weights_of ws) f (next - at) row.reads

  pub cut_codes : Codes M (length (take n ws)) (weights_of (take n ws))
  cut_codes m h = let inside : m < n = rw cut_length at h in rw (cut_weight m inside, row.reads.weights m inside) (go row.reads.check inside)
    where
      go : EntryCheck M n k (drop at bytes) None → m < n → row_weight M n (drop at bytes) m < M.size
      go (accepted fine below) l = weight-below M n (drop at bytes) L fine.no_fault m l

  pub cut_few : length (take n ws) ≤ 64
  cut_few = go row.reads.check
    where
      go : EntryCheck M n k (drop at bytes) None → length (take n ws) ≤ 64
      go (accepted fine below) = let count = fine.framed.named.mapped.count in omega (arith, cut_length)

  -- the buffer holds the log's bytes up to the row, and then up to the next
  pub cut_put :
      (o xs ys : List ℕ) → Front o xs (take at bytes) at → length bytes ≤ length o
      → ys ≡ onto (row_bytes M (length (take n ws)) (weights_of (take n ws)) f) (take (length xs - at) (drop at xs))
      → Front o (put_mid at (length xs - at) xs ys) (take next bytes) next
  cut_put o xs ys front room is =
      let bytes' = row_bytes M (length (take n ws)) (weights_of (take n ws)) f in
      let on = row.on in
      let within = row.within in
      let size = cut_size in
      let far : at + length bytes' ≡ next = omega arith in
      let whole : take at bytes ++ bytes' ≡ take next bytes =
      ap (λ us. take at bytes ++ us) cut_same ∙ sym (take-parts at (next - at) bytes) ∙ ap (λ i. take i bytes) (omega arith) in
      let more = front_more o xs (take at bytes) at front bytes' ys (length bytes') is refl (omega arith) in
      record {
        buffer = more.buffer ∙ ap₂ (λ us i. us ++ drop i o) whole far;
        size = sym (ap length whole) ∙ more.size ∙ far;
        within = omega arith;
      }

-- the parts of a log that is in order
pub header_of : (M : FieldModel) (n : ℕ) (bs : List ℕ) → LogCheck M n bs None → HeaderCheck M n bs None
header_of M n bs (rows _ header rest) = header

pub rows_of : (M : FieldModel) (n : ℕ) (bs : List ℕ) → LogCheck M n bs None → RowsCheck M n 0 (drop 2 bs) None
rows_of M n bs (rows _ header rest) = rest

-- a header for a count of members is written where there is room
pub write_excluded : (n room : ℕ) (e : Refusal) → Count n → 2 ≤ room → HeaderWrite n room (Some e) → ⊥
write_excluded n room _ count h (no-count none) = none count
write_excluded n room _ count h (no_room some full) = omega arith

module _ (M : FieldModel) (n : ℕ) (bytes : List ℕ) where
  pub header_long : HeaderCheck M n bytes None → 2 ≤ length bytes
  header_long (accepted long kind count same) = long

  pub header-same : HeaderCheck M n bytes None → take 2 bytes ≡ header_bytes M n
  header-same (accepted long kind count same) =
      ap (take 2) (drop_more bytes 0 0 (omega arith) ∙ ap (λ us. get_or bytes 0 0 ∷ us) (drop_more bytes 1 0 (omega arith)))
      ∙ ap₂ (λ x y. x ∷ y ∷ []) kind same

  pub count_accepted : HeaderCheck M n bytes None → Count n
  count_accepted (accepted long kind count same) = count

  module _ (header : HeaderCheck M n bytes None) (o out : List ℕ) (k : ℕ) (put : Put (header_bytes M n) o out k)
      (room : length bytes ≤ length o) where
    -- the header stands at the front of the buffer
    pub header-front : Front out out (take 2 bytes) 2
    header-front =
        let long = header_long header in
        let rest : drop 2 out ≡ drop 2 o = ap (drop 2) put.buffer in
        let all : out ≡ take 2 bytes ++ drop 2 out =
        put.buffer ∙ ap₂ (λ us vs. us ++ vs) (sym (header-same header)) (sym rest) in
        let size = length-take-le 2 bytes long in
        let whole = ap length all ∙ length-append (take 2 bytes) (drop 2 out) in
        record { buffer = all; size = size; within = omega arith }

    -- and what is left of the buffer behind the log is as it was
    pub log_put : (after : List ℕ) → after ≡ onto bytes out → Put bytes o after (length bytes)
    log_put after is =
        record {
          count = refl;
          buffer =
              is
              ∙ ap (λ us. bytes ++ us)
              (ap (drop (length bytes)) put.buffer
              ∙ drop-append-drop 2 o (header_bytes M n) (length bytes) (header_long header) refl);
        }

    pub header-kept : length out ≡ length o
    header-kept =
        let long = header_long header in
        let all = ap length put.buffer ∙ length-append (header_bytes M n) (drop 2 o) in
        let rest = length-drop 2 o in
        omega arith
