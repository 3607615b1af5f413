-- The table file and the log. Assumes nothing.
use Rattle.std.proofs.Common.{◌≡◌, ℕ, zero, suc, ◌<◌, ◌≤◌, false, [], ◌∷◌, None, sym, refl, ◌∙◌, inl, inr, arith, lit≤}
use borrow.Author.Tests.{clash}
use Rattle.amounts.specs.Prime.{amounts}
use Rattle.server.specs.Tables.{value_at}
use Rattle.member_map.specs.Maps.{named, named_below}
use Rattle.table_file.specs.Files.{map_of, file_table, Framed, Faulty, FileCheck}
use Rattle.table_file.specs.Files as files
use Rattle.answer_log.specs.Rows.{bits, map_bytes, plain, weight_bytes, row_bytes}
use Rattle.worked_cases.specs.Cases.{file_bytes}

pub file_means : file_table amounts file_bytes ≡ 120 ∷ 0 ∷ 70 ∷ []
unfolding named_below
file_means = refl

clear : (b : ℕ) → 3 ≤ b → b < 8 → named (map_of file_bytes) b ≡ false
clear zero low high = absurd (omega arith)
clear (suc zero) low high = absurd (omega arith)
clear (suc (suc zero)) low high = absurd (omega arith)
clear (suc (suc (suc zero))) low high = refl
clear (suc (suc (suc (suc zero)))) low high = refl
clear (suc (suc (suc (suc (suc zero))))) low high = refl
clear (suc (suc (suc (suc (suc (suc zero)))))) low high = refl
clear (suc (suc (suc (suc (suc (suc (suc zero))))))) low high = refl
clear (suc (suc (suc (suc (suc (suc (suc (suc b)))))))) low high = absurd (omega arith)

framed : Framed amounts file_bytes
unfolding named_below
framed = record {
  mapped = record { headed = record { header = lit≤ tt; kind = refl; count = (lit≤ tt, lit≤ tt) }; whole = lit≤ tt };
  no_stray = λ b stray. clash (sym (clear b stray.0 stray.1) ∙ stray.2);
  exact = refl;
}

no_fault : (m : ℕ) → Faulty amounts file_bytes m → ⊥
unfolding named_below
no_fault zero fault = elim fault.2 [ inl large ↦ absurd (omega arith) | inr same ↦ absurd (omega arith) ]
no_fault (suc zero) fault = clash fault.1
no_fault (suc (suc zero)) fault = elim fault.2 [ inl large ↦ absurd (omega arith) | inr same ↦ absurd (omega arith) ]
no_fault (suc (suc (suc m))) fault = absurd (omega (arith, fault.0))

pub file_accepted : FileCheck amounts file_bytes None
file_accepted = files.accepted framed no_fault

pub log_row_0_1 : row_bytes amounts 3 (value_at (1 ∷ 1 ∷ 0 ∷ [])) 215 ≡ 0x00 ∷ 0x03 ∷ 0x00 ∷ 0xD7 ∷ []
unfolding bits map_bytes plain weight_bytes row_bytes
log_row_0_1 = refl

pub log_row_1_2 : row_bytes amounts 3 (value_at (0 ∷ 1 ∷ 1 ∷ [])) 165 ≡ 0x00 ∷ 0x06 ∷ 0x00 ∷ 0xA5 ∷ []
unfolding bits map_bytes plain weight_bytes row_bytes
log_row_1_2 = refl

pub log_row_weighted :
    row_bytes amounts 3 (value_at (2 ∷ 2 ∷ 0 ∷ [])) 430 ≡ 0x01 ∷ 0x03 ∷ 0x00 ∷ 0x02 ∷ 0x00 ∷ 0x02 ∷ 0x01 ∷ 0xAE ∷ []
unfolding bits map_bytes plain weight_bytes row_bytes
log_row_weighted = refl
