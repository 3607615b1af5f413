-- Cases worked by hand, of the definitions that the contracts of the code cite.
--   weighing ws             the row with these weights
--   answered_row ws k f es  that row is granted permit k and answered with f, and then the events es come
--   wages, two_answered     over amounts: a table, and the events of two answered rows
--   after_two, two_rows     the state that these lead to, and the record then
--   shifts, three_answered, after_three   over ticks: a table, the events of three answered rows, and the state then
--   file_bytes              a table file
--   WorkedCases             the cases
-- Events have the oldest first; the rows given in a state, the newest. Assumes nothing.
use Rattle.std.specs.Prelude.{◌≡◌, ℕ, List, [], ◌∷◌, map, None}
use Rattle.refusal.specs.declared.Refusal.TheVariants.{Discloses}
use Rattle.refusal.specs.declared.Site.TheVariants.{OfMember}
use Rattle.field.specs.Sums.{sum, weights_of}
use Rattle.field.specs.declared.Element.{Element}
use Rattle.amounts.specs.Prime.{amounts}
use Rattle.ticks.specs.Polynomials.{ticks_field}
use Rattle.echelon.specs.Rows.{given_row}
use Rattle.echelon.specs.Reduced.{Pivoted, ReducedForm}
use Rattle.server.specs.Tables.{value_at}
use Rattle.law.specs.States.{State, new_state, submits, Event, refused, permitted, answered, witnessed}
use Rattle.law.specs.Law.{Due, Lawful}
use Rattle.table_file.specs.Files.{file_table, FileCheck}
use Rattle.answer_log.specs.Rows.{header_bytes, row_bytes}

abbrev pub weighing : List ℕ → List Element
weighing ws = map (λ w. record { 0 = w }) ws

abbrev pub answered_row : List ℕ → ℕ → ℕ → List Event → List Event
answered_row ws k f es = permitted (weighing ws) k ∷ answered k f ∷ es

abbrev pub wages : List ℕ
wages = 120 ∷ 95 ∷ 70 ∷ []

abbrev pub two_answered : List Event
two_answered = answered_row (1 ∷ 1 ∷ 0 ∷ []) 1 215 (answered_row (0 ∷ 1 ∷ 1 ∷ []) 2 165 [])

abbrev pub after_two : State
after_two = record {
  table = wages;
  given = given_row (weighing (0 ∷ 1 ∷ 1 ∷ [])) 165 ∷ given_row (weighing (1 ∷ 1 ∷ 0 ∷ [])) 215 ∷ [];
  pending = None;
  issued = 2;
}

abbrev pub two_rows : List Pivoted
two_rows =
    record { pivot = 0; weights = value_at (1 ∷ 0 ∷ 65520 ∷ []); figure = 50 }
    ∷ record { pivot = 1; weights = value_at (0 ∷ 1 ∷ 1 ∷ []); figure = 165 } ∷ []

abbrev pub shifts : List ℕ
shifts = 12 ∷ 10 ∷ 7 ∷ []

abbrev pub three_answered : List Event
three_answered =
    answered_row (1 ∷ 1 ∷ 0 ∷ []) 1 6 (answered_row (0 ∷ 1 ∷ 1 ∷ []) 2 13 (answered_row (1 ∷ 0 ∷ 1 ∷ []) 3 11 []))

abbrev pub after_three : State
after_three = record {
  table = shifts;
  given =
      given_row (weighing (1 ∷ 0 ∷ 1 ∷ [])) 11 ∷ given_row (weighing (0 ∷ 1 ∷ 1 ∷ [])) 13
      ∷ given_row (weighing (1 ∷ 1 ∷ 0 ∷ [])) 6 ∷ [];
  pending = None;
  issued = 3;
}

abbrev pub file_bytes : List ℕ
file_bytes = 0x01 ∷ 0x03 ∷ 0x05 ∷ 0x00 ∷ 0x78 ∷ 0x00 ∷ 0x46 ∷ []

pub record WorkedCases : Type 0 where
  -- amounts, modulo 65521
  pub inverse_of_2 : amounts.inverse 2 ≡ 32761
  pub past_the_size : amounts.plus 65520 2 ≡ 1
  -- ticks, modulo the polynomial
  pub past_a_byte : ticks_field.times 2 128 ≡ 27
  pub inverse_of_3 : ticks_field.inverse 3 ≡ 246
  -- the two rows over amounts, their figures, and the record that they leave
  pub sum_of_0_1 : sum amounts 3 (weights_of (weighing (1 ∷ 1 ∷ 0 ∷ []))) (value_at wages) ≡ 215
  pub sum_of_1_2 : sum amounts 3 (weights_of (weighing (0 ∷ 1 ∷ 1 ∷ []))) (value_at wages) ≡ 165
  pub two_are_answered : Lawful amounts (new_state wages) two_answered after_two
  pub record_of_the_two : ReducedForm amounts 3 after_two.given two_rows
  -- then a third is refused as disclosing member 0, and any value stays possible
  pub third_refused :
      Due amounts after_two (refused (submits (weighing (1 ∷ 0 ∷ 1 ∷ []))) (Discloses (OfMember (record { 0 = 0 }))))
  pub witness_of_0 : Due amounts after_two (witnessed 0 0 3 (0 ∷ 215 ∷ 65471 ∷ []))
  pub witness_of_70 : Due amounts after_two (witnessed 2 70 3 (120 ∷ 95 ∷ 70 ∷ []))
  -- over ticks the third is the sum of the two, so it is answered, and all three members together are refused
  pub three_are_answered : Lawful ticks_field (new_state shifts) three_answered after_three
  pub all_refused :
      Due ticks_field after_three (refused (submits (weighing (1 ∷ 1 ∷ 1 ∷ []))) (Discloses (OfMember (record { 0 = 0 }))))
  -- a table file of amounts
  pub file_means : file_table amounts file_bytes ≡ 120 ∷ 0 ∷ 70 ∷ []
  pub file_accepted : FileCheck amounts file_bytes None
  -- a log of amounts: its header, two plain rows, and a row with weights
  pub log_header : header_bytes amounts 3 ≡ 0x01 ∷ 0x03 ∷ []
  pub log_row_0_1 : row_bytes amounts 3 (value_at (1 ∷ 1 ∷ 0 ∷ [])) 215 ≡ 0x00 ∷ 0x03 ∷ 0x00 ∷ 0xD7 ∷ []
  pub log_row_1_2 : row_bytes amounts 3 (value_at (0 ∷ 1 ∷ 1 ∷ [])) 165 ≡ 0x00 ∷ 0x06 ∷ 0x00 ∷ 0xA5 ∷ []
  pub log_row_weighted :
      row_bytes amounts 3 (value_at (2 ∷ 2 ∷ 0 ∷ [])) 430 ≡ 0x01 ∷ 0x03 ∷ 0x00 ∷ 0x02 ∷ 0x00 ∷ 0x02 ∷ 0x01 ∷ 0xAE ∷ []
