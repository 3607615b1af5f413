use Rattle.std.proofs.Common.{refl}
use Rattle.worked_cases.proofs.Operations.{inverse_of_2, past_the_size, past_a_byte, inverse_of_3}
use Rattle.worked_cases.proofs.Amounts.{sum_of_0_1, sum_of_1_2, two_are_answered, record_of_the_two, third_refused, witness_of_0, witness_of_70}
use Rattle.worked_cases.proofs.Ticks.{three_are_answered, all_refused}
use Rattle.worked_cases.proofs.Bytes.{file_means, file_accepted, log_row_0_1, log_row_1_2, log_row_weighted}
use Rattle.worked_cases.proofs.worked_cases.Goals as goal

pub returns : goal.returns
returns c = record {
  inverse_of_2 = inverse_of_2;
  past_the_size = past_the_size;
  past_a_byte = past_a_byte;
  inverse_of_3 = inverse_of_3;
  sum_of_0_1 = sum_of_0_1;
  sum_of_1_2 = sum_of_1_2;
  two_are_answered = two_are_answered;
  record_of_the_two = record_of_the_two;
  third_refused = third_refused;
  witness_of_0 = witness_of_0;
  witness_of_70 = witness_of_70;
  three_are_answered = three_are_answered;
  all_refused = all_refused;
  file_means = file_means;
  file_accepted = file_accepted;
  log_header = refl;
  log_row_0_1 = log_row_0_1;
  log_row_1_2 = log_row_1_2;
  log_row_weighted = log_row_weighted;
}
