-- The buffers of a job before it begins. Assumes nothing.
use Rattle.std.proofs.Common.{◌≡◌, ◌∙◌, ap, ℕ, List, length, take, arith}
use Rattle.std.proofs.lemmas.List.{length-replicate, take-replicate}
use Rattle.survey_job.specs.Buffers.{zeros, zeros_and_line}

pub blank-length : (xs : List ℕ) → xs ≡ zeros_and_line → length xs ≡ 65580
unfolding zeros_and_line
blank-length xs blank = ap length blank ∙ length-replicate {A = ℕ} 65580 0

-- what of it is lent for the answers
pub front_blank : (xs : List ℕ) → xs ≡ zeros_and_line → take 65536 xs ≡ zeros
unfolding zeros zeros_and_line
front_blank xs blank = ap (take 65536) blank ∙ take-replicate 65536 65580 0 (omega arith)
