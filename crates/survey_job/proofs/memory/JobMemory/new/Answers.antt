-- Answers for `JobMemory::new`: a byte is its own clone.
use Rattle.std.proofs.Common.{◌≡◌, ℕ, replicate, vec_items}
use Rattle.survey_job.specs.Buffers.{zeros, zeros_and_line}
use Rattle.survey_job.proofs.memory.JobMemory.new.Goals as goal

pub invariant_of-result : goal.invariant_of-result
unfolding zeros zeros_and_line
invariant_of-result c =
    let printed : ((y : ℕ) → y ≡ 0 → y ≡ 0) → vec_items c.in_ok-printed.printed ≡ replicate 65580 0 =
    search (c.in_ok-printed.ensures.items_if_clones_equal) in
    let log : ((y : ℕ) → y ≡ 0 → y ≡ 0) → vec_items c.in_ok-log.log ≡ replicate 65536 0 =
    search (c.in_ok-log.ensures.items_if_clones_equal) in
    record { blank = printed (λ y e. e); blank_log = log (λ y e. e) }
