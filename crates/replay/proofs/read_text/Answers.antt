use Rattle.std.proofs.Common.{◌≡◌, take, IfSome, ℕ, List, [], ◌++◌, Option, Some, None, option_map, ap, subst, ◌∙◌, arith}
use Rattle.replay.proofs.read_text.Goals as goal

-- Of known bytes those up to the limit are read.
first : (known : Option (List ℕ)) (limit : ℕ) (before read : List ℕ) → limit ≡ 65537 → before ≡ []
    → IfSome (option_map (take limit) known) (λ xs. read ≡ before ++ xs) → IfSome known (λ all. read ≡ take 65537 all)
first None limit before read most none bytes = tt
first (Some all) limit before read most none bytes = bytes ∙ ap (λ b. b ++ take limit all) none ∙ ap (λ n. take n all) most

-- src/main.rt:24:1
pub returns : goal.returns
returns g c = first (g.R.Read.remaining c.args.input) c.take.result.limit c.new-text.result.items c.read_to_end.new.buf.items (omega (arith, c.take.ensures.limit)) c.new-text.ensures.items (subst (λ r. IfSome (option_map (take c.take.result.limit) (g.R.Read.remaining r)) (λ xs. c.read_to_end.new.buf.items ≡ c.new-text.result.items ++ xs)) c.take.ensures.inner c.in_ok-read_to_end.ensures.bytes)
