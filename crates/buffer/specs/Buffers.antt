-- Bytes written to the front of a lent buffer.
--   onto bytes buffer            the buffer with the bytes written to its front
--   Put bytes before after k     the k bytes stand at the front of the buffer, and the rest of it is as it was
--   Writes bytes before after r  r is how many bytes were put; none, with nothing written, exactly where they do not fit
--   Front o xs done a            the same, on the way: what is written so far
-- Assumes nothing.
use Rattle.std.specs.Prelude.{◌≡◌, ℕ, ◌<◌, ◌≤◌, List, ◌++◌, length, drop, Option, MatchOption}

abbrev pub onto : List ℕ → List ℕ → List ℕ
onto bytes buffer = bytes ++ drop (length bytes) buffer

pub record Put (bytes before after : List ℕ) (k : ℕ) : Type 0 where
  pub count : k ≡ length bytes
  pub buffer : after ≡ onto bytes before

abbrev pub Writes : List ℕ → List ℕ → List ℕ → Option ℕ → Type 0
Writes bytes before after r =
    MatchOption r ((length before < length bytes) × (after ≡ before))
    (λ k. (length bytes ≤ length before) × Put bytes before after k)

pub record Front (o xs done : List ℕ) (a : ℕ) : Type 0 where
  pub buffer : xs ≡ done ++ drop a o
  pub size : length done ≡ a
  pub within : a ≤ length o
