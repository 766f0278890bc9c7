-- The waits of instructions between two stages, in cycles.
use Rattle.std.specs.Prelude.{ℕ, ◌+◌, max, List, [], ◌∷◌, length, sum, Option, Some, None}

-- how many there were, their sum, and the greatest
pub record Waited : Type 0 where
  pub count : ℕ
  pub total : ℕ
  pub most : ℕ

-- the greatest of some numbers, 0 of none
abbrev pub greatest : List ℕ → ℕ
greatest [] = 0
greatest (number ∷ numbers) = max number (greatest numbers)

-- some waits
abbrev pub waited : List ℕ → Waited
waited waits = record { count = length waits; total = sum waits; most = greatest waits }

-- one more wait, if there was one
abbrev pub with_wait : Option ℕ → Waited → Waited
with_wait None wait = wait
with_wait (Some cycles) wait =
    record { count = wait.count + 1; total = wait.total + cycles; most = max cycles wait.most }
