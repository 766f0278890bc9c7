-- What the bimodal predictor keeps.
use Rattle.std.specs.Prelude.{ℕ, List, replicate, Option, None}

-- a counter from 0 to 3 for each place, and the last target that a register led to from there
pub record Tables : Type 0 where
  pub counters : List ℕ
  pub targets : List (Option ℕ)

-- new tables, in which each counter is 1 and no target is known
abbrev pub untaught : ℕ → Tables
untaught entries = record { counters = replicate entries 1; targets = replicate entries None }
