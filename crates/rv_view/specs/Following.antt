-- What it takes to follow a run.
use Rattle.std.specs.Prelude.{◌≡◌, ℕ, ◌≤◌, List, length, vec_capacity}
use Rattle.rv_hardware.specs.Hardware.{Hardware}
use Rattle.rv_hardware.specs.declared.step.Step.{Step}
use Rattle.rv_passage.specs.Followed.{HasFollowedCycle, HasFollowedNumbers, IsRoomy}
use Rattle.rv_passage.specs.Table.{CanCount, HasRoom, passages_of, table_at}
use Rattle.rv_passage.specs.declared.table.Table.{Table}
use Rattle.rv_view.specs.declared.following.Following.{Following}

-- a table begins with what is in flight in the hardware, and has room for two cycles
pub record BeginsAt (h : Hardware) (table : Table) : Type 0 where
  pub passages : passages_of table ≡ table_at h
  pub few : length (passages_of table).rows ≤ 288
  pub room : IsRoomy table

-- such a table, and room for the steps of a cycle
pub record FollowsFrom (h : Hardware) (following : Following) : Type 0 where
  pub table : BeginsAt h following.table
  pub steps : 8 ≤ vec_capacity following.steps

-- a table can follow a cycle with these steps
pub record CanFollowCycle (steps : List Step) (table : Table) : Type 0 where
  pub room : HasRoom table
  pub countable : CanCount (passages_of table)
  pub few : length steps ≤ 8

-- a table after a cycle with these steps, which left the hardware
abbrev pub IsFollowedOn : ℕ → List Step → Hardware → Table → Table → Type 0
IsFollowedOn cycle steps after old new = HasFollowedCycle cycle steps after.rob after.front after.pc old new

-- one that knows by their numbers which instructions are in flight after it
abbrev pub IsNumberedOn : ℕ → List Step → Hardware → Table → Table → Type 0
IsNumberedOn cycle steps after old new = HasFollowedNumbers cycle steps after.rob after.front after.pc old new
