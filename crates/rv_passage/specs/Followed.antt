-- A table that follows a run, and a cycle of it.
use Rattle.std.specs.Prelude.{◌≡◌, ℕ, ◌+◌, ◌*◌, ◌≤◌, List, length, vec_capacity}
use Rattle.rv_front.specs.FetchBuffer.{FetchBuffer}
use Rattle.rv_rob.specs.ReorderBuffer.{ReorderBuffer}
use Rattle.rv_hardware.specs.Hardware.{Hardware}
use Rattle.rv_hardware.specs.History.{Moment}
use Rattle.rv_hardware.specs.declared.step.Step.{Step}
use Rattle.rv_passage.specs.Numbers.{numbers_of}
use Rattle.rv_passage.specs.Table.{AreShort, CanCount, HasRoom, Passages, after_steps, passages_of, still_open}
use Rattle.rv_passage.specs.Walk.{passages_after}
use Rattle.rv_passage.specs.declared.table.Table.{Table}

-- a table can follow a cycle with these steps, which led to these buffers
pub record CanFollow (steps : List Step) (rob : ReorderBuffer) (front : FetchBuffer) (table : Table) : Type 0 where
  pub short : AreShort rob front
  pub room : HasRoom table
  pub countable : CanCount (passages_of table)
  pub few : length steps ≤ 8

-- a table after a cycle with these steps, which led to these buffers and to a pc; its room is the same, and at most so
-- much is counted
pub record HasFollowedCycle (cycle : ℕ) (steps : List Step) (rob : ReorderBuffer) (front : FetchBuffer) (pc : ℕ)
    (old new : Table) : Type 0 where
  pub followed : passages_of new ≡ after_steps cycle steps rob front pc (passages_of old)
  pub rows : vec_capacity new.rows ≡ vec_capacity old.rows
  pub interrupts : vec_capacity new.interrupts ≡ vec_capacity old.interrupts
  pub fetched : new.fetched ≤ old.fetched + 288
  pub retired : new.retired ≤ old.retired + 8
  pub few : length (still_open (passages_of new)).rows ≤ 288

-- the same of one that knows by their numbers which instructions are in flight then, and nothing else of them
pub record HasFollowedNumbers (cycle : ℕ) (steps : List Step) (rob : ReorderBuffer) (front : FetchBuffer) (pc : ℕ)
    (old new : Table) : Type 0 where
  pub followed : numbers_of (passages_of new) ≡
      numbers_of (still_open (after_steps cycle steps rob front pc (passages_of old)))
  pub rows : vec_capacity new.rows ≡ vec_capacity old.rows
  pub interrupts : vec_capacity new.interrupts ≡ vec_capacity old.interrupts
  pub fetched : new.fetched ≤ old.fetched + 288
  pub retired : new.retired ≤ old.retired + 8
  pub few : length (passages_of new).rows ≤ 288
  pub quiet : length (passages_of new).interrupts ≡ 0

-- a table has the passages that are kept after some cycles, which led from the one hardware to the other, and so many
-- are counted at most
pub record HasFollowed (keep : Passages → Passages) (first : Hardware) (moments : List Moment) (now : Hardware)
    (table : Passages) : Type 0 where
  pub passages : table ≡ passages_after keep first moments
  pub fetched : table.fetched ≤ 288 * (now.cycle + 1)
  pub retired : table.retired ≤ 8 * now.cycle

-- a table that keeps room for a cycle, since it forgets what left the hardware
pub record IsRoomy (table : Table) : Type 0 where
  pub room : HasRoom table
  pub rows : 576 ≤ vec_capacity table.rows
  pub interrupts : 8 ≤ vec_capacity table.interrupts

-- a table has what is in flight after some cycles, and room for a further one
pub record HasOpen (first : Hardware) (moments : List Moment) (now : Hardware) (table : Table) : Type 0 where
  pub followed : HasFollowed still_open first moments now (passages_of table)
  pub few : length (passages_of table).rows ≤ 288
  pub room : IsRoomy table
