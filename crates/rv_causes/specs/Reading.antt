-- What is read of a cycle, and of the hardware that it left.
use Rattle.std.specs.Prelude.{ℕ, List}
use Rattle.rv_isa.specs.declared.{values.Values.Values}
use Rattle.rv_hardware.specs.Hardware.{Hardware}
use Rattle.rv_hardware.specs.declared.step.Step.{Step}
use Rattle.rv_passage.specs.declared.passage.Passage.{Passage}
use Rattle.rv_rob.specs.ReorderBuffer.{ReorderBuffer}
use Rattle.rv_causes.specs.Before.{facts_of}
use Rattle.rv_causes.specs.declared.{before.Facts.Facts, cycle.After.After, cycle.Cycle.Cycle}

-- what the hardware shows of its stores and its port after a cycle, and its reorder buffer
pub record HardwareRead : Type 0 where
  pub facts : Facts
  pub rob : ReorderBuffer

-- of the hardware itself
abbrev pub read_of : Hardware → HardwareRead
read_of h = record { facts = facts_of h; rob = h.rob }

-- of what was handed over
abbrev pub after_of : After → HardwareRead
after_of after = record { facts = after.facts; rob = after.rob.now }

-- the number of a cycle, and how many there were before it; what the description says; the instructions as they stand
-- at its end; its steps; and what is read after it
pub record CycleRead : Type 0 where
  pub number : ℕ
  pub elapsed : ℕ
  pub values : Values
  pub rows : List Passage
  pub steps : List Step
  pub after : HardwareRead

abbrev pub cycle_of : Cycle → CycleRead
cycle_of cycle = record {
  number = cycle.number;
  elapsed = cycle.elapsed;
  values = cycle.values.now;
  rows = cycle.rows.now;
  steps = cycle.steps.now;
  after = after_of cycle.after;
}
