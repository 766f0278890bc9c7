-- What a run did that a table counts beside its cycles: branches and jumps, loads, and the accesses of retired stores
-- to the data cache. What became of an access to the cache is read from its cost.
use Rattle.std.specs.Prelude.{ℕ, ◌+◌, ◌-◌, ◌≤◌, ◌==◌, ◌&&◌, Bool, false, not, nat_lt}
use Rattle.std.specs.Prelude.{if◌then◌else◌, List, [], ◌∷◌, count_by, Option, Some, None}
use Rattle.rv_counts.specs.Load.{costs_of, is_quick, is_slow}
use Rattle.rv_counts.specs.declared.loads.LoadCosts.{LoadCosts}
use Rattle.rv_isa.specs.Instruction.{is_branch_or_jump, is_load}
use Rattle.rv_isa.specs.declared.values.Values.{Values}
use Rattle.rv_decode.specs.Decodes.{instruction_of}
use Rattle.rv_hardware.specs.Draining.{drain_end, new_drain_cost}
use Rattle.rv_hardware.specs.Hardware.{Hardware}
use Rattle.rv_hardware.specs.History.{Moment}
use Rattle.rv_hardware.specs.declared.step.{Execution.Execution, Row.Row, Step.Step}
use Rattle.rv_hardware.specs.declared.step.Step.TheVariants.{Retired, Trap, Interrupt}
use Rattle.rv_report.specs.declared.events.{Event.Event, EventCounter.EventCounter, Events.Events}
use Rattle.rv_report.specs.declared.events.Event.TheVariants.{Branch, Load, Miss, WriteBack}

-- an execution cost neither what a hit does, nor what a load does whose bytes all come from the store queue
abbrev pub is_missed : LoadCosts → Option Execution → Bool
is_missed costs None = false
is_missed costs (Some execution) = not (is_quick costs execution.cost)

-- and more than a miss alone: a dirty line was written back
abbrev pub is_written_back : LoadCosts → Option Execution → Bool
is_written_back costs None = false
is_written_back costs (Some execution) = is_slow costs execution.cost

-- what a retired instruction is
abbrev pub is_of : LoadCosts → Event → Row → Bool
is_of costs Branch row = is_branch_or_jump (instruction_of row.word)
is_of costs Load row = is_load (instruction_of row.word)
is_of costs Miss row = is_missed costs row.execution && is_load (instruction_of row.word)
is_of costs WriteBack row = is_written_back costs row.execution && is_load (instruction_of row.word)

-- such an instruction retires in a step
abbrev pub happens : LoadCosts → Event → Step → Bool
happens costs event (Retired row) = is_of costs event row
happens costs event (Trap pc cause value cycle) = false
happens costs event (Interrupt pc cause cycle) = false

-- nothing
abbrev pub no_events : Events
no_events = record { branches = 0; loads = 0; drains = 0; hits = 0; misses = 0; write_backs = 0 }

-- what some cycles did and what others did
abbrev pub both_events : Events → Events → Events
both_events some others = record {
  branches = some.branches + others.branches;
  loads = some.loads + others.loads;
  drains = some.drains + others.drains;
  hits = some.hits + others.hits;
  misses = some.misses + others.misses;
  write_backs = some.write_backs + others.write_backs;
}

-- none of the counts is above a bound
pub record AreAtMost (most : ℕ) (events : Events) : Type 0 where
  pub branches : events.branches ≤ most
  pub loads : events.loads ≤ most
  pub drains : events.drains ≤ most
  pub hits : events.hits ≤ most
  pub misses : events.misses ≤ most
  pub write_backs : events.write_backs ≤ most

-- what instructions did that retired in some steps; the loads that did not miss are hits
abbrev pub events_of_steps : LoadCosts → List Step → Events
events_of_steps costs steps = record {
  branches = count_by (happens costs Branch) steps;
  loads = count_by (happens costs Load) steps;
  drains = 0;
  hits = count_by (happens costs Load) steps - count_by (happens costs Miss) steps;
  misses = count_by (happens costs Miss) steps;
  write_backs = count_by (happens costs WriteBack) steps;
}

-- what the access did of a retired store to the cache that began in a cycle, by its cost
abbrev pub events_of_drain : LoadCosts → Option ℕ → Events
events_of_drain costs None = no_events
events_of_drain costs (Some cost) = record {
  branches = 0;
  loads = 0;
  drains = 1;
  hits = if cost == costs.hit then 1 else 0;
  misses = if cost == costs.hit then 0 else 1;
  write_backs = if nat_lt costs.clean_miss cost then 1 else 0;
}

-- what a cycle did
abbrev pub events_by : LoadCosts → ℕ → List Step → Option ℕ → Option ℕ → Events
events_by costs cycle steps before after =
    both_events (events_of_steps costs steps) (events_of_drain costs (new_drain_cost cycle before after))

-- one that led from some hardware to other
abbrev pub events_between : Values → Hardware → Moment → Events
events_between values before moment =
    events_by (costs_of values) before.cycle moment.report.steps (drain_end before) (drain_end moment.after)

-- cycles one after another that began with such hardware
abbrev pub events_in : Values → Hardware → List Moment → Events
events_in values h [] = no_events
events_in values h (moment ∷ moments) =
    both_events (events_between values h moment) (events_in values moment.after moments)

-- what is kept of them
abbrev pub events_so_far : Values → Option ℕ → Events → EventCounter
events_so_far values end counts = record { costs = costs_of values; drain_end = end; counts = counts }

-- with one more cycle
abbrev pub counted_after : ℕ → List Step → Option ℕ → EventCounter → EventCounter
counted_after cycle steps end e =
    record e { drain_end = end; counts = both_events e.counts (events_by e.costs cycle steps e.drain_end end) }
