-- What is counted of a run for a comparison.
use Rattle.std.specs.Prelude.{◌≡◌, ℕ, ◌+◌, ◌-◌, ◌*◌, ◌≤◌, List, length, Option}
use Rattle.std.specs.Option.{option_map}
use Rattle.rv_watch.specs.Watching.{Watched}
use Rattle.rv_passage.specs.declared.passage.Passage.{Passage}
use Rattle.rv_counts.specs.Counts.{mispredicted_among, squashed_among}
use Rattle.rv_counts.specs.Left.{passages_of_run}
use Rattle.rv_counts.specs.Places.{AddUp, run_places}
use Rattle.rv_counts.specs.declared.run_places.RunPlaces.{RunPlaces}
use Rattle.rv_hardware.specs.Draining.{drain_end}
use Rattle.rv_hardware.specs.Hardware.{Hardware}
use Rattle.rv_hardware.specs.History.{Moment, reports_of}
use Rattle.rv_hardware.specs.Run.{steps_of}
use Rattle.rv_report.specs.Events.{AreAtMost, events_in, events_so_far}
use Rattle.rv_report.specs.Speculation.{Speculated, speculated_at, speculated_in}
use Rattle.rv_report.specs.Totals.{counts_of}
use Rattle.rv_report.specs.declared.{events.EventCounter.EventCounter}
use Rattle.rv_report.specs.declared.{losses.Losses.Losses, totals.StepCounts.StepCounts}

-- what was fetched, and neither retired nor trapped, nor is in flight at the end, was squashed
abbrev pub losses_with : Speculated → StepCounts → ℕ → Losses
losses_with s counts left = record {
  mispredicted = s.mispredicted;
  squashed = s.fetched - (counts.retired + counts.traps + left);
}

-- what a profile counts of instructions, of all addresses
abbrev pub losses_in : List Passage → Losses
losses_in passages = record {
  mispredicted = mispredicted_among passages;
  squashed = squashed_among passages;
}

-- what cycles lost from some hardware on: so much of all instructions that were in flight or fetched
abbrev pub losses_of : Hardware → List Moment → Losses
losses_of first moments = losses_in (passages_of_run first moments)

-- the cycles so far are counted, and no count is greater than they can make it
pub record IsTallied (counts : StepCounts) (s : Speculated) (events : EventCounter) (seen : Watched) : Type 0 where
  pub counted : counts ≡ counts_of (steps_of (reports_of seen.moments))
  pub speculated : s ≡ speculated_in (speculated_at seen.first.hardware) seen.moments
  pub happened : events ≡ events_so_far seen.first.hardware.values (drain_end seen.now.hardware)
      (events_in seen.first.hardware.values seen.first.hardware seen.moments)
  pub fetched : s.fetched ≤ 32 * seen.now.hardware.cycle + 288
  pub mispredicted : s.mispredicted ≤ 8 * seen.now.hardware.cycle
  pub events_few : AreAtMost (9 * seen.now.hardware.cycle) events.counts
  pub steps_few : length (steps_of (reports_of seen.moments)) ≤ 8 * seen.now.hardware.cycle

-- what became of the places of the cycles so far is counted, where it was at first, and they add up
pub record HasPlaced (start places : Option RunPlaces) (seen : Watched) : Type 0 where
  pub placed : places ≡ option_map (λ begun. run_places seen.first.hardware seen.moments seen.now.hardware) start
  pub places_add_up : AddUp seen.first.hardware seen.moments seen.now.hardware
  pub few_before : length seen.first.hardware.rob.entries ≤ 256
  pub few_in_flight : length seen.now.hardware.rob.entries ≤ 256
