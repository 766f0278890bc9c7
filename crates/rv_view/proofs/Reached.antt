-- The hardware that a run leaves is one that a reset and cycles lead to.
use Rattle.std.proofs.Common.{◌^◌, ◌≤◌, List, arith}
use Rattle.rv_isa.specs.declared.lines.Arrival.{Arrival}
use Rattle.rv_hardware.specs.Guided.{GuidedHardware}
use Rattle.rv_hardware.specs.History.{History, Moment, cycled, ended}
use Rattle.rv_hardware.specs.Run.{Reachable, by_cycle}
use Rattle.rv_hardware.proofs.AnyPrediction.{any_cycle}
use Rattle.rv_watch.proofs.Shown.{cycle_counts, moments_counted}

-- it is so of what the cycles of a history leave, where there are no more than a run may have
pub reached_by : {arrivals : List Arrival} {old new : GuidedHardware} {moments : List Moment} → Reachable old.hardware
    → History arrivals old moments new → new.hardware.cycle ≤ 2 ^ 40 → Reachable new.hardware
reached_by reached ended within = reached
reached_by reached (cycled cycle rest) within =
    reached_by (by_cycle reached (omega (arith, within, cycle_counts cycle, moments_counted rest))
    (any_cycle cycle.cycle)) rest
    within
