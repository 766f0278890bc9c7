-- The promise is true of every run of hardware that a reset and cycles lead to, where no cycle but the last stops it.
use Rattle.rv_hardware.proofs.Words.{List, Arrival, OnlyLastStops, Hardware, Report, Cycles, Reachable, seen}
use Rattle.rv_hardware.specs.Promise.{IsPromised, reported_of}
use Rattle.rv_hardware.proofs.Gap.Run.{no_silence}
use Rattle.rv_hardware.proofs.Headline.Run.{headline_of_run}
use Rattle.rv_hardware.proofs.Laws.Busy.{counts_hold}
use Rattle.rv_hardware.proofs.Laws.Due.{due_interrupts_of_runs}
use Rattle.rv_hardware.proofs.Laws.OfRuns.{laws_of_runs}
use Rattle.rv_hardware.proofs.LongestGap.{longest_gap_of_run}

-- the cycles of a run from reachable hardware, of which only the last may stop, keep the promise
pub promise_of_run : {arrivals : List Arrival} {old new : Hardware} {reports : List Report} → Reachable old →
    Cycles arrivals old reports new → OnlyLastStops reports →
    IsPromised old.values arrivals old.cycle new.cycle (seen old) (reported_of reports) (seen new)
promise_of_run {arrivals} {old} {new} {reports} reached cycles only = record {
  runs = headline_of_run reached cycles;
  laws = laws_of_runs reached cycles;
  due = due_interrupts_of_runs reached cycles;
  counted = counts_hold reached cycles;
  longest_gap = longest_gap_of_run reached cycles;
  gap_bounded = (no_silence arrivals old new reports reached cycles only).longest;
}
