use Rattle.std.proofs.Common.{◌≡◌, ◌≤◌, count_by, take}
use Rattle.rv_report.specs.Events.{happens}
use Rattle.rv_report.proofs.events.EventCounter.count.Given as goal

abbrev pub invariant-loop-step : goal.invariant-loop-step
invariant-loop-step l = (l.happened ≡ count_by (happens l.self.costs l.event) (take l.step-index l.steps))
    × (l.happened ≤ l.step-index)
