use Rattle.std.proofs.Common.{◌≡◌, take}
use Rattle.rv_report.specs.Totals.{counts_of}
use Rattle.rv_report.proofs.totals.count_steps.Given as goal

-- the steps so far are counted
abbrev pub invariant-loop-step : goal.invariant-loop-step
invariant-loop-step l = l.counts ≡ counts_of (take l.step-index l.steps)
