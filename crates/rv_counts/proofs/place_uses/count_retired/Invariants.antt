use Rattle.std.proofs.Common.{◌≡◌, ◌≤◌, count_by, take}
use Rattle.rv_hardware.specs.Step.{is_retirement}
use Rattle.rv_counts.proofs.place_uses.count_retired.Given as goal

abbrev pub invariant-loop-step : goal.invariant-loop-step
invariant-loop-step l = (l.retired ≡ count_by is_retirement (take l.step-index l.steps)) × (l.retired ≤ l.step-index)
