use Rattle.std.proofs.Common.{◌≡◌, ◌≤◌, count_by, take}
use Rattle.rv_hardware.specs.Step.{is_trap}
use Rattle.rv_counts.proofs.place_uses.count_traps.Given as goal

abbrev pub invariant-loop-step : goal.invariant-loop-step
invariant-loop-step l = (l.traps ≡ count_by is_trap (take l.step-index l.steps)) × (l.traps ≤ l.step-index)
