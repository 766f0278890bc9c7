use Rattle.rv_core.proofs.Words.{◌≡◌, take}
use Rattle.rv_core.proofs.pipeline.listed.Given as goal

-- the steps so far
abbrev pub invariant-loop-step : goal.invariant-loop-step
invariant-loop-step l = l.listed.items ≡ take l.step-index l.steps
