use Rattle.std.proofs.Common.{◌≡◌, take, drop, option_map}
use Rattle.rv_job.specs.Parts.{later_halves, preceded}
use Rattle.rv_job.proofs.parts.later_halves.Given as goal

-- the first separator stands after this place
abbrev pub invariant-loop-place : goal.invariant-loop-place
invariant-loop-place l = later_halves l.text
    ≡ option_map (preceded (take l.place l.text)) (later_halves (drop l.place l.text))
