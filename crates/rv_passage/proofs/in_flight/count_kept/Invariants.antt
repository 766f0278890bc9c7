use Rattle.std.proofs.Common.{◌≡◌, ◌+◌, ◌-◌, drop}
use Rattle.rv_passage.specs.Numbers.{kept_through}
use Rattle.rv_passage.specs.Passage.{in_buffers}
use Rattle.rv_passage.proofs.in_flight.count_kept.Given as goal

-- those so far go on
abbrev pub invariant-loop-place : goal.invariant-loop-place
invariant-loop-place l =
    kept_through l.cycle (in_buffers l.rob l.front) l.count
    ≡ l.place + kept_through l.cycle (drop l.place (in_buffers l.rob l.front)) (l.count - l.place)
