use Rattle.std.proofs.Common.{◌≡◌, ◌≤◌, length}
use Rattle.rv_drawing.specs.Marked.{is_marked}
use Rattle.rv_drawing.proofs.mark.up_to_last.Given as goal

-- what was left out is of other instructions
abbrev pub invariant-loop-rest : goal.invariant-loop-rest
invariant-loop-rest l = record {
  same : is_marked l.rest l.number ≡ is_marked l.marks l.number;
  few : length l.rest ≤ length l.marks;
}

abbrev pub decreases-loop-rest : goal.decreases-loop-rest
decreases-loop-rest l = length l.rest
