use Rattle.std.proofs.Common.{◌≡◌, length}
use Rattle.rv_refusal.specs.Lines.{line_at}
use Rattle.rv_refusal.proofs.lines.line_at.Given as goal

-- the line is the one with this number in what is left
abbrev pub invariant-loop-number : goal.invariant-loop-number
invariant-loop-number l = line_at l.number l.rest ≡ line_at l.fn.number l.fn.text

abbrev pub decreases-loop-number : goal.decreases-loop-number
decreases-loop-number l = length l.rest
