use Rattle.std.proofs.Common.{◌≡◌, length}
use Rattle.rv_passage.specs.Producers.{broadcast_among}
use Rattle.rv_passage.proofs.producers.broadcast_among.Given as goal

-- none of the younger ones has the number
abbrev pub invariant-loop-row : goal.invariant-loop-row
invariant-loop-row l = broadcast_among l.left l.number ≡ broadcast_among l.older l.number

abbrev pub decreases-loop-row : goal.decreases-loop-row
decreases-loop-row l = length l.left
