use Rattle.std.proofs.Common.{◌≡◌, Some, length}
use Rattle.rv_passage.specs.Producers.{producer_among}
use Rattle.rv_passage.proofs.producers.producer_of.Given as goal

-- none of the younger ones writes the register
abbrev pub invariant-loop-row : goal.invariant-loop-row
invariant-loop-row l = producer_among l.left (Some l.register) ≡ producer_among l.older (Some l.register)

abbrev pub decreases-loop-row : goal.decreases-loop-row
decreases-loop-row l = length l.left
