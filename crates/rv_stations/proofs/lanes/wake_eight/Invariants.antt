-- The lanes that are left still hold what they held.
use Rattle.std.proofs.Common.{◌≡◌, ◌<◌, ◌^◌, length}
use Rattle.rv_stations.proofs.GiveLemmas.{Giving}
use Rattle.rv_stations.proofs.lanes.wake_eight.Given as goal

abbrev pub invariant-loop-left : goal.invariant-loop-left
invariant-loop-left l =
    (l.left < 2 ^ 8)
    × (length l.tags ≡ 8)
    × (length l.values ≡ 8)
    × (l.woken < 2 ^ 64)
    × Giving l.seq l.value l.fn.tags l.fn.values l.left l.woken l.tags l.values

abbrev pub decreases-loop-left : goal.decreases-loop-left
decreases-loop-left l = l.left
