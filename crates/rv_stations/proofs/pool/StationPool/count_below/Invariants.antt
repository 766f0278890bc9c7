-- The numbers passed by are not below the one.
use Rattle.std.proofs.Common.{ℕ, ◌<◌, ◌≤◌, length, get_or}
use Rattle.rv_stations.specs.declared.waiting.Waiting.{Waiting}
use Rattle.rv_stations.specs.Waiting.{seq_of}
use Rattle.rv_stations.proofs.pool.StationPool.count_below.Given as goal

abbrev pub invariant-loop-count : goal.invariant-loop-count
invariant-loop-count l =
    (l.count ≤ length l.self.waiting)
    × ((k : ℕ) (d : Waiting) → l.count ≤ k → k < length l.self.waiting → l.from ≤ seq_of (get_or l.self.waiting k d))

abbrev pub decreases-loop-count : goal.decreases-loop-count
decreases-loop-count l = l.count
