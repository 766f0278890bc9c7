use Rattle.std.proofs.Common.{◌≡◌, ◌<◌, ◌-◌, Bool, Some, length, slice_get, true}
use Rattle.std.specs.Option.{option_map}
use Rattle.rv_stations.specs.declared.waiting.Waiting.{Waiting}
use Rattle.rv_stations.specs.Pool.{Searches}
use Rattle.rv_stations.specs.Waiting.{ArePassedBy, is_ready}
use Rattle.rv_stations.proofs.SearchLemmas.{LoadsFail}
use Rattle.rv_stations.proofs.pool.StationPool.place_of_oldest_ready.Given as goal

-- what comes before is passed by, and, once a load waits with all younger ones, so are the loads from here on
abbrev pub invariant-loop-at : goal.invariant-loop-at
invariant-loop-at g l =
    (l.at < length l.self.waiting → option_map is_ready (slice_get l.self.waiting l.at) ≡ Some true)
    × ((test : Waiting → Bool) → Searches g.F.Fn l.filter test l.fn.passed l.self →
    ArePassedBy test l.at l.self.waiting)
    × ((test : Waiting → Bool) → Searches g.F.Fn l.filter test l.fn.passed l.self → l.loads_wait ≡ true →
    LoadsFail test l.self.waiting l.at)

abbrev pub decreases-loop-at : goal.decreases-loop-at
decreases-loop-at g l = length l.self.waiting - l.at
