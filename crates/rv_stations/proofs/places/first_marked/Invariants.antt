-- None of the places so far is marked.
use Rattle.std.proofs.Common.{◌≡◌, ◌<◌, ◌≤◌, ℕ, get_or}
use Rattle.std.specs.Int.{bit_at}
use Rattle.rv_stations.proofs.places.first_marked.Given as goal

abbrev pub invariant-loop-at : goal.invariant-loop-at
invariant-loop-at l =
    (l.fn.from ≤ l.at)
    × ((k : ℕ) → l.fn.from ≤ k → k < l.at → bit_at l.fn.mask (get_or l.fn.places k 0) ≡ 0)
