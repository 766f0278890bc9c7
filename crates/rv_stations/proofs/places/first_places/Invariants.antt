-- The places so far, with room for the others.
use Rattle.std.proofs.Common.{◌≡◌, ◌≤◌, vec_capacity}
use Rattle.std.specs.List.{range_with_len}
use Rattle.rv_stations.proofs.places.first_places.Given as goal

abbrev pub invariant-loop-place : goal.invariant-loop-place
invariant-loop-place l = (l.places.items ≡ range_with_len 0 l.place) × (l.fn.count ≤ vec_capacity l.places)
    × (l.place ≤ l.fn.count)
