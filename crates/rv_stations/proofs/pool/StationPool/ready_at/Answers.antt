-- The parts in the place make the instruction.
use Rattle.std.proofs.Common.{◌≡◌, ◌<◌, ◌∙◌, Some, refl, sym, ap, slice_get, arith}
use Rattle.std.proofs.lemmas.Option.{slice_get_read}
use Rattle.rv_stations.proofs.PoolLemmas.{length-pool, place_there, ready_parts, slice_get-pool}
use Rattle.rv_stations.proofs.pool.StationPool.ready_at.Goals as goal

pub value_at-first-requires-clause-ready : goal.value_at-first-requires-clause-ready
value_at-first-requires-clause-ready c = grind (arith, length-pool, slice_get_read, ready_parts)

pub value_at-second-requires-clause-ready : goal.value_at-second-requires-clause-ready
value_at-second-requires-clause-ready c =
    let p = c.self.inside in
    let low : c.args.at < p.count =
    omega (arith, rw (← c.self.view_is) at c.requires.there, length-pool p c.self.invariant) in
    let is : slice_get p.places.items c.args.at ≡ Some c.from-place.result =
    slice_get_read p.places.items _ c.args.at c.index.result.now refl (omega (arith, low, c.self.invariant.within))
    c.index.ensures ∙ ap Some (sym c.from-place.ensures) in
    (ready_parts p c.self.invariant c.args.at c.from-place.result low is (rw (← c.self.view_is) at c.requires.ready)).1

pub returns : goal.returns
returns c = grind (arith, length-pool, slice_get_read, place_there, slice_get-pool)
