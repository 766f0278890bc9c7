-- The number in the place.
use Rattle.std.proofs.Common.{◌≡◌, ◌<◌, ◌∙◌, Some, refl, sym, ap, slice_get, arith}
use Rattle.std.specs.Option.{option_map}
use Rattle.std.proofs.lemmas.Option.{slice_get_read, slice_get-get_or}
use Rattle.rv_isa.specs.declared.instructions.Instr.TheVariants.{Fence}
use Rattle.rv_stations.specs.declared.waiting.Operand.TheVariants.{Value}
use Rattle.rv_stations.specs.declared.pool.Dispatched.{Dispatched}
use Rattle.rv_stations.specs.Waiting.{seq_of}
use Rattle.rv_stations.proofs.PoolLemmas.{length-pool, place_there, slice_get-pool}
use Rattle.rv_stations.proofs.pool.StationPool.seq_at.Goals as goal

pub returns : goal.returns
returns c =
    let p = c.self.inside in
    let low : c.args.at < p.count =
    omega (arith, rw (← c.self.view_is) at c.requires, length-pool p c.self.invariant) in
    let is : slice_get p.places.items c.args.at ≡ Some c.from.result =
    slice_get_read p.places.items _ c.args.at c.index.result.now refl (omega (arith, low, c.self.invariant.within))
    c.index.ensures ∙ ap Some (sym c.from.ensures) in
    let there = place_there p c.self.invariant c.args.at c.from.result is in
    let none : Dispatched = record { pc = 0; instruction = Fence } in
    let seq = slice_get_read p.seqs.items _ c.from.result c.index-2.result.now refl
    (omega (arith, there)) c.index-2.ensures in
    rw (← c.self.view_is)
    (ap (option_map seq_of) (slice_get-pool p c.args.at c.from.result _ _ _ _ low is seq
    (slice_get-get_or p.dispatched.items c.from.result none (omega (arith, there, c.self.invariant.dispatched)))
    (slice_get-get_or p.first c.from.result (Value 0) (omega (arith, there, c.self.invariant.first)))
    (slice_get-get_or p.second c.from.result (Value 0) (omega (arith, there, c.self.invariant.second)))))
