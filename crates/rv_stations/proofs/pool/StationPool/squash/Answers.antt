-- The places of the older instructions stand in front.
use Rattle.std.proofs.Common.{◌≡◌, ◌≤◌, ◌∙◌, take, sym, arith}
use Rattle.std.specs.Int.{bit_at}
use Rattle.rv_isa.specs.Numbered.{below}
use Rattle.rv_isa.proofs.Numbered.{IsInOrder-below}
use Rattle.rv_stations.specs.Waiting.{seq_of}
use Rattle.rv_stations.specs.PoolFields.{in_all, in_places, IsMarkedOther}
use Rattle.rv_stations.proofs.MarkLemmas.{marks-shorter}
use Rattle.rv_stations.proofs.PoolLemmas.{length-pool, in_places-take}
use Rattle.rv_stations.proofs.pool.StationPool.squash.Goals as goal

fewer : (c : goal.After-self-1) → c.count_below-self-inside.result ≤ c.self.inside.count
fewer c = grind (arith, length-pool)

waiting_are : (c : goal.After-self-1) →
    in_places (in_all c.self.inside) (take c.count_below-self-inside.result c.self.inside.places.items)
    ≡ below seq_of c.args.from (in_places (in_all c.self.inside) (take c.self.inside.count c.self.inside.places.items))
waiting_are c =
    in_places-take (in_all c.self.inside) c.self.inside.places.items c.count_below-self-inside.result
    c.self.inside.count (fewer c)
    ∙ sym (rw (← c.self.view_is) at c.count_below-self-inside.ensures.below)

pub invariant_of-self : goal.invariant_of-self
invariant_of-self c = record {
  within = omega (arith, fewer c, c.self.invariant.within);
  few = c.self.invariant.few;
  dispatched = c.self.invariant.dispatched;
  first = c.self.invariant.first;
  second = c.self.invariant.second;
  there = c.self.invariant.there;
  apart = c.self.invariant.apart;
  in_order = rw (waiting_are c) (IsInOrder-below seq_of c.args.from _ c.self.invariant.in_order);
  held = marks-shorter (λ k. bit_at c.self.inside.held k ≡ 1) c.count_below-self-inside.result c.self.inside.count
      c.self.inside.places.items (fewer c) c.self.invariant.held;
  others = marks-shorter (IsMarkedOther c.self.inside.dispatched.items c.self.inside.others)
      c.count_below-self-inside.result c.self.inside.count c.self.inside.places.items (fewer c) c.self.invariant.others;
}

pub returns : goal.returns
returns c = grind (arith, waiting_are)
