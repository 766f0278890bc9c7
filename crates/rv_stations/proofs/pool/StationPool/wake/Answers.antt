-- Both columns are woken.
use Rattle.std.proofs.Common.{◌≡◌, ◌<◌, ◌∙◌, All, map, take, length, refl, ap, vec_len, arith}
use Rattle.std.proofs.lemmas.List.{length-map}
use Rattle.std.proofs.lemmas.List.Elements.{All-take}
use Rattle.rv_isa.proofs.Numbered.{IsInOrder-map}
use Rattle.rv_stations.specs.Waiting.{seq_of, woken, woken_operand}
use Rattle.rv_stations.specs.PoolFields.{joined, in_all, in_places}
use Rattle.rv_stations.proofs.PoolLemmas.{same_lengths, length-joined, joined-woken, in_places-map}
use Rattle.rv_stations.proofs.pool.StationPool.wake.Goals as goal

there : (c : goal.After-wake-2) →
    All (λ k. k < length (in_all c.self.inside)) (take c.self.inside.count c.self.inside.places.items)
there c = λ i d lt.
    omega (
      arith,
      All-take (λ k. k < vec_len c.self.inside.seqs) c.self.inside.count c.self.inside.places.items
          c.self.invariant.there i d lt,
      length-joined _ _ _ _ (same_lengths c.self.inside c.self.invariant),
    )

waiting_are : (c : goal.After-wake-2) →
    in_places (joined c.self.inside.seqs.items c.self.inside.dispatched.items c.wake.new.self c.wake-2.new.self)
    (take c.self.inside.count c.self.inside.places.items)
    ≡ map (woken c.args.seq c.args.value)
    (in_places (in_all c.self.inside) (take c.self.inside.count c.self.inside.places.items))
waiting_are c =
    rw (c.wake.ensures, c.wake-2.ensures)
    (ap (λ ws. in_places ws (take c.self.inside.count c.self.inside.places.items))
    (joined-woken c.args.seq c.args.value _ _ _ _)
    ∙ in_places-map (woken c.args.seq c.args.value) (in_all c.self.inside)
    (take c.self.inside.count c.self.inside.places.items) (there c))

pub invariant_of-self : goal.invariant_of-self
invariant_of-self c = record {
  within = c.self.invariant.within;
  few = c.self.invariant.few;
  dispatched = c.self.invariant.dispatched;
  first = rw c.wake.ensures (length-map c.self.inside.first (woken_operand c.args.seq c.args.value)
      ∙ c.self.invariant.first);
  second = rw c.wake-2.ensures (length-map c.self.inside.second (woken_operand c.args.seq c.args.value)
      ∙ c.self.invariant.second);
  there = c.self.invariant.there;
  apart = c.self.invariant.apart;
  in_order =
      rw (waiting_are c)
      (IsInOrder-map seq_of seq_of (woken c.args.seq c.args.value) (λ w. refl) _ c.self.invariant.in_order);
  held = c.self.invariant.held;
  others = c.self.invariant.others;
}

pub returns : goal.returns
returns c = grind (arith, waiting_are)
