use Rattle.std.proofs.Common.{◌≡◌, ◌∙◌, ap, set, sym, arith}
use Rattle.rv_passage.proofs.ByAddress.{in_order-made}
use Rattle.rv_counts.specs.Order.{with_change}
use Rattle.rv_counts.specs.Counts.{added}
use Rattle.rv_counts.proofs.Rooms.{can_count-at}
use Rattle.rv_counts.proofs.profile.Profile.add.Goals as goal
use Rattle.rv_counts.proofs.profile.Profile.add.Goals.{After-add}

pub add-requires : goal.add-requires
add-requires c =
    let can = rw (← c.self.view_is) at c.requires.room.counts in
    record {
      room = can_count-at c.args.passage.now.pc c.self.inside.words.items c.place_of-place.new.kept.items
          c.place_of-place.result c.index_mut.result.now _ can c.place_of-place.ensures.kept
          c.place_of-place.ensures.within c.index_mut.ensures.value;
    }

made : (c : After-add) → set c.place_of-place.new.kept.items c.place_of-place.result c.add.new.self
    ≡ with_change c.args.passage.now.pc (added c.self.inside.costs c.args.passage.now) c.self.inside.words.items
made c =
    let change = added c.self.inside.costs c.args.passage.now in
    ap (set c.place_of-place.new.kept.items c.place_of-place.result)
    (c.add.ensures ∙ ap change c.index_mut.ensures.value)
    ∙ sym (c.place_of-place.ensures.changes change c.index_mut.result.now)

pub returns-clause-words : goal.returns-clause-words
returns-clause-words c = grind (arith, made)

pub invariant_of-self : goal.invariant_of-self
invariant_of-self c = grind (arith, in_order-made, made)
