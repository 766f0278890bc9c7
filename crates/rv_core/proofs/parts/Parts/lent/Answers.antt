use Rattle.std.proofs.Common.{arith}
use Rattle.rv_core.proofs.Words.{◌≡◌, sym, subst, is_oldest_draining, IsSound, hardware_of, Inside, Reachable}
use Rattle.rv_core.proofs.Loads.Seen.{none_outside, outside_by, some_inside}
use Rattle.rv_core.proofs.parts.Parts.lent.Goals as goal

-- the queue's oldest store drains where the oldest retired one does
oldest : (p : Inside) → IsSound p → is_oldest_draining p.stores.stores ≡ is_oldest_draining (hardware_of p).committed
oldest p before = grind arith

pub invariant_of-result : goal.invariant_of-result
invariant_of-result c =
    let before = c.self.invariant in
    let h = hardware_of c.self.inside in
    record {
      reached = subst Reachable (sym c.self.view_is) c.requires;
      queued = before.tied.queued;
      drains = oldest c.self.inside before;
      bytes = record {
        inside = λ address byte cached is. some_inside h before.sound address cached byte is;
        outside = λ address outside. none_outside h before.sound address outside;
        apart = λ address cached outside. outside_by h before.sound address ⊥ cached outside;
      };
      stale_base = before.stale_base;
      stale_size = before.stale_size;
    }
