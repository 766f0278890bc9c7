use Rattle.rv_core.proofs.Words.{by_cycle}
use Rattle.rv_hardware.proofs.AnyPrediction.{any_cycle}
use Rattle.rv_core.proofs.pipeline.Pipeline.advance.Goals as goal

pub invariant_of-self : goal.invariant_of-self
invariant_of-self g c = record {
  reached = by_cycle c.self.invariant.reached (rw (← c.self.view_is) at c.requires.cycles)
      (any_cycle (rw c.deref_mut.ensures.value at c.advance.ensures.cycle.3.cycle));
  numbers = c.advance.ensures.numbers;
  lists = c.self.invariant.lists;
  has_room = c.self.invariant.has_room;
}
