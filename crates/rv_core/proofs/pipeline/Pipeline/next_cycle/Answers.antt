use Rattle.rv_core.proofs.Words.{◌≡◌, sym, ap, ◌∙◌, by_cycle, report_with}
use Rattle.rv_hardware.proofs.AnyPrediction.{any_cycle}
use Rattle.rv_core.proofs.Guiding.{cycle_from, cycle_with}
use Rattle.rv_core.proofs.Taken.{listed_anew}
use Rattle.rv_core.proofs.pipeline.Pipeline.next_cycle.Goals as goal

pub invariant_of-self : goal.invariant_of-self
invariant_of-self g c = record {
  reached = by_cycle c.self.invariant.reached (rw (← c.self.view_is) at c.requires)
      (any_cycle (rw c.deref_mut.ensures.value at c.advance-end.ensures.cycle.3.cycle));
  numbers = c.advance-end.ensures.numbers;
  lists = c.advance-end.ensures.cycle.1.kept ∙ c.clear.ensures.kept ∙ c.self.invariant.lists;
  has_room = c.advance-end.ensures.cycle.1.room ∙ c.clear.ensures.capacity ∙ c.self.invariant.has_room;
}

pub returns-clause-cycled : goal.returns-clause-cycled
returns-clause-cycled g c =
    let end = c.advance-end.result in
    let done = c.advance-end.ensures.cycle in
    let listed : c.listed.result.items ≡ done.0 =
    c.listed.ensures ∙ c.as_slice.ensures
    ∙ listed_anew done.1 (c.clear.ensures.kept ∙ c.self.invariant.lists) c.clear.ensures.none in
    cycle_with (ap (λ steps. report_with steps end) (sym listed))
    (cycle_from (c.deref_mut.ensures.value ∙ c.self.view_is) done.3)
