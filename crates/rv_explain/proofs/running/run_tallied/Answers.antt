use Rattle.std.proofs.Common.{◌∙◌, ap, arith, length, subst}
use Rattle.rv_hardware.specs.Draining.{drain_end}
use Rattle.rv_hardware.specs.Hardware.{Hardware}
use Rattle.rv_hardware.specs.Run.{Reachable}
use Rattle.rv_view.proofs.EndedView.{ended_by}
use Rattle.rv_view.proofs.Reached.{reached_by}
use Rattle.rv_explain.proofs.Tallying.{fetched_counted, places_of_all, nothing_tallied, tallied_to_the_end}
use Rattle.rv_explain.proofs.running.run_tallied.Goals as goal

pub run_view-view-requires-clause-ready : goal.run_view-view-requires-clause-ready
run_view-view-requires-clause-ready g c =
    nothing_tallied c.args.description.now c.args.arrivals.now _ c.args.tally c.hardware.inside.registers.now
    c.drain_end-drain_end.result c.in_flight-in_flight.result c.requires.of_no_cycle
    (ap (λ (h : Hardware). h.registers) (c.hardware.view_is ∙ c.shown-hardware.ensures))
    (c.drain_end-drain_end.ensures ∙ ap drain_end c.shown-hardware.ensures)
    (c.in_flight-in_flight.ensures.counted ∙ ap (λ (h : Hardware). length h.rob.entries) c.shown-hardware.ensures)
    c.in_flight-in_flight.ensures.few

pub overflow_add-fetched : goal.overflow_add-fetched
overflow_add-fetched g c = grind (arith, fetched_counted)

pub returns : goal.returns
returns g c =
    let run = c.run_view-view.ensures in
    let ends = ended_by run c.in-Ok.stop c.in-Ok.is in
    let within = c.is_exhausted.ensures.within in
    let reached = subst Reachable (c.hardware.view_is ∙ c.shown-hardware.ensures) c.hardware.invariant.reached in
    tallied_to_the_end run.viewed.sees run.viewed.kept ends run.counted c.requires.of_no_cycle
    c.rows.result.now c.rows.ensures
    (places_of_all run.viewed.sees run.viewed.kept ends run.counted within (reached_by reached run.passes within))
    reached within
