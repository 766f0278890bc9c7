use Rattle.std.proofs.Common.{◌∙◌, [], None, ap, refl, subst, arith}
use Rattle.rv_watch.proofs.Shown.{stops_by}
use Rattle.rv_counts.proofs.LossReasons.{lost_for}
use Rattle.rv_hardware.specs.Hardware.{Hardware}
use Rattle.rv_hardware.specs.Run.{Reachable}
use Rattle.rv_passage.proofs.InFlight.{short_buffers}
use Rattle.rv_report.specs.Shown.{places_shown, words_of}
use Rattle.rv_report.specs.Speculation.{in_flight}
use Rattle.rv_report.proofs.Begun.{begins_tallied, few_in_buffer}
use Rattle.rv_report.proofs.Learned.{taught_by_run}
use Rattle.rv_report.proofs.Placed.{placed_at_end}
use Rattle.rv_report.proofs.Tallied.{room_at_end, tallied_to_the_end}
use Rattle.rv_report.proofs.compared_run.run_totals.Goals as goal

pub begin-requires : goal.begin-requires
begin-requires g c = short_buffers c.hardware.invariant.reached refl refl

pub losses-requires : goal.losses-requires
losses-requires g c =
    let begun =
    begins_tallied c.args.arrivals.now _ c.args.options.now.shown c.hardware.view_is c.shown-hardware.ensures
    c.default.ensures c.in_ok-speculation.ensures.speculated c.in_ok-speculation.ensures.few c.begin-events.ensures
    c.no_places-places.ensures (few_in_buffer c.shown-hardware.ensures c.in_buffer.ensures.counted
    c.in_buffer.ensures.few) in
    room_at_end (c.watch-ended.ensures.seen None begun).0 c.count_in_flight.result c.count_in_flight.ensures.few
    c.is_exhausted.ensures.within

pub returns-clause-run : goal.returns-clause-run
returns-clause-run g c =
    let begun =
    begins_tallied c.args.arrivals.now _ c.args.options.now.shown c.hardware.view_is c.shown-hardware.ensures
    c.default.ensures c.in_ok-speculation.ensures.speculated c.in_ok-speculation.ensures.few c.begin-events.ensures
    c.no_places-places.ensures (few_in_buffer c.shown-hardware.ensures c.in_buffer.ensures.counted
    c.in_buffer.ensures.few) in
    let run = c.watch-ended.ensures in
    let tallied = run.seen None begun in
    let reached = subst Reachable (c.hardware.view_is ∙ c.shown-hardware.ensures) c.hardware.invariant.reached in
    tallied_to_the_end tallied.0 c.args.options.now c.count_in_flight.result reached
    c.is_exhausted.ensures.within run.passes run.counted
    (stops_by run c.in-Ok.stop c.in-Ok.is) c.new.ensures
    (c.count_in_flight.ensures.count ∙ ap (λ (h : Hardware). in_flight h.rob h.front) c.shown-left.ensures)
    c.losses.ensures refl
    (c.words.ensures ∙ ap (words_of c.args.options.now.shown) c.shown-left.ensures)
    (placed_at_end c.args.options.now.shown c.no_places-places.result _
    (c.no_places-places.ensures
    ∙ ap (λ (h : Hardware). places_shown c.args.options.now.shown h [] h) c.shown-hardware.ensures) tallied.1)
    tallied.1.places_add_up
    (lost_for reached run.passes c.is_exhausted.ensures.within)

pub returns-clause-learned : goal.returns-clause-learned
returns-clause-learned g c = grind (arith, taught_by_run)
