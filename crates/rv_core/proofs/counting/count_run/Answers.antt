use Rattle.rv_core.proofs.Words.{◌+◌, ap, ◌∙◌, arith, Exhausted, Limit, None, Progress}
use Rattle.rv_core.proofs.CountedRun.{HasTaken, counted_to, counted_to_stop, counting_nothing, counting_on}
use Rattle.rv_core.proofs.CountedRun.{room_to_count, sorts_fit, taken_fit, uncounted}
use Rattle.rv_watch.proofs.Shown.{bounded_so_far, so_many_shown}
use Rattle.rv_core.proofs.Exhausted.{all_done, cycle_left}
use Rattle.rv_core.proofs.counting.count_run.Goals as goal

pub loop-init : goal.loop-init
loop-init g c = grind (arith, counting_nothing)

pub run_cycle-requires-clause-bounded : goal.run_cycle-requires-clause-bounded
run_cycle-requires-clause-bounded g c =
    bounded_so_far HasTaken c.args.arrivals.now _ uncounted None c.loop.invariant.0

pub run_cycle-requires-clause-room : goal.run_cycle-requires-clause-room
run_cycle-requires-clause-room g c =
    room_to_count c.args.arrivals.now _ c.loop.invariant.0
    (cycle_left c.is_exhausted.ensures.exhausted c.if-is_exhausted.false)

pub counts-requires : goal.counts-requires
counts-requires g c = sorts_fit c.args.arrivals.now _ c.loop.invariant.0

pub counts-requires-in-Some : goal.counts-requires-in-Some
counts-requires-in-Some g c =
    let within = cycle_left c.is_exhausted.ensures.exhausted c.if-is_exhausted.false in
    taken_fit c.args.arrivals.now _ c.loop.invariant.0 c.run_cycle.ensures within

pub counts-requires-2 : goal.counts-requires-2
counts-requires-2 g c = sorts_fit c.args.arrivals.now _ c.loop.invariant.0

pub returns-then-is_exhausted : goal.returns-then-is_exhausted
returns-then-is_exhausted g c =
    let way = c.loop.invariant.0 in
    let count = so_many_shown HasTaken c.args.arrivals.now _ uncounted None way c.loop.counter c.loop.invariant.1 in
    let over = all_done c.is_exhausted.ensures.exhausted c.if-is_exhausted.true in
    counted_to c.args.arrivals.now _ way c.args.limit Exhausted (
      way.none_stops,
      omega (arith, count, c.loop-test.true),
      omega (arith, over, c.is_exhausted.ensures.within),
    ) _ c.counts.ensures

pub returns-in-Some : goal.returns-in-Some
returns-in-Some g c =
    let within = cycle_left c.is_exhausted.ensures.exhausted c.if-is_exhausted.false in
    counted_to_stop c.args.arrivals.now _ c.loop.invariant.0 c.run_cycle.ensures within
    c.args.limit c.in-Some.stop c.in-Some.is (omega (arith, c.loop.invariant.1, c.loop-test.true)) _
    c.counts-in-Some.ensures

pub loop-preserved : goal.loop-preserved
loop-preserved g c =
    let within = cycle_left c.is_exhausted.ensures.exhausted c.if-is_exhausted.false in
    let next = c.run_cycle.ensures in (
      counting_on c.args.arrivals.now _ c.loop.invariant.0 next within c.in_default.is,
      ap (λ (p : Progress). p.cycles) next.counted ∙ ap (λ n. n + 1) c.loop.invariant.1,
    )

pub returns : goal.returns
returns g c =
    let way = c.loop.invariant.0 in
    let count = so_many_shown HasTaken c.args.arrivals.now _ uncounted None way c.loop.counter c.loop.invariant.1 in
    counted_to c.args.arrivals.now _ way c.args.limit Limit
    (way.none_stops, omega (arith, count, c.loop-test.false, c.loop.auto.counter-end)) _ c.counts-2.ensures
