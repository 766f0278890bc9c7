use Rattle.rv_core.proofs.Words.{◌+◌, refl, ap, ◌∙◌, arith, Progress}
use Rattle.rv_watch.proofs.Shown.{bounded_so_far, ended_as, shown_now, watched_to_stop}
use Rattle.rv_core.proofs.RunCycles.{next_reported}
use Rattle.rv_core.proofs.Taken.{listed_anew}
use Rattle.rv_watch.proofs.Shown.{watching_nothing, watching_on, watching_still}
use Rattle.rv_core.proofs.Exhausted.{cycle_left}
use Rattle.rv_core.proofs.watching.watch.Goals as goal

pub loop-init : goal.loop-init
loop-init g c = grind (arith, watching_nothing)

pub run_cycle-stop-requires-clause-bounded : goal.run_cycle-stop-requires-clause-bounded
run_cycle-stop-requires-clause-bounded g c =
    bounded_so_far g.T.Watcher.has_seen c.args.arrivals.now _ c.args.watcher.now _ c.loop.invariant.0

pub show-requires-clause-shown : goal.show-requires-clause-shown
show-requires-clause-shown g c =
    let way = watching_still g.T.Watcher.has_seen c.args.arrivals.now _ c.args.watcher.now _ c.loop.invariant.0
    c.make_room.ensures.kept in
    let within = cycle_left c.is_exhausted.ensures.exhausted c.if-is_exhausted.false in
    let number = c.cycles_done-cycle.ensures.number in (
      c.args.watcher.now,
      _,
      c.requires.ready.0,
      shown_now g.T.Watcher.has_seen c.args.arrivals.now _ c.args.watcher.now _ way
          (next_reported c.run_cycle-stop.ensures)
          refl (c.as_slice.ensures ∙ listed_anew c.run_cycle-stop.ensures.taken (c.clear.ensures.kept
          ∙ c.loop.invariant.2) c.clear.ensures.none)
          c.cycles_done-cycle.ensures.reached number
          (omega (arith, number, within)),
      way.seen c.requires.ready.0 c.requires.ready.1,
    )

pub returns-in-Some : goal.returns-in-Some
returns-in-Some g c =
    let way = watching_still g.T.Watcher.has_seen c.args.arrivals.now _ c.args.watcher.now _ c.loop.invariant.0
    c.make_room.ensures.kept in
    let within = cycle_left c.is_exhausted.ensures.exhausted c.if-is_exhausted.false in
    let number = c.cycles_done-cycle.ensures.number in
    let next = c.run_cycle-stop.ensures in
    let steps_are = c.as_slice.ensures
    ∙ listed_anew next.taken (c.clear.ensures.kept ∙ c.loop.invariant.2) c.clear.ensures.none in
    let shown = shown_now g.T.Watcher.has_seen c.args.arrivals.now _ c.args.watcher.now _ way
    (next_reported next) refl steps_are
    c.cycles_done-cycle.ensures.reached number (omega (arith, number, within)) in
    ended_as c.finished-in-Some.ensures.progress c.finished-in-Some.ensures.stop
    (watched_to_stop g.T.Watcher.has_seen c.args.arrivals.now _ c.args.watcher.now _ way
    (next_reported next) refl steps_are
    c.cycles_done-cycle.ensures.reached number (omega (arith, number, within))
    (λ before. c.show.ensures c.args.watcher.now _ before shown) c.args.limit c.in-Some.stop c.in-Some.is
    (omega (arith, c.loop.invariant.1, c.loop-test.true)))

pub loop-preserved : goal.loop-preserved
loop-preserved g c =
    let way = watching_still g.T.Watcher.has_seen c.args.arrivals.now _ c.args.watcher.now _ c.loop.invariant.0
    c.make_room.ensures.kept in
    let within = cycle_left c.is_exhausted.ensures.exhausted c.if-is_exhausted.false in
    let number = c.cycles_done-cycle.ensures.number in
    let next = c.run_cycle-stop.ensures in
    let steps_are = c.as_slice.ensures
    ∙ listed_anew next.taken (c.clear.ensures.kept ∙ c.loop.invariant.2) c.clear.ensures.none in
    let shown = shown_now g.T.Watcher.has_seen c.args.arrivals.now _ c.args.watcher.now _ way
    (next_reported next) refl steps_are
    c.cycles_done-cycle.ensures.reached number (omega (arith, number, within)) in (
      watching_on g.T.Watcher.has_seen c.args.arrivals.now _ c.args.watcher.now _ way
          (next_reported next) refl steps_are
          c.cycles_done-cycle.ensures.reached number (omega (arith, number, within))
          (λ before. c.show.ensures c.args.watcher.now _ before shown) c.in_default-stop.is,
      ap (λ (p : Progress). p.cycles) next.counted ∙ ap (λ n. n + 1) c.loop.invariant.1,
      next.taken.kept ∙ c.clear.ensures.kept ∙ c.loop.invariant.2,
      omega (arith, next.taken.room, c.clear.ensures.capacity, c.loop.invariant.3),
    )
