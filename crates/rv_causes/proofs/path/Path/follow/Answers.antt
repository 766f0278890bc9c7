use Rattle.std.proofs.Common.{◌∙◌, List, ap, arith, drop, length, subst}
use Rattle.std.proofs.lemmas.List.{with_items_is}
use Rattle.rv_causes.specs.Event.{with_events}
use Rattle.rv_causes.specs.Holding.{holds_now}
use Rattle.rv_causes.specs.Keeping.{IsSeen, before_with, made_shown, known_of_path, setting_by}
use Rattle.rv_causes.specs.Path.{still_in_flight, with_fetched}
use Rattle.rv_causes.specs.Reading.{cycle_of}
use Rattle.rv_causes.specs.declared.{before.UnitHold.UnitHold, way.Way.Way}
use Rattle.rv_causes.proofs.Brought.{known-seen}
use Rattle.rv_causes.proofs.path.Path.follow.Goals as goal

pub returns-clause-known : goal.returns-clause-known
returns-clause-known c events =
    let cycle = cycle_of c.args.cycle.now in
    let steps = cycle.steps in
    let after = cycle.after in
    let path = c.args.self.now in
    let before = path.before in
    let made = made_shown cycle (known_of_path path events) in
    let now = drop path.dropped c.see_shown.new.ways in
    let seen = c.see_shown.new.seen in
    let items =
    with_items_is path.ways c.see_shown.new.ways
    (omega (
      arith,
      c.see_shown.auto.ways,
      c.as_mut_slice.ensures.len,
      path.ways.ok.0,
      ap
          (λ (ws : List Way). length ws) c.as_mut_slice.ensures.value,
    )) in
    let Is = λ (holds : List UnitHold) (ways : List Way). IsSeen (setting_by cycle holds before) steps after
    (drop path.dropped ways) now seen in
    let is =
    subst (λ (holds : List UnitHold). Is holds path.ways.items) c.as_slice.ensures.value
    (subst (Is c.as_slice.result.now) c.as_mut_slice.ensures.value c.see_shown.ensures.seen) in
    c.take.ensures.known (with_events made events)
    ∙ (λ i. record {
      ways = still_in_flight cycle.rows (with_fetched seen.fetch cycle.rows (drop path.dropped (items i)));
      holds = holds_now cycle.number cycle.values cycle.rows (drop path.dropped (items i)) path.holds.items;
      before = before_with cycle.number steps seen before;
      events = with_events made events;
    })
    ∙ known-seen (setting_by cycle path.holds.items before) steps after
    (drop path.dropped path.ways.items) now seen events is

pub returns-clause-made : goal.returns-clause-made
returns-clause-made c = grind arith
