use Rattle.std.proofs.Common.{◌∙◌, ◌≤◌, ap, arith, length, refl}
use Rattle.rv_hardware.specs.Hardware.{Hardware}
use Rattle.rv_passage.proofs.InFlight.{short_buffers}
use Rattle.rv_report.specs.Events.{counted_after}
use Rattle.rv_report.specs.Speculation.{speculated_after}
use Rattle.rv_report.proofs.Placed.{can_place, placed_on}
use Rattle.rv_report.proofs.Tallied.{tallied_on}
use Rattle.rv_report.proofs.compared_run.TallyWatcher.see.Goals as goal

pub follow-requires-2-clause-short : goal.follow-requires-2-clause-short
follow-requires-2-clause-short g c = short_buffers c.hardware.invariant.reached refl refl

pub placed-self-requires : goal.placed-self-requires
placed-self-requires g c =
    let (start, seen, before, shown, both) = c.requires.shown in
    let inside = c.hardware.inside in
    can_place shown both.1 inside.values.now inside.rob.now inside.front.now
    (ap (λ (h : Hardware). h.values) c.hardware.view_is)
    (ap (λ (h : Hardware). h.rob) c.hardware.view_is) (ap (λ (h : Hardware). h.front) c.hardware.view_is)
    (omega (arith, c.in_buffer.ensures.counted, c.in_buffer.ensures.few))

pub returns : goal.returns
returns g c start seen before shown both =
    let inside = c.hardware.inside in
    let values_are = ap (λ (h : Hardware). h.values) c.hardware.view_is in
    let rob_is = ap (λ (h : Hardware). h.rob) c.hardware.view_is in
    let front_is = ap (λ (h : Hardware). h.front) c.hardware.view_is in
    let speculated =
    c.follow-2.ensures.followed
    ∙ ap (λ (h : Hardware). speculated_after c.args.cycle c.args.steps.now h.rob h.front h.pc
    c.args.self.now.speculation) c.hardware.view_is in
    let happened = c.follow.ensures ∙ ap (λ end. counted_after c.args.cycle c.args.steps.now end c.args.self.now.events)
    c.drain_end.ensures in
    let few : length c.args.hardware.now.rob.entries ≤ 256 =
    omega (arith, c.in_buffer.ensures.counted, c.in_buffer.ensures.few) in (
      tallied_on shown both.0 c.count_all.new.self c.follow-2.new.self c.follow.new.self c.count_all.ensures speculated
          happened c.follow-2.ensures.fetched c.follow-2.ensures.mispredicted,
      placed_on shown both.1 inside.values.now inside.rob.now inside.front.now values_are rob_is front_is few
          c.placed-self.result c.placed-self.ensures,
    )
