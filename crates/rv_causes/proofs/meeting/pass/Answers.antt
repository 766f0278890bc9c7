use Rattle.std.proofs.Common.{◌∙◌, length, arith, ap, sym}
use Rattle.std.specs.List.{list_any}
use Rattle.rv_causes.specs.Point.{is_point}
use Rattle.rv_causes.proofs.Meetings.{fewer}
use Rattle.rv_causes.proofs.meeting.pass.Goals as goal

pub push_before-requires : goal.push_before-requires
push_before-requires c =
    let found = ap (list_any (is_point c.args.event.now.at)) (sym c.as_slice.ensures.value) ∙ sym c.is_among.ensures
    ∙ c.if-is_among.true in
    let less = fewer c.args.event.now c.args.wanted.now.items found in
    record {
      room = omega (
        arith,
        less,
        ap length c.drop_point.ensures.items,
        c.drop_point.ensures.capacity,
        c.requires.room,
      );
    }
