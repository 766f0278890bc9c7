use Rattle.std.proofs.Common.{arith}
use Rattle.rv_causes.proofs.Backwards.{meet-come, meet-covers}
use Rattle.rv_causes.proofs.meeting.meet.Goals as goal

pub loop-front-preserved : goal.loop-front-preserved
loop-front-preserved c =
    let front = c.loop-front.front in
    let points = c.loop-front.wanted.items in
    record {
      within = omega arith;
      covers = λ point among.
          meet-covers c.args.events.now front c.loop-front-test.true c.loop-front.invariant.within points
          c.pass.new.wanted.items point c.pass.ensures.items (c.loop-front.invariant.covers point among);
      come = λ root come.
          meet-come c.args.events.now front c.loop-front-test.true c.loop-front.invariant.within points
          c.pass.new.wanted.items root c.pass.ensures.items (c.loop-front.invariant.come root come);
    }
