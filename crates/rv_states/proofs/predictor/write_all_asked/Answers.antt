use Rattle.std.proofs.Common.{◌<◌, length, arith, refl}
use Rattle.rv_states.specs.Predictor.{asked_in}
use Rattle.rv_states.proofs.Given.{given_on}
use Rattle.rv_states.proofs.predictor.write_all_asked.Goals as goal

pub loop-place-preserved : goal.loop-place-preserved
loop-place-preserved g c =
    let here : c.loop-place.place < length c.args.front.now.entries = omega arith in
    let more = c.write_asked_at-written.ensures in
    given_on (asked_in c.args.predictor.now c.args.cycle) c.args.front.now.entries here c.loop-place.invariant _ (refl)
    more.said more.count more.few
