use Rattle.std.proofs.Common.{◌<◌, length, arith}
use Rattle.rv_states.proofs.Arrays.{given_at}
use Rattle.rv_states.specs.Predictor.{place_taught}
use Rattle.rv_states.proofs.Given.{given_on}
use Rattle.rv_states.proofs.predictor.write_all_taught.Goals as goal

pub loop-step-preserved : goal.loop-step-preserved
loop-step-preserved g c =
    let here : c.loop-step.step-index < length c.args.steps.now = omega arith in
    let more = c.write_taught-written.ensures in
    given_on (place_taught c.args.tables.now) c.args.steps.now here c.loop-step.invariant _
    (given_at (place_taught c.args.tables.now) c.args.steps.now _ c.step-item.result here c.step-item.is) more.said
    more.count more.few
