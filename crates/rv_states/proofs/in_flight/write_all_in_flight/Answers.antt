use Rattle.std.proofs.Common.{◌<◌, length, arith}
use Rattle.rv_states.proofs.Arrays.{given_at}
use Rattle.rv_states.specs.Cycle.{json_in_flight}
use Rattle.rv_states.proofs.Given.{given_on}
use Rattle.rv_states.proofs.in_flight.write_all_in_flight.Goals as goal

pub loop-row-preserved : goal.loop-row-preserved
loop-row-preserved g c =
    let here : c.loop-row.row-index < length c.args.rows.now = omega arith in
    let more = c.write_if_in_flight-written.ensures in
    given_on json_in_flight c.args.rows.now here c.loop-row.invariant _
    (given_at json_in_flight c.args.rows.now _ c.row-item.result here c.row-item.is) more.said more.count more.few
