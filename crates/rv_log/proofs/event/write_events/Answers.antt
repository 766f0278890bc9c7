use Rattle.std.proofs.Common.{ap}
use Rattle.rv_log.specs.Event.{events_at, stage_at}
use Rattle.rv_log.specs.declared.stage.Stage.TheVariants.{Execution, Retirement}
use Rattle.rv_text.proofs.Saying.{says_both, says_same}
use Rattle.rv_log.proofs.event.write_events.Goals as goal

pub returns : goal.returns
unfolding events_at
returns g c =
    let row = c.args.row.now in
    let execution = says_same (ap (stage_at c.args.cycle row.number Execution) c.issued.ensures)
    c.write_stage_at-2.ensures in
    let retirement = says_same (ap (stage_at c.args.cycle row.number Retirement) c.retired.ensures)
    c.write_stage_at-4.ensures in
    says_both c.write_fetch_at.ensures
    (says_both c.write_stage_at.ensures
    (says_both execution (says_both c.write_bus_wait_at.ensures (says_both c.write_stage_at-3.ensures retirement))))
