use Rattle.std.proofs.Common.{ap, ◌∙◌}
use Rattle.rv_program.specs.CoreReport.{untaught_of}
use Rattle.rv_program.proofs.Ending.{ended_with}
use Rattle.rv_program.proofs.PassedOn.{begun}
use Rattle.rv_program.proofs.program.finish_guided.Goals as goal

pub returns-clause-ended : goal.returns-clause-ended
returns-clause-ended g c =
    let contents = g.W.Write.contents in
    let unwritten = begun contents c.in-Ok.buffer c.args.output c.in-Ok.ensures.inner c.in-Ok.ensures.empty in
    let ended = rw unwritten at c.finish-ended.ensures in
    let own = c.requires.described ∙ ap untaught_of c.requires.own in
    ended_with contents c.args.task.now c.args.output c.pass_on-ended.result.1 _ _ c.pass_on-ended.result.0
    ended own c.pass_on-ended.ensures.passed c.report-status-2.ensures.reported c.report-status-2.ensures.status
