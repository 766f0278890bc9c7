use Rattle.std.proofs.Common.{ap, ◌∙◌}
use Rattle.rv_path.specs.Marking.{IsMarked}
use Rattle.rv_program.specs.CoreReport.{untaught_of}
use Rattle.rv_program.proofs.Asked.{of_own_run}
use Rattle.rv_program.proofs.asked_path.marks_guided.Goals as goal

-- the box is lent
pub returns : goal.returns
returns g c =
    let job = c.args.job.now in
    of_own_run job (λ old new marks. IsMarked job.arrivals c.args.view.from c.args.view.cycles old new marks.items)
    c.path_marks.result _ c.in-Ok.ensures.made
    (ap (λ lent. (goal.Predictor-dyn g lent).known lent.1) c.deref_box_mut-1.ensures.value.1 ∙ c.requires.described
    ∙ ap untaught_of c.requires.own) c.path_marks.ensures.marked
