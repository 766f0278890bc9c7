use denote.Param.Object.{read_made}
use Rattle.std.proofs.Common.{refl, ◌∙◌}
use Rattle.rv_program.proofs.program.finish_task.OwnLists.{at-1-1, own-1}
use Rattle.rv_program.proofs.program.finish_task.Goals as goal

-- what is known of the box is what was put into it
pub finish_guided-requires-clause-described : goal.finish_guided-requires-clause-described
finish_guided-requires-clause-described g c =
    read_made own-1 (own-1.entry at-1-1) at-1-1 refl _ (λ j y. j.1.known y) _ _ c.in-Ok.predictor.value
    c.into_dyn_box.ensures.1 ∙ c.in-Ok.ensures
