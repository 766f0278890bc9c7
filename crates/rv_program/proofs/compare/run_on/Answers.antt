use denote.Param.Object.{read_made}
use Rattle.std.proofs.Common.{refl, ◌∙◌}
use Rattle.rv_program.specs.contracts.compare.run_guided.{dyn-1-ghosts}
use Rattle.rv_program.proofs.compare.run_on.OwnLists.{at-1-1, lawful-own-1, own-1}
use Rattle.rv_program.proofs.compare.run_on.Goals as goal

-- what is known of the box is what was put into it
pub run_guided-requires-clause-described : goal.run_guided-requires-clause-described
run_guided-requires-clause-described c =
    let table = (dyn-1-ghosts (own-1, lawful-own-1)).0 in
    read_made table (table.entry at-1-1) at-1-1 refl _ (λ j y. j.1.known y) _ _ c.in-Ok.predictor.value
    c.into_dyn_box.ensures.1 ∙ c.in-Ok.ensures
