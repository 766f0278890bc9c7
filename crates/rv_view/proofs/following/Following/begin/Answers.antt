use Rattle.rv_view.proofs.following.Following.begin.Goals as goal

pub returns : goal.returns
returns g c = record { table = c.in_ok-table.ensures; steps = c.in_ok-steps.ensures.capacity }
