use Rattle.rv_explain.proofs.explanation.begin.Goals as goal

pub returns-clause-of_no_cycle : goal.returns-clause-of_no_cycle
returns-clause-of_no_cycle g c = c.in_ok-tally.ensures
