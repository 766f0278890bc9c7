use Rattle.rv_core.proofs.watching.show.Goals as goal

pub see-requires-clause-shown : goal.see-requires-clause-shown
see-requires-clause-shown g c = rw c.lent.ensures c.requires.shown

pub returns : goal.returns
returns g c = rw c.lent.ensures at c.see.ensures
