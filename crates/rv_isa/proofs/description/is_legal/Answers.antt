use Rattle.rv_isa.proofs.LegalKeys.{each_legal, obeys_each}
use Rattle.rv_isa.proofs.description.is_legal.Goals as goal

pub returns-clause-legal : goal.returns-clause-legal
returns-clause-legal c = rw (c.obeys_each.ensures, c.all_keys.ensures) (each_legal c.args.values.now)

pub returns-clause-keys : goal.returns-clause-keys
returns-clause-keys c = rw (c.obeys_each.ensures, c.all_keys.ensures) (obeys_each c.args.values.now)
