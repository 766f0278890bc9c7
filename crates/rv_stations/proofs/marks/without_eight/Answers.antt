-- Eight bits are cleared, and the others stay.
use Rattle.rv_stations.proofs.ColumnLemmas.{cleared-inside, cleared-below, cleared-above}
use Rattle.rv_stations.proofs.marks.without_eight.Goals as goal

pub returns-clause-eight : goal.returns-clause-eight
returns-clause-eight c = λ place le lt. cleared-inside c.args.mask c.args.start place c.requires le lt

pub returns-clause-before : goal.returns-clause-before
returns-clause-before c = λ place lt. cleared-below c.args.mask c.args.start place c.requires lt

pub returns-clause-after : goal.returns-clause-after
returns-clause-after c = λ place le lt. cleared-above c.args.mask c.args.start place c.requires le lt
