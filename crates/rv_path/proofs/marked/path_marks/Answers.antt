use Rattle.rv_path.proofs.OneMarking.{one_marking}
use Rattle.rv_path.proofs.marked.path_marks.Goals as goal

-- whatever is answered
pub returns-clause-one_marking : goal.returns-clause-one_marking
returns-clause-one_marking g c = one_marking c.args.arrivals.now c.args.from c.args.cycles
