use Rattle.rv_sensitivity.proofs.LegalMachine.{made_where_legal}
use Rattle.rv_sensitivity.proofs.neighbour.legal_machine.Goals as goal

pub returns : goal.returns
returns c = made_where_legal c.args.values c.new.result c.new.ensures.legal c.new.ensures.description
