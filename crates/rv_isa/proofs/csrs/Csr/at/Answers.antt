use Rattle.rv_isa.specs.Csr.{order}
use Rattle.rv_isa.proofs.csrs.Csr.at.Goals as goal

-- the program's list is the definition's
pub returns : goal.returns
unfolding order
returns c = c.first_at.ensures
