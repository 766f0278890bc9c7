use Rattle.rv_asm.specs.Names.{register_names}
use Rattle.rv_asm.proofs.names.register_number.Goals as goal

-- the program's table is the definition's
pub returns : goal.returns
unfolding register_names
returns c = c.lookup.ensures
