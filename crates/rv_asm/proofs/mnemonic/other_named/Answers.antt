use Rattle.rv_asm.specs.Mnemonic.{others}
use Rattle.rv_asm.proofs.mnemonic.other_named.Goals as goal

-- the program's table is the definition's
pub returns : goal.returns
unfolding others
returns c = c.lookup.ensures
