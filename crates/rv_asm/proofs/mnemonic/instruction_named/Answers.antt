use Rattle.rv_asm.specs.Mnemonic.{instructions}
use Rattle.rv_asm.proofs.mnemonic.instruction_named.Goals as goal

-- the program's table is the definition's
pub returns : goal.returns
unfolding instructions
returns c = c.lookup.ensures
