use Rattle.rv_asm.specs.Mnemonic.{pseudo_instructions}
use Rattle.rv_asm.proofs.mnemonic.pseudo_instruction_named.Goals as goal

-- the program's table is the definition's
pub returns : goal.returns
unfolding pseudo_instructions
returns c = c.lookup.ensures
