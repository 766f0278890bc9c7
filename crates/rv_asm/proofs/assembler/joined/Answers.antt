use Rattle.std.proofs.Common.{append_assoc, arith}
use Rattle.rv_asm.proofs.Emitted.{spells_append}
use Rattle.rv_asm.proofs.assembler.joined.Goals as goal

pub returns-clause-spells : goal.returns-clause-spells
returns-clause-spells c = grind (arith, append_assoc, spells_append)
