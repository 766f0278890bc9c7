use Rattle.std.proofs.Common.{arith}
use Rattle.rv_decode.proofs.Masks.{and_opcode}
use Rattle.rv_decode.proofs.OtherOpcodes.{not_serial}
use Rattle.rv_counts.proofs.place_uses.is_serialising_word.Goals as goal

pub returns-then-opcode-ne-SYSTEM : goal.returns-then-opcode-ne-SYSTEM
returns-then-opcode-ne-SYSTEM c = grind (arith, and_opcode, not_serial)
