use Rattle.std.proofs.Common.{arith}
use Rattle.rv_decode.proofs.Masks.{and_opcode}
use Rattle.rv_decode.proofs.OtherOpcodes.{no_store}
use Rattle.rv_causes.proofs.waiting_stores.is_store_word.Goals as goal

pub returns-then-word-ne-STORE : goal.returns-then-word-ne-STORE
returns-then-word-ne-STORE c = grind (arith, and_opcode, no_store)
