use Rattle.std.proofs.Common.{arith}
use Rattle.rv_decode.proofs.Masks.{and_opcode}
use Rattle.rv_sentences.proofs.StoreWords.{not_stored}
use Rattle.rv_sentences.proofs.stores.store_by.Goals as goal

pub returns-then-word-ne-STORE : goal.returns-then-word-ne-STORE
returns-then-word-ne-STORE c = grind (arith, and_opcode, not_stored)
