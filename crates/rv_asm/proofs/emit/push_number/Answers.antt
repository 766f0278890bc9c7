use Rattle.std.proofs.Common.{arith}
use Rattle.rv_asm.proofs.Emitted.{appends_bytes}
use Rattle.rv_asm.proofs.emit.push_number.Goals as goal

pub returns : goal.returns
returns c = grind (arith, appends_bytes)
