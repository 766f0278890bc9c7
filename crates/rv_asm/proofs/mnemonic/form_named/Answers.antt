use Rattle.std.proofs.Common.{arith}
use Rattle.rv_asm.proofs.mnemonic.form_named.Goals as goal

pub returns-in-Some : goal.returns-in-Some
returns-in-Some c = grind arith

pub returns-in-None : goal.returns-in-None
returns-in-None c = grind arith
