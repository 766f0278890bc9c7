use Rattle.std.proofs.Common.{arith}
use Rattle.rv_text.proofs.Writing.{Appends-kept}
use Rattle.rv_program.proofs.refusal.show_refusal.Goals as goal

pub returns-in-Ok-flush : goal.returns-in-Ok-flush
returns-in-Ok-flush g c = grind (arith, Appends-kept)

pub returns-in-Err-flush : goal.returns-in-Err-flush
returns-in-Err-flush g c = grind (arith, Appends-kept)
