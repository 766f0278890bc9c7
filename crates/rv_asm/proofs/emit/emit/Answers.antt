use Rattle.std.proofs.Common.{refl}
use Rattle.rv_asm.proofs.emit.emit.Goals as goal

pub returns-in-Values : goal.returns-in-Values
returns-in-Values c = rw (c.in-Values.is, ← c.if-are_known.ensures) c.emit_values.ensures

pub returns-in-Values-2 : goal.returns-in-Values-2
returns-in-Values-2 c = λ not_memory. rw (c.in-Values.is, ← c.if-are_known.ensures) refl
