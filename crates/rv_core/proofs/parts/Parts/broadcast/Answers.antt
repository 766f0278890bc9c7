use Rattle.rv_core.proofs.Words.{arith, broadcast, turn_of}
use Rattle.rv_core.proofs.Phases.Turned.{turned-goes}
use Rattle.rv_core.proofs.parts.Parts.broadcast.Goals as goal

pub loop-preserved : goal.loop-preserved
loop-preserved c = grind (arith, turn_of, turned-goes, broadcast)
