use Rattle.std.proofs.Common.{arith}
use Rattle.rv_core.proofs.Issued.Parts.{turn_unready}
use Rattle.rv_core.proofs.parts.Parts.issue_one.Goals as goal

pub returns-then-not-may_be_ready-clause-turn : goal.returns-then-not-may_be_ready-clause-turn
returns-then-not-may_be_ready-clause-turn c = grind (arith, turn_unready)
