use Rattle.std.proofs.Common.{arith}
use Rattle.rv_causes.proofs.WordWaits.{within-made}
use Rattle.rv_causes.proofs.account.Account.add.Goals as goal

pub invariant_of-self : goal.invariant_of-self
invariant_of-self c = grind (arith, within-made)
