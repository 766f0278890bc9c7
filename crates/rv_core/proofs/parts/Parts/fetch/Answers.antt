use Rattle.std.proofs.Common.{arith}
use Rattle.rv_core.proofs.Phases.Fetched.{fetched_decoded}
use Rattle.rv_core.proofs.parts.Parts.fetch.Goals as goal

pub invariant_of-self : goal.invariant_of-self
invariant_of-self g c = grind (arith, fetched_decoded)
