use Rattle.std.proofs.Common.{arith}
use Rattle.rv_core.proofs.Phases.Entered.{decoded-first, sound-taken}
use Rattle.rv_core.proofs.parts.Parts.dispatch_one.Goals as goal

pub invariant_of-self : goal.invariant_of-self
invariant_of-self c = sound-taken c.self.inside c.take-fetched.new.self c.self.invariant c.take-fetched.ensures.rest

pub enter-requires-clause-decoded : goal.enter-requires-clause-decoded
enter-requires-clause-decoded c = grind (arith, decoded-first)
