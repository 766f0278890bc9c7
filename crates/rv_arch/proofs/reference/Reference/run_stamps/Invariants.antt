use Rattle.std.proofs.Common.{List, take}
use Rattle.rv_arch.specs.declared.outcome.RefStep.{RefStep}
use Rattle.rv_arch.proofs.RunInvariants.{Went}
use Rattle.rv_arch.proofs.reference.Reference.run_stamps.Given as goal

abbrev pub invariant-loop-taken : goal.invariant-loop-taken
invariant-loop-taken l = (outcomes : List RefStep) × Went l.arrivals (take l.taken l.stamps) outcomes l.fn.self l.self
