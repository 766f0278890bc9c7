use Rattle.rv_arch.proofs.RunInvariants.{IsCounted}
use Rattle.rv_arch.proofs.run.run_reference.Given as goal

abbrev pub invariant-loop-stamp : goal.invariant-loop-stamp
invariant-loop-stamp l = IsCounted l.arrivals l.stamp l.fn.reference l.reference l.outcome
