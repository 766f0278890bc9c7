use Rattle.std.proofs.Common.{sym, arith, rules}
use Rattle.rv_job.proofs.SeparatorCount.{another, one_more}
use Rattle.rv_job.proofs.comparison.has_too_many.Goals as goal

pub loop-preserved : goal.loop-preserved
loop-preserved c =
    let next = one_more _ _ (sym c.in-Some.ensures) in
    omega (arith, c.loop.invariant, next)

pub returns : goal.returns
returns c = grind (arith, rules, another)
