use Rattle.std.proofs.Common.{take, sym, subst, arith}
use Rattle.rv_job.specs.Comparison.{AreLoaded, RefusesLoading}
use Rattle.rv_job.proofs.Compared.{loaded_more, refused_at}
use Rattle.rv_job.proofs.HandedOn.{refused_on}
use Rattle.rv_job.proofs.comparison.load_each.Goals as goal

pub loop-place-init : goal.loop-place-init
loop-place-init c =
    subst (λ jobs. AreLoaded c.args.program.now (take 0 c.args.descriptions.now) jobs)
    (sym c.new-jobs.ensures.items) AreLoaded.nothing

pub returns-in_err-job-clause-refused : goal.returns-in_err-job-clause-refused
returns-in_err-job-clause-refused c = grind (arith, refused_on, refused_at)

pub returns-in_default-clause-refused : goal.returns-in_default-clause-refused
returns-in_default-clause-refused c = RefusesLoading.memory

pub loop-place-preserved : goal.loop-place-preserved
loop-place-preserved c = grind (arith, loaded_more)
