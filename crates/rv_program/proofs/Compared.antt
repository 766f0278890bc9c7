-- Jobs that are run one after the other.
use Rattle.std.proofs.Common.{◌≡◌, ◌∙◌, ℕ, ◌+◌, ◌<◌, List, [], ◌∷◌, ◌++◌}
use Rattle.std.proofs.Common.{length, take, get_or, sym, ap, subst, arith}
use Rattle.std.proofs.lemmas.List.{take_all, take_more}
use Rattle.rv_job.specs.declared.job.Job.{Job}
use Rattle.rv_report.specs.declared.losses.ComparedRun.{ComparedRun}
use Rattle.rv_report.specs.declared.shown.TableOptions.{TableOptions}
use Rattle.rv_program.specs.Comparison.{AreRuns, IsRun}

-- one more run
pub run_more : (options : TableOptions) (jobs : List Job) (place : ℕ) → place < length jobs →
    (runs : List ComparedRun) → AreRuns options (take place jobs) runs
    → (job : Job) → job ≡ get_or jobs place job → (run : ComparedRun) → IsRun options job run →
    AreRuns options (take (place + 1) jobs) (runs ++ run ∷ [])
run_more options jobs place below runs done job is run here =
    subst (λ l. AreRuns options l (runs ++ run ∷ []))
    (ap (λ j. take place jobs ++ j ∷ []) is ∙ sym (take_more jobs place job below))
    (AreRuns.another job done here)

-- all are run
pub all_run : (options : TableOptions) (jobs : List Job) (place : ℕ) (runs : List ComparedRun) → place ≡ length jobs →
    AreRuns options (take place jobs) runs → AreRuns options jobs runs
all_run options jobs place runs is done =
    subst (λ l. AreRuns options l runs) (take_all place jobs (omega (arith, is))) done
