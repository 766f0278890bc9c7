-- What the table of a comparison says.
use Rattle.std.specs.Prelude.{◌≡◌, ℕ, List, [], ◌∷◌, ◌++◌, map}
use Rattle.rv_hardware.specs.Guided.{guided}
use Rattle.rv_isa.specs.declared.values.Values.{Values}
use Rattle.rv_job.specs.declared.{comparison.Comparison.Comparison, job.Job.Job}
use Rattle.rv_report.specs.Comparison.{RunsTo, table_of}
use Rattle.rv_report.specs.declared.losses.ComparedRun.{ComparedRun}
use Rattle.rv_report.specs.declared.shown.TableOptions.{TableOptions}
use Rattle.rv_program.specs.CoreReport.{hardware_on, untaught_of}

-- a run of a machine, with the predictor that it describes, from reset with a job's image, came to this
abbrev pub IsRunOn : TableOptions → Job → Values → ComparedRun → Type 0
IsRunOn options job machine run =
    RunsTo job.arrivals options (guided (hardware_on machine job) (untaught_of machine.predictor)) run

-- a run of the machine that a job describes
abbrev pub IsRun : TableOptions → Job → ComparedRun → Type 0
IsRun options job run = IsRunOn options job job.description run

-- runs of some jobs came to this, in the jobs' order
pub data AreRuns (options : TableOptions) : List Job → List ComparedRun → Type 0 where
  nothing : AreRuns options [] []
  another : {jobs : List Job} {runs : List ComparedRun} {run : ComparedRun} (job : Job) → AreRuns options jobs runs →
      IsRun options job run → AreRuns options (jobs ++ job ∷ []) (runs ++ run ∷ [])

-- a text is the table of runs of a comparison's jobs, with the names of their machines
pub record IsComparisonTable (comparison : Comparison) (options : TableOptions) (text : List ℕ) : Type 0 where
  pub runs : List ComparedRun
  pub done : AreRuns options comparison.jobs.items runs
  pub text_is : text ≡ table_of options.shown (map (λ name. name.items) comparison.names.items) runs

-- at most one text is one
abbrev pub IsAtMostOneText : (List ℕ → Type 0) → Type 0
IsAtMostOneText Is = (text text' : List ℕ) → Is text → Is text' → text ≡ text'
