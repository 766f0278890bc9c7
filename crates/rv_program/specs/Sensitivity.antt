-- What the table says that shows which change of a job's machine would help.
use Rattle.std.specs.Prelude.{◌≡◌, ℕ, List}
use Rattle.std.specs.List.{AllZip}
use Rattle.rv_job.specs.declared.job.Job.{Job}
use Rattle.rv_report.specs.Sensitivity.{AreInOrder, in_order, sensitivity_table, tried_run}
use Rattle.rv_report.specs.declared.{losses.ComparedRun.ComparedRun, sensitivity.TriedRun.TriedRun}
use Rattle.rv_report.specs.declared.{shown.TableOptions.TableOptions}
use Rattle.rv_sensitivity.specs.Neighbours.{neighbours_of}
use Rattle.rv_sensitivity.specs.declared.{change.Change.Change, neighbour.Neighbour.Neighbour}
use Rattle.rv_program.specs.Comparison.{IsRun, IsRunOn}

-- the run of a job on a neighbour of its machine came to this
abbrev pub IsTried : TableOptions → Job → Neighbour → TriedRun → Type 0
IsTried options job neighbour tried =
    (run : ComparedRun) × IsRunOn options job neighbour.machine run × (tried ≡ tried_run neighbour run)

-- rows are what the runs of a job on its machine's neighbours came to, each once, in the order of their cycles
pub record AreRows (options : TableOptions) (job : Job) (own : List Change) (rows : List TriedRun) : Type 0 where
  pub tried : List TriedRun
  pub each : AllZip (IsTried options job) (neighbours_of job.description own) tried
  pub rows_are : rows ≡ in_order tried
  pub in_order : AreInOrder tried rows

-- a text is the table of the run of a job on its machine and of those on that machine's neighbours
pub record IsSensitivityTable (job : Job) (own : List Change) (options : TableOptions) (text : List ℕ) : Type 0 where
  pub run : ComparedRun
  pub rows : List TriedRun
  pub as_it_is : IsRun options job run
  pub tried : AreRows options job own rows
  pub text_is : text ≡ sensitivity_table job.description run rows
