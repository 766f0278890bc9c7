-- A comparison has one table: its machines' predictors are described, and so each of them has one run.
use Rattle.std.proofs.Common.{◌≡◌, ◌+◌, ◌^◌, ◌≤◌, List, [], ◌∷◌, ◌++◌, refl, arith}
use Rattle.rv_front.specs.Predictors.{guide_of}
use Rattle.rv_front.specs.declared.predictors.DescribedPredictor.{DescribedPredictor}
use Rattle.rv_hardware.specs.Guided.{GuidedHardware, guided}
use Rattle.rv_hardware.specs.Hardware.{Hardware}
use Rattle.rv_isa.specs.declared.lines.Arrival.{Arrival}
use Rattle.rv_job.specs.declared.{comparison.Comparison.Comparison, job.Job.Job}
use Rattle.rv_passage.specs.EndedRun.{IsEndedRun}
use Rattle.rv_passage.proofs.OneRun.{one_run}
use Rattle.rv_report.specs.Comparison.{RunsTo}
use Rattle.rv_report.specs.declared.shown.TableOptions.{TableOptions}
use Rattle.rv_report.specs.declared.{losses.ComparedRun.ComparedRun}
use Rattle.rv_program.specs.Comparison.{AreRuns, IsAtMostOneText, IsComparisonTable, IsRun, another, nothing}
use Rattle.rv_program.specs.CoreReport.{hardware_of}

ended_run : {arrivals : List Arrival} {options : TableOptions} {old : GuidedHardware} {run : ComparedRun}
    (is : RunsTo arrivals options old run)
    → IsEndedRun arrivals options.limit old is.moments is.new run.totals.stop
ended_run is = record { passes = is.cycles; stops = is.stops }

-- a run of hardware with a described predictor comes to one thing
pub came_to_once : {arrivals : List Arrival} {options : TableOptions} {h : Hardware} {predictor : DescribedPredictor}
    (run run' : ComparedRun) → h.cycle + options.limit ≤ 2 ^ 40
    → RunsTo arrivals options (guided h (guide_of predictor)) run →
    RunsTo arrivals options (guided h (guide_of predictor)) run' → run ≡ run'
came_to_once {arrivals} {options} {h} {predictor} run run' within is is' = grind (arith, one_run, ended_run)

module _ (options : TableOptions) where
  -- each job's run came to what stands at its place
  abbrev EachRun : List Job → List ComparedRun → Type 0
  EachRun [] [] = Unit {0}
  EachRun (job ∷ jobs) (run ∷ runs) = IsRun options job run × EachRun jobs runs
  EachRun [] (run ∷ runs) = ⊥
  EachRun (job ∷ jobs) [] = ⊥

  EachRun-push : (jobs : List Job) (runs : List ComparedRun) (job : Job) (run : ComparedRun) → EachRun jobs runs →
      IsRun options job run → EachRun (jobs ++ job ∷ []) (runs ++ run ∷ [])
  EachRun-push [] [] job run each last = (last, tt)
  EachRun-push (first ∷ jobs) (its ∷ runs) job run each last = (each.0, EachRun-push jobs runs job run each.1 last)
  EachRun-push [] (its ∷ runs) job run each last = absurd each
  EachRun-push (first ∷ jobs) [] job run each last = absurd each

  each_run : {jobs : List Job} {runs : List ComparedRun} → AreRuns options jobs runs → EachRun jobs runs
  each_run nothing = tt
  each_run (another {jobs = jobs} {runs = runs} {run = run} job before last) =
      EachRun-push jobs runs job run (each_run before) last

  runs_once : options.limit ≤ 2 ^ 40 → (jobs : List Job) (runs runs' : List ComparedRun) → EachRun jobs runs →
      EachRun jobs runs' → runs ≡ runs'
  runs_once within [] [] [] each each' = refl
  runs_once within [] (run ∷ runs) runs' each each' = absurd each
  runs_once within [] [] (run' ∷ runs') each each' = absurd each'
  runs_once within (job ∷ jobs) [] runs' each each' = absurd each
  runs_once within (job ∷ jobs) (run ∷ runs) [] each each' = absurd each'
  runs_once within (job ∷ jobs) (run ∷ runs) (run' ∷ runs') each each' =
      let first : run ≡ run' = came_to_once {h = hardware_of job} run run' (omega (arith, within)) each.0 each'.0 in
      let rest = runs_once within jobs runs runs' each.1 each'.1 in
      λ i. first i ∷ rest i

-- there is one table of a comparison
pub one_table_of : (comparison : Comparison) (options : TableOptions) → options.limit ≤ 2 ^ 40 →
    IsAtMostOneText (IsComparisonTable comparison options)
one_table_of comparison options within text text' is is' = grind (arith, runs_once, each_run)
