-- A job's machine and its neighbours have one table, since each of them has one run.
use Rattle.std.proofs.Common.{◌≡◌, ◌∙◌, ◌^◌, ◌≤◌, List, [], ◌∷◌, refl, sym, ap, arith}
use Rattle.std.specs.List.{AllZip}
use Rattle.rv_isa.specs.declared.values.Values.{Values}
use Rattle.rv_job.specs.declared.job.Job.{Job}
use Rattle.rv_report.specs.Sensitivity.{sensitivity_table, tried_run}
use Rattle.rv_report.specs.declared.{losses.ComparedRun.ComparedRun, sensitivity.TriedRun.TriedRun}
use Rattle.rv_report.specs.declared.{shown.TableOptions.TableOptions}
use Rattle.rv_sensitivity.specs.declared.{change.Change.Change, neighbour.Neighbour.Neighbour}
use Rattle.rv_program.specs.Comparison.{IsAtMostOneText, IsRunOn}
use Rattle.rv_program.specs.CoreReport.{hardware_on}
use Rattle.rv_program.specs.Sensitivity.{AreRows, IsSensitivityTable, IsTried}
use Rattle.rv_program.proofs.OneTable.{came_to_once}

module _ (job : Job) (options : TableOptions) (within : options.limit ≤ 2 ^ 40) where
  run_once : (machine : Values) (run run' : ComparedRun) → IsRunOn options job machine run →
      IsRunOn options job machine run' → run ≡ run'
  run_once machine run run' is is' = came_to_once {h = hardware_on machine job} run run' (omega (arith, within)) is is'

  tried_once : (neighbour : Neighbour) (tried tried' : TriedRun) → IsTried options job neighbour tried →
      IsTried options job neighbour tried' → tried ≡ tried'
  tried_once neighbour tried tried' (run, is, same) (run', is', same') =
      same ∙ ap (tried_run neighbour) (run_once neighbour.machine run run' is is') ∙ sym same'

  each_once : (neighbours : List Neighbour) (tried tried' : List TriedRun) →
      AllZip (IsTried options job) neighbours tried → AllZip (IsTried options job) neighbours tried' → tried ≡ tried'
  each_once [] [] [] each each' = refl
  each_once [] (first ∷ tried) tried' each each' = absurd each
  each_once [] [] (first' ∷ tried') each each' = absurd each'
  each_once (neighbour ∷ neighbours) [] tried' each each' = absurd each
  each_once (neighbour ∷ neighbours) (first ∷ tried) [] each each' = absurd each'
  each_once (neighbour ∷ neighbours) (first ∷ tried) (first' ∷ tried') each each' =
      let one = tried_once neighbour first first' each.0 each'.0 in
      let rest = each_once neighbours tried tried' each.1 each'.1 in
      λ i. one i ∷ rest i

  rows_once : (own : List Change) (rows rows' : List TriedRun) → AreRows options job own rows →
      AreRows options job own rows' → rows ≡ rows'
  rows_once own rows rows' are are' = grind (arith, each_once)

-- a job has one table of its neighbours
pub one_sensitivity_of : (job : Job) (own : List Change) (options : TableOptions) → options.limit ≤ 2 ^ 40 →
    IsAtMostOneText (IsSensitivityTable job own options)
one_sensitivity_of job own options within text text' is is' =
    let run = run_once job options within job.description is.run is'.run is.as_it_is is'.as_it_is in
    let rows = rows_once job options within own is.rows is'.rows is.tried is'.tried in
    is.text_is ∙ (λ i. sensitivity_table job.description (run i) (rows i)) ∙ sym is'.text_is
