-- What cycles from reset came to is what the report of a simulation says.
use Rattle.std.proofs.Common.{◌≡◌, ℕ, List, length, refl, sym, subst, ap, ◌∙◌, arith}
use Rattle.rv_isa.specs.Arrivals.{lines_at}
use Rattle.rv_isa.specs.Description.{IsLegal}
use Rattle.rv_isa.specs.declared.{lines.Arrival.Arrival, lines.Lines.Lines, values.Values.Values}
use Rattle.rv_arch.specs.declared.outcome.Stop.{Stop}
use Rattle.rv_front.specs.Guide.{Guide}
use Rattle.rv_hardware.specs.Guided.{GuidedCycles, GuidedHardware, guided}
use Rattle.rv_hardware.specs.Hardware.{Hardware}
use Rattle.rv_hardware.specs.Headline.{IsTrueStop}
use Rattle.rv_hardware.specs.Promise.{IsPromised, reported_of}
use Rattle.rv_hardware.specs.Report.{Report}
use Rattle.rv_hardware.specs.Reset.{IsLoadable}
use Rattle.rv_hardware.specs.Run.{Cycles, ended, cycled, IsStop, Reachable, at_reset, steps_of}
use Rattle.rv_hardware.specs.Seen.{seen}
use Rattle.rv_hardware.proofs.AnyPrediction.{cycles_of}
use Rattle.rv_hardware.proofs.Gap.Run.{is_stop-only_last}
use Rattle.rv_hardware.proofs.Headline.Cycle.{always_sound, cycle_true}
use Rattle.rv_hardware.proofs.Headline.Invariant.{IsSound}
use Rattle.rv_hardware.proofs.Headline.Reached.{cycles_counted}
use Rattle.rv_hardware.proofs.Headline.Stops.{headline_of_stop}
use Rattle.rv_hardware.proofs.Promise.{promise_of_run}
use Rattle.rv_report.specs.LiveReport.{IsRunReport}
use Rattle.rv_report.specs.RunReport.{run_report}
use Rattle.rv_report.specs.Totals.{totals_at}
use Rattle.rv_report.specs.declared.options.Options.{Options}
use Rattle.rv_program.specs.CoreReport.{IsSimulation, core_of, hardware_of, text_of}
use Rattle.rv_program.specs.ReferenceReport.{layout_of, shown}
use Rattle.rv_program.specs.SimulationReport.{IsSimulationReport, lines_after, state_at_reset}
use Rattle.rv_job.specs.declared.job.Job.{Job}
use Rattle.rv_program.proofs.LinesAfter.{lines_are}

module _ (job : Job) (predictor : Guide) (options : Options) (stop : Stop) (reports : List Report)
    (end : GuidedHardware)
    (legal : IsLegal job.description)
    (loadable : IsLoadable job.description job.image.base job.image.bytes job.image.start)
    (guided_cycles : GuidedCycles job.arrivals (core_of job predictor) reports end)
    (stopped : IsStop options.limit reports end.hardware stop) where
  abbrev new : Hardware
  new = end.hardware

  abbrev cycles : Cycles job.arrivals (hardware_of job) reports new
  cycles = cycles_of guided_cycles

  promised : IsSimulationReport job options stop (text_of job options stop reports new)
  promised =
      let reached : Reachable (hardware_of job) = at_reset legal loadable in
      let number : new.cycle ≡ length reports = omega (arith, cycles_counted cycles) in
      let layout = layout_of job.description in
      let start = state_at_reset job in
      let totals = totals_at reports stop in
      let steps = steps_of reports in
      let lines : new.lines ≡ lines_after job.arrivals (length reports) = lines_are cycles refl refl
      ∙ ap (lines_after job.arrivals) number in
      record {
        steps = steps;
        totals = totals;
        end = seen new;
        promised =
            subst (λ n. IsPromised job.description job.arrivals 0 n start (reported_of reports) (seen new)) number
            (promise_of_run reached cycles (is_stop-only_last options.limit reports new stop stopped));
        stopped = refl;
        ends =
            subst (λ n. IsTrueStop layout job.arrivals options.limit 0 n steps (seen new) stop) number
            (headline_of_stop job.arrivals options.limit (hardware_of job) new reports stop reached cycles stopped);
        counts = refl;
        text_is = ap (λ (levels : Lines). run_report steps totals layout (seen new) levels
            (shown job.description.report options)) lines;
      }

  pub simulated : IsSimulation job predictor options stop (text_of job options stop reports new)
  simulated =
      record {
        promises = promised;
        timing = record { reports = reports; end = end; cycles = guided_cycles; stops = stopped; text_is = refl };
      }

-- a run does not change what was described
values_kept : {arrivals : List Arrival} {old new : Hardware} {reports : List Report} → IsSound old →
    Cycles arrivals old reports new → new.values ≡ old.values
values_kept sound ended = refl
values_kept {arrivals} sound (cycled {old = old} {middle = middle} {report = report} cycle rest) =
    let goes = cycle_true (lines_at arrivals old.cycle) old report middle sound cycle in
    values_kept goes.sound rest ∙ goes.values_are

-- the report of a run of the core
pub run_simulated : {asked : Options} {values : Values} {old : Hardware} {stop : Stop} {text : List ℕ} (job : Job)
    (predictor : Guide) (options : Options)
    → values ≡ job.description → IsLegal values →
    IsLoadable job.description job.image.base job.image.bytes job.image.start → old ≡ hardware_of job
    → asked ≡ shown values.report options → IsRunReport job.arrivals asked (guided old predictor) stop text →
    IsSimulation job predictor options stop text
run_simulated {asked} {values} {old} {stop} {text} job predictor options values_are values_legal
    loadable old_is asked_is run =
    let legal = subst IsLegal values_are values_legal in
    let options_are : asked ≡ shown job.description.report options = asked_is
    ∙ ap (λ (v : Values). shown v.report options) values_are in
    let cycles = subst (λ (h : Hardware). GuidedCycles job.arrivals (guided h predictor) run.reports
    run.new) old_is run.cycles in
    let stops = subst (λ (o : Options). IsStop o.limit run.reports run.new.hardware stop) options_are run.stops in
    let kept = values_kept (always_sound (at_reset legal loadable)) (cycles_of cycles) in
    let text_is : text_of job options stop run.reports run.new.hardware ≡ text =
    (λ i. run_report (steps_of run.reports) (totals_at run.reports stop) (layout_of (sym kept i))
    (seen run.new.hardware) run.new.hardware.lines (sym options_are i)) ∙ sym run.text_is
    in
    subst (IsSimulation job predictor options stop) text_is
    (simulated job predictor options stop run.reports run.new legal loadable cycles stops)
