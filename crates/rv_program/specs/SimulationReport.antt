-- What the report of a simulation says: of bytes, the one-at-a-time machine, and the numbers of cycles alone.
use Rattle.std.specs.Prelude.{◌≡◌, ℕ, ◌-◌, ◌==◌, if◌then◌else◌, List}
use Rattle.rv_isa.specs.Arrivals.{lines_at}
use Rattle.rv_isa.specs.declared.lines.{Arrival.Arrival, Lines.Lines}
use Rattle.rv_isa.specs.Arrivals.{no_lines}
use Rattle.rv_arch.specs.Reset.{reset}
use Rattle.rv_arch.specs.State.{State}
use Rattle.rv_arch.specs.declared.outcome.Stop.{Stop}
use Rattle.rv_hardware.specs.Headline.{IsTrueStop}
use Rattle.rv_hardware.specs.Promise.{IsPromised, Reported}
use Rattle.rv_hardware.specs.declared.step.Step.{Step}
use Rattle.rv_report.specs.RunReport.{run_report}
use Rattle.rv_report.specs.Totals.{counts_of}
use Rattle.rv_report.specs.declared.{options.Options.Options, totals.Totals.Totals}
use Rattle.rv_program.specs.ReferenceReport.{layout_of, shown}
use Rattle.rv_job.specs.declared.job.Job.{Job}

-- the levels of the interrupt lines after so many cycles: those of the last one
abbrev pub lines_after : List Arrival → ℕ → Lines
lines_after arrivals cycles = if cycles == 0 then no_lines else lines_at arrivals (cycles - 1)

-- the state that programs see at reset with the job's image
abbrev pub state_at_reset : Job → State
state_at_reset job = reset (layout_of job.description) job.image.bytes job.image.start

-- what is reported of a run by its steps and by what they came to
abbrev pub reported_by : List Step → Totals → Reported
reported_by steps totals = record {
  steps = steps;
  stalls = totals.stalls;
  busy = totals.busy;
  cycles = totals.cycles;
  longest_gap = totals.longest_gap;
}

-- A text is the report of a simulation of a job that ended for a reason.
pub record IsSimulationReport (job : Job) (options : Options) (stop : Stop) (text : List ℕ) : Type 0 where
  -- the reported steps, in program order, what they came to, and the state that programs see at the end
  pub steps : List Step
  pub totals : Totals
  pub end : State
  -- of the cycles from reset with the job's image all is true that is promised of a run
  pub promised : IsPromised job.description job.arrivals 0 totals.cycles (state_at_reset job)
      (reported_by steps totals) end
  -- they ended at a breakpoint, a stale word, or the limit of cycles
  pub stopped : totals.stop ≡ stop
  pub ends : IsTrueStop (layout_of job.description) job.arrivals options.limit 0 totals.cycles steps end stop
  -- the steps are counted by their sort
  pub counts : totals.steps ≡ counts_of steps
  -- the text shows the steps, where a trace is asked for, these totals, the state, and the words of memory that the
  -- description asks for
  pub text_is : text ≡ run_report steps totals (layout_of job.description) end (lines_after job.arrivals totals.cycles)
      (shown job.description.report options)
