-- What the report of a run of the one-at-a-time machine says.
use Rattle.std.specs.Prelude.{◌≡◌, ℕ, List}
use Rattle.rv_isa.specs.declared.values.{ReportValues.ReportValues, Values.Values}
use Rattle.rv_arch.specs.Machine.{Machine}
use Rattle.rv_memory.specs.Memory.{Layout}
use Rattle.rv_isa.specs.Arrivals.{no_lines}
use Rattle.rv_arch.specs.Reset.{reset}
use Rattle.rv_arch.specs.RunOutcome.{IsRunTo}
use Rattle.rv_arch.specs.declared.outcome.{RefOutcome.RefOutcome, Stop.Stop}
use Rattle.rv_report.specs.ReferenceReport.{reference_report}
use Rattle.rv_job.specs.declared.job.Job.{Job}
use Rattle.rv_report.specs.declared.options.Options.{Options}

-- where the RAM of a described machine lies
abbrev pub layout_of : Values → Layout
layout_of machine = record { base = machine.ram_base; size = machine.ram_size; rom_bytes = machine.rom_bytes }

-- a described machine at reset, with an image at the front of RAM and the pc at its start
abbrev pub at_reset : Values → List ℕ → ℕ → Machine
at_reset machine image start =
    record { layout = layout_of machine; state = reset (layout_of machine) image start; lines = no_lines }

-- the options, with the words of memory that a description asks for
abbrev pub shown : ReportValues → Options → Options
shown report options = record options { dump_address = report.dump_address; dump_words = report.dump_words }

-- A text is the report of the run that a job's image has from reset, with the job's arrivals at the numbers of the steps, up to a
-- breakpoint, a stale word or the options' limit of steps; and that is why the run ended.
pub record IsReferenceReport (job : Job) (options : Options) (stop : Stop) (text : List ℕ) : Type 0 where
  pub outcome : RefOutcome
  pub end : Machine
  pub run : IsRunTo job.arrivals options.limit (at_reset job.description job.image.bytes job.image.start) end outcome
  pub stopped : outcome.stop ≡ stop
  pub text_is : text ≡ reference_report outcome end (shown job.description.report options)
