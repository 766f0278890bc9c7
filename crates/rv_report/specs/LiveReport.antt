-- The report of a run that is written as its cycles come.
use Rattle.std.specs.Prelude.{◌≡◌, Bool, List, ℕ, Option, Result, Ok, Err}
use Rattle.std.specs.Io.KnownBytes.{Appends}
use Rattle.rv_isa.specs.declared.lines.Arrival.{Arrival}
use Rattle.rv_arch.specs.declared.outcome.Stop.{Stop}
use Rattle.rv_hardware.specs.Guided.{GuidedCycles, GuidedHardware}
use Rattle.rv_hardware.specs.History.{Moment, reports_of}
use Rattle.rv_hardware.specs.Report.{Report}
use Rattle.rv_hardware.specs.Run.{IsStop, steps_of}
use Rattle.rv_hardware.specs.Seen.{layout_of, seen}
use Rattle.rv_report.specs.Rows.{trace_lines}
use Rattle.rv_report.specs.RunReport.{run_report, trace_of}
use Rattle.rv_report.specs.Totals.{counts_of, totals_at}
use Rattle.rv_text.specs.Said.{IsSaid}
use Rattle.rv_text.specs.Written.{AppendsBeginning}
use Rattle.rv_report.specs.declared.{options.Options.Options, totals.StepCounts.StepCounts, totals.Totals.Totals}

-- the steps of the cycles so far are counted, and their lines are said
pub record HasTraced (counts : StepCounts) (failed : Bool) (moments : List Moment)
    (before now : Option (List ℕ)) : Type 0 where
  pub counted : counts ≡ counts_of (steps_of (reports_of moments))
  pub trace : IsSaid failed before now (trace_lines (steps_of (reports_of moments)))

-- cycles that ended, with what they came to, and with their trace, where it is asked for, written
pub record IsTraced (arrivals : List Arrival) (options : Options) (old new : GuidedHardware) (totals : Totals)
    (failed : Bool) (before after : Option (List ℕ)) : Type 0 where
  pub reports : List Report
  pub cycles : GuidedCycles arrivals old reports new
  pub stops : IsStop options.limit reports new.hardware totals.stop
  pub totals_are : totals ≡ totals_at reports totals.stop
  pub trace : IsSaid failed before after (trace_of options.trace (steps_of reports))

-- A text is the report of a run that ended for a reason.
pub record IsRunReport (arrivals : List Arrival) (options : Options) (old : GuidedHardware) (stop : Stop)
    (text : List ℕ) : Type 0 where
  pub reports : List Report
  pub new : GuidedHardware
  pub cycles : GuidedCycles arrivals old reports new
  pub stops : IsStop options.limit reports new.hardware stop
  pub text_is : text ≡ run_report (steps_of reports) (totals_at reports stop) (layout_of new.hardware.values)
      (seen new.hardware) new.hardware.lines options

-- One of the reports that may come is written, and why its run ended is answered, or a beginning of one is written.
abbrev pub Reports : {E : Type 0} → (Stop → List ℕ → Type 0) → Result Stop E → Option (List ℕ) →
    Option (List ℕ) → Type 0
Reports IsReport (Ok stop) old new = (text : List ℕ) × IsReport stop text × Appends old new text
Reports IsReport (Err error) old new =
    (stop : Stop) × (text : List ℕ) × IsReport stop text × AppendsBeginning old new text
