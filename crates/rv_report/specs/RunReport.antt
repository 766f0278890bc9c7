-- The report of a run of the core.
use Rattle.std.specs.Prelude.{ℕ, Bool, if◌then◌else◌, List, [], ◌++◌}
use Rattle.rv_isa.specs.declared.lines.Lines.{Lines}
use Rattle.rv_memory.specs.Memory.{Layout}
use Rattle.rv_arch.specs.State.{State}
use Rattle.rv_core.specs.declared.outcome.Outcome.{Outcome}
use Rattle.rv_hardware.specs.Hardware.{Hardware}
use Rattle.rv_hardware.specs.Seen.{layout_of, seen}
use Rattle.rv_hardware.specs.declared.step.Step.{Step}
use Rattle.rv_report.specs.Memory.{seen_memory_lines}
use Rattle.rv_report.specs.Rows.{trace_lines}
use Rattle.rv_report.specs.State.{stop_line, state_lines}
use Rattle.rv_report.specs.Totals.{total_lines, totals_of}
use Rattle.rv_report.specs.declared.{options.Options.Options, totals.Totals.Totals}

-- why a run ended, its counts, and the pc, the registers and the CSRs that programs see then
unfoldable pub end_lines : Totals → State → Lines → List ℕ
end_lines totals state lines =
    stop_line totals.stop ++ (total_lines totals ++ state_lines state.pc state.registers state.csrs lines)

-- what a report shows after the trace: the words of memory that are asked for are those that programs see
unfoldable pub end_text : Totals → Layout → State → Lines → Options → List ℕ
end_text totals layout state lines options =
    end_lines totals state lines ++ seen_memory_lines layout state.ram options.dump_address options.dump_words

-- the trace of some steps, where it is asked for
abbrev pub trace_of : Bool → List Step → List ℕ
trace_of trace steps = if trace then trace_lines steps else []

-- the report of a run with these steps, that left such a state
unfoldable pub run_report : List Step → Totals → Layout → State → Lines → Options → List ℕ
run_report steps totals layout state lines options =
    trace_of options.trace steps ++ end_text totals layout state lines options

-- the text after the trace, of hardware as programs see it
abbrev pub end_of : Totals → Hardware → Options → List ℕ
end_of totals h options = end_text totals (layout_of h.values) (seen h) h.lines options

-- the report of an outcome that left the hardware so
abbrev pub report_of : Outcome → Hardware → Options → List ℕ
report_of outcome h options =
    run_report outcome.steps.items (totals_of outcome) (layout_of h.values) (seen h) h.lines options
