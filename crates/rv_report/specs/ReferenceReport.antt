-- The report of a run of the one-at-a-time machine. Each line is a name, a space, a value and a line feed.
use Rattle.std.specs.Prelude.{ℕ, List, ◌++◌, codes}
use Rattle.rv_arch.specs.Machine.{Machine}
use Rattle.rv_arch.specs.declared.outcome.RefOutcome.{RefOutcome}
use Rattle.rv_text.specs.Line.{count_line}
use Rattle.rv_report.specs.Memory.{seen_memory_lines}
use Rattle.rv_report.specs.State.{stop_line, state_lines}
use Rattle.rv_report.specs.declared.options.Options.{Options}

-- what the run did
unfoldable pub count_lines : RefOutcome → List ℕ
count_lines outcome =
    count_line (codes "steps") outcome.steps ++
    (count_line (codes "retired") outcome.retired ++
    (count_line (codes "traps") outcome.traps ++
    count_line (codes "interrupts") outcome.interrupts))

-- the report of a run that left a machine so
unfoldable pub reference_report : RefOutcome → Machine → Options → List ℕ
reference_report outcome machine options =
    stop_line outcome.stop ++
    (count_lines outcome ++
    (state_lines machine.state.pc machine.state.registers machine.state.csrs machine.lines ++
    seen_memory_lines machine.layout machine.state.ram options.dump_address options.dump_words))
