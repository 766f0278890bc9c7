-- The lines of a trace, one a step.
use Rattle.std.specs.Prelude.{ℕ, List, ◌++◌, codes, decimal, Option, Some, None, option_map}
use Rattle.std.specs.List.{flat_map}
use Rattle.rv_isa.specs.Cause.{code_of}
use Rattle.rv_isa.specs.declared.causes.Cause.{Cause}
use Rattle.rv_hardware.specs.declared.step.{Execution.Execution, Row.Row, Step.Step}
use Rattle.rv_hardware.specs.declared.step.Step.TheVariants.{Retired, Trap, Interrupt}
use Rattle.rv_text.specs.Line.{word_text}

-- a cycle, or a hyphen where there is none
unfoldable pub stamp_text : Option ℕ → List ℕ
stamp_text None = codes "-"
stamp_text (Some cycle) = decimal cycle

-- the cycle in which what was executed was issued
abbrev pub issued_in : Option Execution → Option ℕ
issued_in execution = option_map (λ (e : Execution). e.issued) execution

-- the cycle in which its result was broadcast
abbrev pub broadcast_in : Option Execution → Option ℕ
broadcast_in execution = option_map (λ (e : Execution). e.broadcast) execution

-- pc and word
unfoldable pub place_text : Row → List ℕ
place_text row = codes "R " ++ (word_text row.pc ++ (codes " " ++ word_text row.word))

-- the cycles of fetch and dispatch
unfoldable pub entry_text : Row → List ℕ
entry_text row = codes " F" ++ (decimal row.fetched ++ (codes " D" ++ decimal row.dispatched))

-- the cycles of issue, broadcast and retirement
unfoldable pub result_text : Row → List ℕ
result_text row =
    codes " I" ++ (stamp_text (issued_in row.execution) ++ (codes " B" ++ (stamp_text (broadcast_in row.execution) ++
    (codes " C" ++ decimal row.retired))))

-- all of these
unfoldable pub passage_text : Row → List ℕ
passage_text row = place_text row ++ (entry_text row ++ result_text row)

-- the register that was written, with its value, or a hyphen
unfoldable pub written_text : Option (ℕ × ℕ) → List ℕ
written_text None = codes " -\n"
written_text (Some written) = codes " x" ++ (decimal written.0 ++ (codes "=" ++ (word_text written.1 ++ codes "\n")))

-- a retired instruction
unfoldable pub row_line : Row → List ℕ
row_line row = passage_text row ++ written_text row.written

-- a trap: pc, cause, value and cycle
unfoldable pub trap_line : ℕ → Cause → ℕ → ℕ → List ℕ
trap_line pc cause value cycle =
    codes "T " ++ (word_text pc
    ++ (codes " "
    ++ (word_text (code_of cause)
    ++ (codes " " ++ (word_text value ++ (codes " C" ++ (decimal cycle ++ codes "\n")))))))

-- an interrupt: pc, cause and cycle
unfoldable pub interrupt_line : ℕ → ℕ → ℕ → List ℕ
interrupt_line pc cause cycle =
    codes "N " ++ (word_text pc ++ (codes " " ++ (word_text cause ++ (codes " C" ++ (decimal cycle ++ codes "\n")))))

-- the line of a step
unfoldable pub step_line : Step → List ℕ
step_line (Retired row) = row_line row
step_line (Trap pc cause value cycle) = trap_line pc cause value cycle
step_line (Interrupt pc cause cycle) = interrupt_line pc cause cycle

-- the lines of some steps in order
unfoldable pub trace_lines : List Step → List ℕ
trace_lines steps = flat_map step_line steps
