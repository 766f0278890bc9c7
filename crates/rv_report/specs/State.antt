-- The lines of a report that show the state at the end of a run: the pc, the registers, and the control and status registers.
use Rattle.std.specs.Prelude.{ℕ, List, [], ◌∷◌, ◌++◌, codes, decimal, slice_index}
use Rattle.std.specs.List.{flat_map, range_with_len}
use Rattle.rv_isa.specs.Csr.{row_of}
use Rattle.rv_isa.specs.declared.lines.Lines.{Lines}
use Rattle.rv_arch.specs.Csr.{Kept, value_of}
use Rattle.rv_isa.specs.declared.csrs.Csr.TheVariants.{Mstatus, Mie, Mtvec, Mscratch, Mepc, Mcause, Mtval, Mip}
use Rattle.rv_arch.specs.declared.outcome.Stop.{Stop}
use Rattle.rv_arch.specs.declared.outcome.Stop.TheVariants.{Limit, Breakpoint, Stale, Exhausted}
use Rattle.rv_text.specs.Line.{word_text, line_of, word_line}

-- why a run ended
unfoldable pub stop_text : Stop → List ℕ
stop_text Limit = codes "limit"
stop_text Breakpoint = codes "breakpoint"
stop_text (Stale pc) = codes "stale " ++ word_text pc
stop_text Exhausted = codes "exhausted"

-- the line that says so
unfoldable pub stop_line : Stop → List ℕ
stop_line stop = line_of (codes "stop") (stop_text stop)

-- a register by its number
unfoldable pub register_line : ℕ → ℕ → List ℕ
register_line number word = codes "x" ++ word_line (decimal number) word

-- x0 to x31
unfoldable pub register_lines : List ℕ → List ℕ
register_lines registers =
    flat_map (λ number. register_line number (slice_index registers number)) (range_with_len 0 32)

-- the CSRs that are shown, by the manuals' names
unfoldable pub csr_lines : Kept → Lines → List ℕ
csr_lines kept lines =
    flat_map (λ csr. word_line (row_of csr).1 (value_of kept lines csr))
    (Mstatus ∷ Mie ∷ Mtvec ∷ Mscratch ∷ Mepc ∷ Mcause ∷ Mtval ∷ Mip ∷ [])

-- the pc, the registers and the CSRs, with the levels of the interrupt lines
unfoldable pub state_lines : ℕ → List ℕ → Kept → Lines → List ℕ
state_lines pc registers kept lines = word_line (codes "pc") pc ++ (register_lines registers ++ csr_lines kept lines)
