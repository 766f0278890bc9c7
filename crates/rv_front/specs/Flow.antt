-- Where a program may go on after an instruction.
use Rattle.std.specs.Prelude.{ℕ, ◌==◌, Bool, pos, int_lt, List, [], ◌∷◌, bit_and, Option, Some, None}
use Rattle.std.specs.List.{list_any}
use Rattle.rv_isa.specs.Word.{pc_plus}
use Rattle.rv_isa.specs.declared.instructions.Instr.{Instr}
use Rattle.rv_isa.specs.declared.instructions.Instr.TheVariants.{Jal, Jalr, Branch}
use Rattle.rv_decode.specs.Decodes.{instruction_of}
use Rattle.rv_front.specs.declared.flow.Flow.{Flow}
use Rattle.rv_front.specs.declared.flow.Flow.TheVariants as flow

-- Unprivileged ISA 20191213, 2.5: where the program may go on after an instruction at a pc
abbrev pub flow_of : ℕ → Instr → Flow
flow_of pc (Jal rd offset) = flow.Jump (pc_plus pc offset)
flow_of pc (Jalr rd rs1 offset) = flow.Indirect
flow_of pc (Branch condition rs1 rs2 offset) = flow.Branch (pc_plus pc offset) (int_lt offset (pos 0))
flow_of pc other = flow.Sequential

-- an illegal word traps, so that nothing is guessed after it but the next word
abbrev pub flow_after : ℕ → Option Instr → Flow
flow_after pc None = flow.Sequential
flow_after pc (Some instruction) = flow_of pc instruction

-- where the program may go on after a word at a pc
abbrev pub flow_at : ℕ → ℕ → Flow
flow_at pc word = flow_after pc (instruction_of word)

-- Unprivileged ISA 20191213, 24, table 24.1: the opcodes BRANCH, JALR and JAL
abbrev pub codes_elsewhere : List ℕ
codes_elsewhere = 0x63 ∷ 0x67 ∷ 0x6f ∷ []

-- the word's opcode is one of them
abbrev pub leads_elsewhere : ℕ → Bool
leads_elsewhere word = list_any (λ code. bit_and word 0x7f == code) codes_elsewhere
