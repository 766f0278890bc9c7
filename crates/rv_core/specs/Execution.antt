-- What an instruction that leaves its station reads.
use Rattle.std.specs.Prelude.{◌≡◌, ℕ, Bool, true, false, [], ◌∷◌, map, Option, Some, None}
use Rattle.rv_isa.specs.Operands.{sources_of}
use Rattle.rv_isa.specs.declared.{broadcast.Message.Message, instructions.Instr.Instr}
use Rattle.rv_isa.specs.declared.{lines.Lines.Lines, operations.Kind.Kind}
use Rattle.rv_isa.specs.declared.operations.Kind.TheVariants.{Alu, Mul, Div, Mem}
use Rattle.rv_arch.specs.State.{State, register_of}
use Rattle.rv_hardware.specs.Result.{result_in}
use Rattle.rv_memory.specs.Memory.{Layout}

-- the value of an operand in a state, 0 where the instruction has no such operand
abbrev pub operand_value : State → Option ℕ → ℕ
operand_value s None = 0
operand_value s (Some register) = register_of s register

-- the instruction stands at an address, and these are the values of its operands
pub record Reads (s : State) (address first second : ℕ) (instruction : Instr) : Type 0 where
  pub pc : s.pc ≡ address
  pub values : map (operand_value s) (sources_of instruction) ≡ first ∷ second ∷ []

-- the message is the result of an instruction that stands at an address and reads these values
abbrev pub IsResult : Layout → ℕ → ℕ → ℕ → Instr → Message → Type 0
IsResult layout address first second instruction message =
    (s : State) (lines : Lines) (word : ℕ) → Reads s address first second instruction →
    message ≡ result_in layout s lines word instruction

-- an instruction of a kind that computes without memory
abbrev pub is_operation : Option Kind → Bool
is_operation None = false
is_operation (Some Alu) = true
is_operation (Some Mul) = true
is_operation (Some Div) = true
is_operation (Some Mem) = false
