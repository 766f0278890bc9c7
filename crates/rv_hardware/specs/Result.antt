-- What an instruction in flight gives: the effect of the one-at-a-time machine, as a message on the common data bus.
use Rattle.std.specs.Prelude.{ℕ, Option, Some, None}
use Rattle.rv_isa.specs.Bytes.{bytes_of_number}
use Rattle.rv_isa.specs.Operation.{bytes_of}
use Rattle.rv_isa.specs.Word.{sum, modulo_word}
use Rattle.rv_isa.specs.declared.{broadcast.Message.Message, causes.Cause.Cause}
use Rattle.rv_isa.specs.declared.{broadcast.StoreAccess.StoreAccess, instructions.Instr.Instr, lines.Lines.Lines}
use Rattle.rv_isa.specs.declared.causes.Cause.TheVariants.{InstructionAccessFault, IllegalInstruction}
use Rattle.rv_isa.specs.declared.instructions.Instr.TheVariants.{Store}
use Rattle.rv_arch.specs.Effect.{Effect, Retires, Faults, effect}
use Rattle.rv_arch.specs.State.{State, register_of}
use Rattle.rv_memory.specs.Memory.{Layout}

-- what a store writes
abbrev pub access_of : State → Instr → Option StoreAccess
access_of s (Store width rs1 rs2 offset) =
    Some (record {
      address = sum (register_of s rs1) (modulo_word offset);
      bytes = bytes_of_number (bytes_of width) (register_of s rs2);
    })
access_of s _ = None

-- the value that an instruction writes, 0 where it writes none
abbrev pub value_written : Option (ℕ × ℕ) → ℕ
value_written None = 0
value_written (Some written) = written.1

-- a fault, which carries no value and no next pc
abbrev pub fault_message : Cause → ℕ → Message
fault_message cause value =
    record { value = 0; fault = Some (record { cause = cause; value = value }); next_pc = 0; store = None }

-- what an effect broadcasts, with what it stores
abbrev pub effect_message : Option StoreAccess → Effect → Message
effect_message access (Retires written next) =
    record { value = value_written written; fault = None; next_pc = next.pc; store = access }
effect_message access (Faults cause value) = fault_message cause value

-- what an instruction gives in a state
abbrev pub result_in : Layout → State → Lines → ℕ → Instr → Message
result_in layout s lines word instruction =
    effect_message (access_of s instruction) (effect layout s lines word instruction)

-- what a fetched word gives in a state: a pc outside RAM and a word that is no instruction fault
abbrev pub result_of_word : Layout → State → Lines → Option ℕ → Option Instr → Message
result_of_word layout s lines None instruction = fault_message InstructionAccessFault s.pc
result_of_word layout s lines (Some word) None = fault_message IllegalInstruction word
result_of_word layout s lines (Some word) (Some instruction) = result_in layout s lines word instruction
