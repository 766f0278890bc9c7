use Rattle.std.specs.Prelude.{ℕ, ◌+◌, ◌-◌, ◌*◌, ◌/◌, ◌^◌, ◌==◌, ◌&&◌, Bool, not}
use Rattle.std.specs.Prelude.{if◌then◌else◌, nat_le, List, slice_index, Option, Some, None}
use Rattle.std.specs.FinSet as set
use Rattle.rv_isa.specs.Arithmetic.{value_of}
use Rattle.rv_isa.specs.Comparison.{holds}
use Rattle.rv_isa.specs.Operation.{bytes_of, width_of, is_sign_extended, immediate_operation, shift_operation}
use Rattle.rv_isa.specs.Word.{modulo_word, sum, pc_plus, pc_plus_4}
use Rattle.rv_isa.specs.declared.{causes.Cause.Cause, instructions.Instr.Instr, instructions.CsrSource.CsrSource}
use Rattle.rv_isa.specs.declared.{operations.LoadForm.LoadForm, operations.Width.Width, lines.Lines.Lines}
use Rattle.rv_isa.specs.declared.causes.Cause.TheVariants.{InstructionAddressMisaligned, IllegalInstruction}
use Rattle.rv_isa.specs.declared.causes.Cause.TheVariants.{Breakpoint, LoadAddressMisaligned, LoadAccessFault}
use Rattle.rv_isa.specs.declared.causes.Cause.TheVariants.{StoreAddressMisaligned, StoreAccessFault, EnvironmentCall}
use Rattle.rv_isa.specs.declared.instructions.Instr.TheVariants.{Lui, Auipc, Jal, Jalr, Branch, Load}
use Rattle.rv_isa.specs.declared.instructions.Instr.TheVariants.{Store, OpImmediate, Shift, Op, Fence}
use Rattle.rv_isa.specs.declared.instructions.Instr.TheVariants.{FenceI, Csr, Ecall, Ebreak, Mret, Wfi}
use Rattle.rv_isa.specs.declared.instructions.CsrSource.TheVariants.{Register, Immediate}
use Rattle.rv_arch.specs.declared.csr.CsrOperand.{CsrOperand}
use Rattle.rv_arch.specs.Csr.{Kept, access}
use Rattle.rv_arch.specs.Trap.{returned}
use Rattle.rv_memory.specs.Memory.{Layout, is_in_ram, is_writable, is_aligned, number_at, with_stored, word_of}
use Rattle.rv_arch.specs.State.{State, register_of, with_register, write_of}

-- What an instruction does: it retires, with the register that it changes, if any, and the state after it; or it faults, with
-- the cause of the trap and the word for mtval.
pub data Effect : Type 0 where
  Retires : Option (ℕ × ℕ) → State → Effect
  Faults : Cause → ℕ → Effect

-- the instruction writes a register and goes on at an address
abbrev pub writes : State → ℕ → ℕ → ℕ → Effect
writes s rd value next =
    Retires (write_of rd value) (record s { pc = next; registers = with_register s.registers rd value })

-- the instruction goes on at an address
abbrev pub goes_to : State → ℕ → Effect
goes_to s next = Retires None (record s { pc = next })

-- Unprivileged ISA 20191213, 2.5: a jump to a target that is no multiple of 4 faults, and the link isn't written
abbrev pub jumps : State → ℕ → ℕ → Effect
jumps s rd target =
    if is_aligned target 4 then writes s rd (pc_plus_4 s.pc) target else Faults InstructionAddressMisaligned target

-- Unprivileged ISA 20191213, 2.5: a branch that isn't taken doesn't fault
abbrev pub branches : State → Bool → ℕ → Effect
branches s is_taken target =
    if is_taken
    then (if is_aligned target 4 then goes_to s target else Faults InstructionAddressMisaligned target)
    else goes_to s (pc_plus_4 s.pc)

-- Unprivileged ISA 20191213, 2.6: a number of so many bytes as a word, extended by its sign or by zeros
abbrev pub extended : Bool → ℕ → ℕ → ℕ
extended by_sign count number =
    if by_sign && nat_le (2 ^ (8 * count - 1)) number then number + 2 ^ 32 - 2 ^ (8 * count) else number

-- Unprivileged ISA 20191213, 2.6: a load; alignment is tested before the range (Privileged Architecture 20211203,
-- 3.1.15, table 3.7)
abbrev pub loads : Layout → State → LoadForm → ℕ → ℕ → Effect
loads layout s form rd address =
    let count = bytes_of (width_of form) in
    if not (is_aligned address count) then Faults LoadAddressMisaligned address
    else (if not (is_in_ram layout address count) then Faults LoadAccessFault address
    else writes s rd (extended (is_sign_extended form) count (number_at layout s.ram address count)) (pc_plus_4 s.pc))

-- Unprivileged ISA 20191213, 2.6: a store, which makes its word stale
abbrev pub stores : Layout → State → Width → ℕ → ℕ → Effect
stores layout s width address word =
    let count = bytes_of width in
    if not (is_aligned address count) then Faults StoreAddressMisaligned address
    else (if not (is_writable layout address count) then Faults StoreAccessFault address
    else Retires None (record s {
      pc = pc_plus_4 s.pc;
      ram = with_stored layout s.ram address count word;
      stale = set.insert s.stale (word_of address);
    }))

-- Unprivileged ISA 20191213, 3: FENCE.I makes all words fresh
abbrev pub refreshes : State → Effect
refreshes s = Retires None (record s { pc = pc_plus_4 s.pc; stale = set.empty })

-- Unprivileged ISA 20191213, 9.1: the value that a CSR instruction takes from its bits 19 to 15, and whether those are 0
abbrev pub operand_of : List ℕ → CsrSource → CsrOperand
operand_of registers (Register rs1) = record { value = slice_index registers rs1; field_is_zero = rs1 == 0 }
operand_of registers (Immediate immediate) = record { value = immediate; field_is_zero = immediate == 0 }

-- Unprivileged ISA 20191213, 9.1: rd gets the old value; an illegal access faults with the instruction's word
abbrev pub accesses : State → ℕ → ℕ → Option (ℕ × Kept) → Effect
accesses s word rd None = Faults IllegalInstruction word
accesses s word rd (Some found) = writes (record s { csrs = found.1 }) rd found.0 (pc_plus_4 s.pc)

-- Privileged Architecture 20211203, 3.3.2: MRET
abbrev pub returns_from_trap : State → Effect
returns_from_trap s = Retires None (record s { pc = s.csrs.mepc; csrs = returned s.csrs })

-- The effect of each instruction in a state, with the levels of the lines and the instruction's word (Unprivileged ISA 20191213,
-- 2.4 to 2.8, 3, 7 and 9; Privileged Architecture 20211203, 3.3.1 to 3.3.3)
abbrev pub effect : Layout → State → Lines → ℕ → Instr → Effect
effect layout s lines word (Lui rd immediate) = writes s rd (immediate * 4096) (pc_plus_4 s.pc)
effect layout s lines word (Auipc rd immediate) = writes s rd (sum s.pc (immediate * 4096)) (pc_plus_4 s.pc)
effect layout s lines word (Jal rd offset) = jumps s rd (pc_plus s.pc offset)
effect layout s lines word (Jalr rd rs1 offset) = jumps s rd (2 * (sum (register_of s rs1) (modulo_word offset) / 2))
effect layout s lines word (Branch condition rs1 rs2 offset) =
    branches s (holds condition (register_of s rs1) (register_of s rs2)) (pc_plus s.pc offset)
effect layout s lines word (Load form rd rs1 offset) =
    loads layout s form rd (sum (register_of s rs1) (modulo_word offset))
effect layout s lines word (Store width rs1 rs2 offset) =
    stores layout s width (sum (register_of s rs1) (modulo_word offset)) (register_of s rs2)
effect layout s lines word (OpImmediate op rd rs1 immediate) =
    writes s rd (value_of (immediate_operation op) (register_of s rs1) (modulo_word immediate)) (pc_plus_4 s.pc)
effect layout s lines word (Shift op rd rs1 amount) =
    writes s rd (value_of (shift_operation op) (register_of s rs1) amount) (pc_plus_4 s.pc)
effect layout s lines word (Op op rd rs1 rs2) =
    writes s rd (value_of op (register_of s rs1) (register_of s rs2)) (pc_plus_4 s.pc)
effect layout s lines word Fence = goes_to s (pc_plus_4 s.pc)
effect layout s lines word FenceI = refreshes s
effect layout s lines word (Csr op rd csr source) =
    accesses s word rd (access s.csrs lines op csr (operand_of s.registers source))
effect layout s lines word Ecall = Faults EnvironmentCall 0
effect layout s lines word Ebreak = Faults Breakpoint 0
effect layout s lines word Mret = returns_from_trap s
effect layout s lines word Wfi = goes_to s (pc_plus_4 s.pc)
