-- The mnemonics and directives.
use Rattle.std.specs.Prelude.{ℕ, List, [], ◌∷◌, Option, codes}
use Rattle.std.specs.Option.{option_map, option_or}
use Rattle.rv_isa.specs.declared.arithmetic.AluOp.TheVariants as alu
use Rattle.rv_isa.specs.declared.instructions.Instr.{Instr}
use Rattle.rv_isa.specs.declared.instructions.Instr.TheVariants as instr
use Rattle.rv_isa.specs.declared.operations.Condition.TheVariants as condition
use Rattle.rv_isa.specs.declared.operations.CsrOp.TheVariants as csr
use Rattle.rv_isa.specs.declared.operations.ImmediateOp.TheVariants as immediate
use Rattle.rv_isa.specs.declared.operations.LoadForm.TheVariants as load
use Rattle.rv_isa.specs.declared.operations.ShiftOp.TheVariants as shift
use Rattle.rv_isa.specs.declared.operations.Width.TheVariants as width
use Rattle.rv_asm.specs.Names.{named}
use Rattle.rv_asm.specs.declared.directive.Directive.TheVariants.{Zeros, Align, Characters}
use Rattle.rv_asm.specs.declared.{mnemonic.BareInstruction.BareInstruction, operation.Form.Form}
use Rattle.rv_asm.specs.declared.{operation.Operation.Operation, operation.Place.Place}
use Rattle.rv_asm.specs.declared.mnemonic.BareInstruction.TheVariants.{Fence, FenceI, Ecall, Ebreak, Mret, Wfi}
use Rattle.rv_asm.specs.declared.operation.Form.TheVariants as form
use Rattle.rv_asm.specs.declared.operation.Form.TheVariants.{Instruction, Choice, Values, Bytes}
use Rattle.rv_asm.specs.declared.operation.Operation.TheVariants.{Lui, Auipc, Jal, Jalr, Branch, Load}
use Rattle.rv_asm.specs.declared.operation.Operation.TheVariants.{Store, OpImmediate, Shift, Op, Bare, Csr}
use Rattle.rv_asm.specs.declared.operation.Operation.TheVariants.{CsrImmediate, LoadNumber, LoadAddress}
use Rattle.rv_asm.specs.declared.operation.Place.TheVariants.{Rd, Rs1, Rs2, Value, Known, Target, Address, Csr as Csr'}
use Rattle.rv_asm.specs.declared.operation.Place.TheVariants.{UpTo, Multiple, Text, Link, Return, One, MinusOne, Empty}
use Rattle.rv_asm.specs.declared.operation.Section.TheVariants as section

-- an instruction without operands
abbrev pub bare_instruction : BareInstruction → Instr
bare_instruction Fence = instr.Fence
bare_instruction FenceI = instr.FenceI
bare_instruction Ecall = instr.Ecall
bare_instruction Ebreak = instr.Ebreak
bare_instruction Mret = instr.Mret
bare_instruction Wfi = instr.Wfi

-- what each instruction does whose operands have one shape, and the places that they fill
unfoldable pub instructions : List (List ℕ × (Operation × Place × Place × Place))
instructions =
    -- RV32I
    (codes "lui", (Lui, Rd, Value, Empty)) ∷
    (codes "auipc", (Auipc, Rd, Value, Empty)) ∷
    (codes "beq", (Branch condition.Equal, Rs1, Rs2, Target)) ∷
    (codes "bne", (Branch condition.NotEqual, Rs1, Rs2, Target)) ∷
    (codes "blt", (Branch condition.LessThan, Rs1, Rs2, Target)) ∷
    (codes "bge", (Branch condition.GreaterOrEqual, Rs1, Rs2, Target)) ∷
    (codes "bltu", (Branch condition.LessThanUnsigned, Rs1, Rs2, Target)) ∷
    (codes "bgeu", (Branch condition.GreaterOrEqualUnsigned, Rs1, Rs2, Target)) ∷
    (codes "lb", (Load load.Byte, Rd, Address, Empty)) ∷
    (codes "lh", (Load load.Half, Rd, Address, Empty)) ∷
    (codes "lw", (Load load.Word, Rd, Address, Empty)) ∷
    (codes "lbu", (Load load.ByteUnsigned, Rd, Address, Empty)) ∷
    (codes "lhu", (Load load.HalfUnsigned, Rd, Address, Empty)) ∷
    (codes "sb", (Store width.Byte, Rs2, Address, Empty)) ∷
    (codes "sh", (Store width.Half, Rs2, Address, Empty)) ∷
    (codes "sw", (Store width.Word, Rs2, Address, Empty)) ∷
    (codes "addi", (OpImmediate immediate.Addi, Rd, Rs1, Value)) ∷
    (codes "slti", (OpImmediate immediate.Slti, Rd, Rs1, Value)) ∷
    (codes "sltiu", (OpImmediate immediate.Sltiu, Rd, Rs1, Value)) ∷
    (codes "xori", (OpImmediate immediate.Xori, Rd, Rs1, Value)) ∷
    (codes "ori", (OpImmediate immediate.Ori, Rd, Rs1, Value)) ∷
    (codes "andi", (OpImmediate immediate.Andi, Rd, Rs1, Value)) ∷
    (codes "slli", (Shift shift.Slli, Rd, Rs1, Value)) ∷
    (codes "srli", (Shift shift.Srli, Rd, Rs1, Value)) ∷
    (codes "srai", (Shift shift.Srai, Rd, Rs1, Value)) ∷
    (codes "add", (Op alu.Add, Rd, Rs1, Rs2)) ∷
    (codes "sub", (Op alu.Sub, Rd, Rs1, Rs2)) ∷
    (codes "sll", (Op alu.Sll, Rd, Rs1, Rs2)) ∷
    (codes "slt", (Op alu.Slt, Rd, Rs1, Rs2)) ∷
    (codes "sltu", (Op alu.Sltu, Rd, Rs1, Rs2)) ∷
    (codes "xor", (Op alu.Xor, Rd, Rs1, Rs2)) ∷
    (codes "srl", (Op alu.Srl, Rd, Rs1, Rs2)) ∷
    (codes "sra", (Op alu.Sra, Rd, Rs1, Rs2)) ∷
    (codes "or", (Op alu.Or, Rd, Rs1, Rs2)) ∷
    (codes "and", (Op alu.And, Rd, Rs1, Rs2)) ∷
    (codes "ecall", (Bare Ecall, Empty, Empty, Empty)) ∷
    (codes "ebreak", (Bare Ebreak, Empty, Empty, Empty)) ∷
    (codes "fence", (Bare Fence, Empty, Empty, Empty)) ∷
    -- Zifencei
    (codes "fence.i", (Bare FenceI, Empty, Empty, Empty)) ∷
    -- Zicsr
    (codes "csrrw", (Csr csr.Write, Rd, Csr', Rs1)) ∷
    (codes "csrrs", (Csr csr.Set, Rd, Csr', Rs1)) ∷
    (codes "csrrc", (Csr csr.Clear, Rd, Csr', Rs1)) ∷
    (codes "csrrwi", (CsrImmediate csr.Write, Rd, Csr', Value)) ∷
    (codes "csrrsi", (CsrImmediate csr.Set, Rd, Csr', Value)) ∷
    (codes "csrrci", (CsrImmediate csr.Clear, Rd, Csr', Value)) ∷
    -- M
    (codes "mul", (Op alu.Mul, Rd, Rs1, Rs2)) ∷
    (codes "mulh", (Op alu.Mulh, Rd, Rs1, Rs2)) ∷
    (codes "mulhsu", (Op alu.Mulhsu, Rd, Rs1, Rs2)) ∷
    (codes "mulhu", (Op alu.Mulhu, Rd, Rs1, Rs2)) ∷
    (codes "div", (Op alu.Div, Rd, Rs1, Rs2)) ∷
    (codes "divu", (Op alu.Divu, Rd, Rs1, Rs2)) ∷
    (codes "rem", (Op alu.Rem, Rd, Rs1, Rs2)) ∷
    (codes "remu", (Op alu.Remu, Rd, Rs1, Rs2)) ∷
    -- Zba
    (codes "sh1add", (Op alu.Sh1add, Rd, Rs1, Rs2)) ∷
    (codes "sh2add", (Op alu.Sh2add, Rd, Rs1, Rs2)) ∷
    (codes "sh3add", (Op alu.Sh3add, Rd, Rs1, Rs2)) ∷
    -- machine mode
    (codes "mret", (Bare Mret, Empty, Empty, Empty)) ∷
    (codes "wfi", (Bare Wfi, Empty, Empty, Empty)) ∷
    []

-- what each pseudo-instruction does, and the places that its operands fill
unfoldable pub pseudo_instructions : List (List ℕ × (Operation × Place × Place × Place))
pseudo_instructions =
    (codes "nop", (OpImmediate immediate.Addi, Empty, Empty, Empty)) ∷
    (codes "mv", (OpImmediate immediate.Addi, Rd, Rs1, Empty)) ∷
    (codes "not", (OpImmediate immediate.Xori, Rd, Rs1, MinusOne)) ∷
    (codes "neg", (Op alu.Sub, Rd, Rs2, Empty)) ∷
    (codes "seqz", (OpImmediate immediate.Sltiu, Rd, Rs1, One)) ∷
    (codes "snez", (Op alu.Sltu, Rd, Rs2, Empty)) ∷
    (codes "sltz", (Op alu.Slt, Rd, Rs1, Empty)) ∷
    (codes "sgtz", (Op alu.Slt, Rd, Rs2, Empty)) ∷
    (codes "beqz", (Branch condition.Equal, Rs1, Target, Empty)) ∷
    (codes "bnez", (Branch condition.NotEqual, Rs1, Target, Empty)) ∷
    (codes "bltz", (Branch condition.LessThan, Rs1, Target, Empty)) ∷
    (codes "bgez", (Branch condition.GreaterOrEqual, Rs1, Target, Empty)) ∷
    (codes "bgtz", (Branch condition.LessThan, Rs2, Target, Empty)) ∷
    (codes "blez", (Branch condition.GreaterOrEqual, Rs2, Target, Empty)) ∷
    (codes "bgt", (Branch condition.LessThan, Rs2, Rs1, Target)) ∷
    (codes "ble", (Branch condition.GreaterOrEqual, Rs2, Rs1, Target)) ∷
    (codes "bgtu", (Branch condition.LessThanUnsigned, Rs2, Rs1, Target)) ∷
    (codes "bleu", (Branch condition.GreaterOrEqualUnsigned, Rs2, Rs1, Target)) ∷
    (codes "j", (Jal, Target, Empty, Empty)) ∷
    (codes "call", (Jal, Link, Target, Empty)) ∷
    (codes "jr", (Jalr, Rs1, Empty, Empty)) ∷
    (codes "ret", (Jalr, Return, Empty, Empty)) ∷
    (codes "csrr", (Csr csr.Set, Rd, Csr', Empty)) ∷
    (codes "csrw", (Csr csr.Write, Csr', Rs1, Empty)) ∷
    (codes "csrs", (Csr csr.Set, Csr', Rs1, Empty)) ∷
    (codes "csrc", (Csr csr.Clear, Csr', Rs1, Empty)) ∷
    (codes "csrwi", (CsrImmediate csr.Write, Csr', Value, Empty)) ∷
    (codes "csrsi", (CsrImmediate csr.Set, Csr', Value, Empty)) ∷
    (codes "csrci", (CsrImmediate csr.Clear, Csr', Value, Empty)) ∷
    (codes "li", (LoadNumber, Rd, Known, Empty)) ∷
    (codes "la", (LoadAddress, Rd, Target, Empty)) ∷
    []

-- what the other mnemonics and the directives name
unfoldable pub others : List (List ℕ × Form)
others =
    (codes "jal", form.Jal) ∷
    (codes "jalr", form.Jalr) ∷
    -- directives
    (codes ".text", Choice section.Text) ∷
    (codes ".data", Choice section.Data) ∷
    (codes ".globl", form.Global) ∷
    (codes ".global", form.Global) ∷
    (codes ".equ", form.Constant) ∷
    (codes ".word", Values width.Word) ∷
    (codes ".half", Values width.Half) ∷
    (codes ".byte", Values width.Byte) ∷
    (codes ".zero", Bytes Zeros (UpTo 16777216)) ∷
    (codes ".space", Bytes Zeros (UpTo 16777216)) ∷
    (codes ".skip", Bytes Zeros (UpTo 16777216)) ∷
    (codes ".balign", Bytes Align Multiple) ∷
    (codes ".asciz", Bytes (Characters 1) Text) ∷
    (codes ".string", Bytes (Characters 1) Text) ∷
    (codes ".ascii", Bytes (Characters 0) Text) ∷
    []

-- what a name of one shape does
abbrev pub shape_named : List ℕ → Option (Operation × Place × Place × Place)
shape_named name = option_or (named instructions name) (named pseudo_instructions name)

-- what a name names
abbrev pub form_named : List ℕ → Option Form
form_named name =
    option_or (option_map (λ shape. Instruction shape.0 shape.1 shape.2 shape.3) (shape_named name)) (named others name)
