-- The instructions and their words, in the order of the manuals' listings (Unprivileged ISA 20191213, 24, table 24.2).
use Rattle.std.specs.Prelude.{ℕ, ◌+◌, ◌*◌, ◌^◌, List, [], ◌∷◌}
use Rattle.rv_isa.specs.declared.instructions.CsrSource.TheVariants.{Register, Immediate}
use Rattle.rv_isa.specs.declared.{instructions.Instr.Instr, arithmetic.AluOp.AluOp, operations.Condition.Condition}
use Rattle.rv_isa.specs.declared.{operations.CsrOp.CsrOp, operations.ImmediateOp.ImmediateOp}
use Rattle.rv_isa.specs.declared.{operations.LoadForm.LoadForm, operations.ShiftOp.ShiftOp, operations.Width.Width}
use Rattle.rv_isa.specs.declared.instructions.Instr.TheVariants.{Lui, Auipc, Jal, Jalr, Branch, Load}
use Rattle.rv_isa.specs.declared.instructions.Instr.TheVariants.{Store, OpImmediate, Shift, Op, Fence}
use Rattle.rv_isa.specs.declared.instructions.Instr.TheVariants.{FenceI, Csr, Ecall, Ebreak, Mret, Wfi}
use Rattle.rv_isa.specs.declared.arithmetic.AluOp.TheVariants.{Add, Sub, Sll, Slt, Sltu, Xor, Srl, Sra}
use Rattle.rv_isa.specs.declared.arithmetic.AluOp.TheVariants.{Or, And, Mul, Mulh, Mulhsu, Mulhu, Div}
use Rattle.rv_isa.specs.declared.arithmetic.AluOp.TheVariants.{Divu, Rem, Remu, Sh1add, Sh2add, Sh3add}
use Rattle.rv_isa.specs.declared.operations.Condition.TheVariants.{Equal, NotEqual, LessThan, GreaterOrEqual}
use Rattle.rv_isa.specs.declared.operations.Condition.TheVariants.{LessThanUnsigned, GreaterOrEqualUnsigned}
use Rattle.rv_isa.specs.declared.operations.CsrOp.TheVariants.{Write, Set, Clear}
use Rattle.rv_isa.specs.declared.operations.ImmediateOp.TheVariants.{Addi, Slti, Sltiu, Xori, Ori, Andi}
use Rattle.rv_isa.specs.declared.operations.LoadForm.TheVariants as form
use Rattle.rv_isa.specs.declared.operations.ShiftOp.TheVariants.{Slli, Srli, Srai}
use Rattle.rv_isa.specs.declared.operations.Width.TheVariants as width
use Rattle.rv_decode.specs.Operand.{rd, rs1, rs2, i_immediate, s_immediate, b_immediate, u_immediate}
use Rattle.rv_decode.specs.Operand.{j_immediate, shift_amount, csr_address, csr_immediate}

-- A row: the bits under the mask are fixed, and the others give the operands of the instruction.
pub record Row : Type 0 where
  pub mask : ℕ
  pub fixed : ℕ
  pub instruction : ℕ → Instr

-- a row that fixes the opcode alone
abbrev pub opcode_row : ℕ → (ℕ → Instr) → Row
opcode_row opcode form = record { mask = 0x0000007f; fixed = opcode; instruction = form }

-- a row that fixes funct3 and the opcode
abbrev pub funct3_row : ℕ → ℕ → (ℕ → Instr) → Row
funct3_row funct3 opcode form = record { mask = 0x0000707f; fixed = funct3 * 2 ^ 12 + opcode; instruction = form }

-- a row that fixes funct7, funct3 and the opcode
abbrev pub funct7_row : ℕ → ℕ → ℕ → (ℕ → Instr) → Row
funct7_row funct7 funct3 opcode form =
    record { mask = 0xfe00707f; fixed = funct7 * 2 ^ 25 + funct3 * 2 ^ 12 + opcode; instruction = form }

-- a row that fixes the whole word
abbrev pub word_row : ℕ → Instr → Row
word_row word instruction = record { mask = 0xffffffff; fixed = word; instruction = λ _. instruction }

-- Unprivileged ISA 20191213, 2.5: a conditional branch with the operands in the word
abbrev pub branch : Condition → ℕ → Instr
branch condition word = Branch condition (rs1 word) (rs2 word) (b_immediate word)

-- 2.6: a load
abbrev pub load : LoadForm → ℕ → Instr
load form word = Load form (rd word) (rs1 word) (i_immediate word)

-- 2.6: a store
abbrev pub store : Width → ℕ → Instr
store width word = Store width (rs1 word) (rs2 word) (s_immediate word)

-- 2.4.1: an operation on a register and an immediate
abbrev pub op_immediate : ImmediateOp → ℕ → Instr
op_immediate op word = OpImmediate op (rd word) (rs1 word) (i_immediate word)

-- 2.4.1: a shift by a constant
abbrev pub shift : ShiftOp → ℕ → Instr
shift op word = Shift op (rd word) (rs1 word) (shift_amount word)

-- 2.4.2: an operation on two registers
abbrev pub op : AluOp → ℕ → Instr
op operation word = Op operation (rd word) (rs1 word) (rs2 word)

-- 9.1: a CSR instruction with a register
abbrev pub csr : CsrOp → ℕ → Instr
csr op word = Csr op (rd word) (csr_address word) (Register (rs1 word))

-- 9.1: a CSR instruction with an immediate
abbrev pub csr_with_immediate : CsrOp → ℕ → Instr
csr_with_immediate op word = Csr op (rd word) (csr_address word) (Immediate (csr_immediate word))

-- one row for each instruction
unfoldable pub table : List Row
table =
    -- RV32I
    opcode_row 0b0110111 (λ word. Lui (rd word) (u_immediate word)) ∷
    opcode_row 0b0010111 (λ word. Auipc (rd word) (u_immediate word)) ∷
    opcode_row 0b1101111 (λ word. Jal (rd word) (j_immediate word)) ∷
    funct3_row 0b000 0b1100111 (λ word. Jalr (rd word) (rs1 word) (i_immediate word)) ∷
    funct3_row 0b000 0b1100011 (branch Equal) ∷
    funct3_row 0b001 0b1100011 (branch NotEqual) ∷
    funct3_row 0b100 0b1100011 (branch LessThan) ∷
    funct3_row 0b101 0b1100011 (branch GreaterOrEqual) ∷
    funct3_row 0b110 0b1100011 (branch LessThanUnsigned) ∷
    funct3_row 0b111 0b1100011 (branch GreaterOrEqualUnsigned) ∷
    funct3_row 0b000 0b0000011 (load form.Byte) ∷
    funct3_row 0b001 0b0000011 (load form.Half) ∷
    funct3_row 0b010 0b0000011 (load form.Word) ∷
    funct3_row 0b100 0b0000011 (load form.ByteUnsigned) ∷
    funct3_row 0b101 0b0000011 (load form.HalfUnsigned) ∷
    funct3_row 0b000 0b0100011 (store width.Byte) ∷
    funct3_row 0b001 0b0100011 (store width.Half) ∷
    funct3_row 0b010 0b0100011 (store width.Word) ∷
    funct3_row 0b000 0b0010011 (op_immediate Addi) ∷
    funct3_row 0b010 0b0010011 (op_immediate Slti) ∷
    funct3_row 0b011 0b0010011 (op_immediate Sltiu) ∷
    funct3_row 0b100 0b0010011 (op_immediate Xori) ∷
    funct3_row 0b110 0b0010011 (op_immediate Ori) ∷
    funct3_row 0b111 0b0010011 (op_immediate Andi) ∷
    funct7_row 0b0000000 0b001 0b0010011 (shift Slli) ∷
    funct7_row 0b0000000 0b101 0b0010011 (shift Srli) ∷
    funct7_row 0b0100000 0b101 0b0010011 (shift Srai) ∷
    funct7_row 0b0000000 0b000 0b0110011 (op Add) ∷
    funct7_row 0b0100000 0b000 0b0110011 (op Sub) ∷
    funct7_row 0b0000000 0b001 0b0110011 (op Sll) ∷
    funct7_row 0b0000000 0b010 0b0110011 (op Slt) ∷
    funct7_row 0b0000000 0b011 0b0110011 (op Sltu) ∷
    funct7_row 0b0000000 0b100 0b0110011 (op Xor) ∷
    funct7_row 0b0000000 0b101 0b0110011 (op Srl) ∷
    funct7_row 0b0100000 0b101 0b0110011 (op Sra) ∷
    funct7_row 0b0000000 0b110 0b0110011 (op Or) ∷
    funct7_row 0b0000000 0b111 0b0110011 (op And) ∷
    funct3_row 0b000 0b0001111 (λ _. Fence) ∷
    word_row 0b000000000000_00000_000_00000_1110011 Ecall ∷
    word_row 0b000000000001_00000_000_00000_1110011 Ebreak ∷
    -- Zifencei
    funct3_row 0b001 0b0001111 (λ _. FenceI) ∷
    -- Zicsr
    funct3_row 0b001 0b1110011 (csr Write) ∷
    funct3_row 0b010 0b1110011 (csr Set) ∷
    funct3_row 0b011 0b1110011 (csr Clear) ∷
    funct3_row 0b101 0b1110011 (csr_with_immediate Write) ∷
    funct3_row 0b110 0b1110011 (csr_with_immediate Set) ∷
    funct3_row 0b111 0b1110011 (csr_with_immediate Clear) ∷
    -- RV32M
    funct7_row 0b0000001 0b000 0b0110011 (op Mul) ∷
    funct7_row 0b0000001 0b001 0b0110011 (op Mulh) ∷
    funct7_row 0b0000001 0b010 0b0110011 (op Mulhsu) ∷
    funct7_row 0b0000001 0b011 0b0110011 (op Mulhu) ∷
    funct7_row 0b0000001 0b100 0b0110011 (op Div) ∷
    funct7_row 0b0000001 0b101 0b0110011 (op Divu) ∷
    funct7_row 0b0000001 0b110 0b0110011 (op Rem) ∷
    funct7_row 0b0000001 0b111 0b0110011 (op Remu) ∷
    -- machine mode (Privileged Architecture 20211203, 3.3.2 and 3.3.3)
    word_row 0b0011000_00010_00000_000_00000_1110011 Mret ∷
    word_row 0b0001000_00101_00000_000_00000_1110011 Wfi ∷
    -- Zba (Bit-Manipulation ISA-extensions 1.0.0, 1.1)
    funct7_row 0b0010000 0b010 0b0110011 (op Sh1add) ∷
    funct7_row 0b0010000 0b100 0b0110011 (op Sh2add) ∷
    funct7_row 0b0010000 0b110 0b0110011 (op Sh3add) ∷
    []
