use Rattle.std.specs.Prelude.{ℕ, Bool, true, false}
use Rattle.rv_isa.specs.declared.{arithmetic.AluOp.AluOp, operations.ImmediateOp.ImmediateOp}
use Rattle.rv_isa.specs.declared.{operations.ShiftOp.ShiftOp, operations.Width.Width, operations.LoadForm.LoadForm}
use Rattle.rv_isa.specs.declared.arithmetic.AluOp.TheVariants as alu
use Rattle.rv_isa.specs.declared.operations.ImmediateOp.TheVariants.{Addi, Slti, Sltiu, Xori, Ori, Andi}
use Rattle.rv_isa.specs.declared.operations.ShiftOp.TheVariants.{Slli, Srli, Srai}
use Rattle.rv_isa.specs.declared.operations.Width.TheVariants as width
use Rattle.rv_isa.specs.declared.operations.LoadForm.TheVariants.{Byte, Half, Word, ByteUnsigned, HalfUnsigned}

-- Unprivileged ISA 20191213, 2.6: the bytes that a load or a store moves
abbrev pub bytes_of : Width → ℕ
bytes_of width.Byte = 1
bytes_of width.Half = 2
bytes_of width.Word = 4

-- Unprivileged ISA 20191213, 2.6: a load's width
abbrev pub width_of : LoadForm → Width
width_of Byte = width.Byte
width_of Half = width.Half
width_of Word = width.Word
width_of ByteUnsigned = width.Byte
width_of HalfUnsigned = width.Half

-- Unprivileged ISA 20191213, 2.6: lb and lh extend the sign, lbu and lhu extend with zeros
abbrev pub is_sign_extended : LoadForm → Bool
is_sign_extended Byte = true
is_sign_extended Half = true
is_sign_extended Word = false
is_sign_extended ByteUnsigned = false
is_sign_extended HalfUnsigned = false

-- Unprivileged ISA 20191213, 2.4.1: each does to a register and a constant what the operation does to two registers
abbrev pub immediate_operation : ImmediateOp → AluOp
immediate_operation Addi = alu.Add
immediate_operation Slti = alu.Slt
immediate_operation Sltiu = alu.Sltu
immediate_operation Xori = alu.Xor
immediate_operation Ori = alu.Or
immediate_operation Andi = alu.And

-- Unprivileged ISA 20191213, 2.4.1: each shifts a register by a constant as the operation does by a register
abbrev pub shift_operation : ShiftOp → AluOp
shift_operation Slli = alu.Sll
shift_operation Srli = alu.Srl
shift_operation Srai = alu.Sra
