use Rattle.std.specs.Prelude.{ℕ, ◌+◌, ◌*◌, ◌/◌, ◌%◌, ◌^◌, ◌-◌, pos, ◌-ℤ◌, ◌*ℤ◌, ◌==◌, cond}
use Rattle.std.specs.Prelude.{nat_lt, int_lt, int_div, int_rem, bit_and, bit_or, bit_xor}
use Rattle.std.specs.Int.{from_bool, int_div_euclid}
use Rattle.rv_isa.specs.Word.{signed, modulo_word, upper_word}
use Rattle.rv_isa.specs.declared.{arithmetic.AluOp.AluOp, operations.Kind.Kind}
use Rattle.rv_isa.specs.declared.arithmetic.AluOp.TheVariants.{Add, Sub, Sll, Slt, Sltu, Xor, Srl, Sra}
use Rattle.rv_isa.specs.declared.arithmetic.AluOp.TheVariants.{Or, And, Mul, Mulh, Mulhsu, Mulhu, Div}
use Rattle.rv_isa.specs.declared.arithmetic.AluOp.TheVariants.{Divu, Rem, Remu, Sh1add, Sh2add, Sh3add}
use Rattle.rv_isa.specs.declared.operations.Kind.TheVariants as kind

-- the word of all ones
abbrev pub all_ones : ℕ
all_ones = 2 ^ 32 - 1

-- the value of an operation on the words a and b: exact arithmetic on whole numbers, modulo 2 ^ 32
abbrev pub value_of : AluOp → ℕ → ℕ → ℕ
-- Unprivileged ISA 20191213, 2.4.2: shifts use the low five bits of b
value_of Add a b = (a + b) % 2 ^ 32
value_of Sub a b = modulo_word (pos a -ℤ pos b)
value_of Sll a b = a * 2 ^ (b % 32) % 2 ^ 32
value_of Slt a b = from_bool (int_lt (signed a) (signed b))
value_of Sltu a b = from_bool (nat_lt a b)
value_of Xor a b = bit_xor a b
value_of Srl a b = a / 2 ^ (b % 32)
value_of Sra a b = modulo_word (int_div_euclid (signed a) (pos (2 ^ (b % 32))))
value_of Or a b = bit_or a b
value_of And a b = bit_and a b
-- Unprivileged ISA 20191213, 7.1
value_of Mul a b = a * b % 2 ^ 32
value_of Mulh a b = upper_word (signed a *ℤ signed b)
value_of Mulhsu a b = upper_word (signed a *ℤ pos b)
value_of Mulhu a b = upper_word (pos a *ℤ pos b)
-- Unprivileged ISA 20191213, 7.2, table 7.1: quotients are rounded toward zero, and a remainder has the sign of a
value_of Div a b = cond (b == 0) all_ones (modulo_word (int_div (signed a) (signed b)))
value_of Divu a b = cond (b == 0) all_ones (a / b)
value_of Rem a b = cond (b == 0) a (modulo_word (int_rem (signed a) (signed b)))
value_of Remu a b = cond (b == 0) a (a % b)
-- Zba: b plus a shifted left by one, two or three
value_of Sh1add a b = (b + a * 2) % 2 ^ 32
value_of Sh2add a b = (b + a * 4) % 2 ^ 32
value_of Sh3add a b = (b + a * 8) % 2 ^ 32

-- the kind of unit for a register operation
abbrev pub operation_kind_of : AluOp → Kind
operation_kind_of Add = kind.Alu
operation_kind_of Sub = kind.Alu
operation_kind_of Sll = kind.Alu
operation_kind_of Slt = kind.Alu
operation_kind_of Sltu = kind.Alu
operation_kind_of Xor = kind.Alu
operation_kind_of Srl = kind.Alu
operation_kind_of Sra = kind.Alu
operation_kind_of Or = kind.Alu
operation_kind_of And = kind.Alu
operation_kind_of Mul = kind.Mul
operation_kind_of Mulh = kind.Mul
operation_kind_of Mulhsu = kind.Mul
operation_kind_of Mulhu = kind.Mul
operation_kind_of Div = kind.Div
operation_kind_of Divu = kind.Div
operation_kind_of Rem = kind.Div
operation_kind_of Remu = kind.Div
operation_kind_of Sh1add = kind.Alu
operation_kind_of Sh2add = kind.Alu
operation_kind_of Sh3add = kind.Alu
