-- The operands of an instruction, each the sum of its named bits of the word at their places (Unprivileged ISA
-- 20191213, 2.2 and 2.3).
use Rattle.std.specs.Prelude.{ℕ, ◌+◌, ◌-◌, ◌*◌, ◌/◌, ◌%◌, ◌^◌, ℤ, pos, ◌-ℤ◌}

-- inst[high:low]: the bits of a word from high down to low, as a number
abbrev pub bits : ℕ → ℕ → ℕ → ℕ
bits word high low = word / 2 ^ low % 2 ^ (high + 1 - low)

-- Unprivileged ISA 20191213, 2.2, figure 2.2: the major opcode
abbrev pub opcode : ℕ → ℕ
opcode word = bits word 6 0

-- 2.2, figure 2.2: the destination register
abbrev pub rd : ℕ → ℕ
rd word = bits word 11 7

-- 2.2, figure 2.2: the field that selects the operation with the opcode
abbrev pub funct3 : ℕ → ℕ
funct3 word = bits word 14 12

-- 2.2, figure 2.2: the first source register
abbrev pub rs1 : ℕ → ℕ
rs1 word = bits word 19 15

-- 2.2, figure 2.2: the second source register
abbrev pub rs2 : ℕ → ℕ
rs2 word = bits word 24 20

-- 2.2, figure 2.2: the field that selects the operation with the opcode and funct3
abbrev pub funct7 : ℕ → ℕ
funct7 word = bits word 31 25

-- Unprivileged ISA 20191213, 2.3, figure 2.4: the I-immediate; the sign of each immediate is bit 31 of the word, and
-- counts below zero
abbrev pub i_immediate : ℕ → ℤ
i_immediate word = pos (bits word 30 20) -ℤ pos (bits word 31 31 * 2 ^ 11)

-- 2.3, figure 2.4: the S-immediate
abbrev pub s_immediate : ℕ → ℤ
s_immediate word = pos (bits word 30 25 * 2 ^ 5 + bits word 11 7) -ℤ pos (bits word 31 31 * 2 ^ 11)

-- 2.3, figure 2.4: the B-immediate, a multiple of 2
abbrev pub b_immediate : ℕ → ℤ
b_immediate word =
    pos (bits word 7 7 * 2 ^ 11 + bits word 30 25 * 2 ^ 5 + bits word 11 8 * 2) -ℤ pos (bits word 31 31 * 2 ^ 12)

-- 2.3, figure 2.4: the U-immediate, without its twelve zeros
abbrev pub u_immediate : ℕ → ℕ
u_immediate word = bits word 31 12

-- 2.3, figure 2.4: the J-immediate, a multiple of 2
abbrev pub j_immediate : ℕ → ℤ
j_immediate word =
    pos (bits word 19 12 * 2 ^ 12 + bits word 20 20 * 2 ^ 11 + bits word 30 21 * 2) -ℤ pos (bits word 31 31 * 2 ^ 20)

-- Unprivileged ISA 20191213, 2.4.1: the amount of a shift by a constant
abbrev pub shift_amount : ℕ → ℕ
shift_amount word = bits word 24 20

-- Unprivileged ISA 20191213, 9.1: the address of a CSR
abbrev pub csr_address : ℕ → ℕ
csr_address word = bits word 31 20

-- 9.1: the immediate that a CSR instruction may have in the place of rs1
abbrev pub csr_immediate : ℕ → ℕ
csr_immediate word = bits word 19 15
