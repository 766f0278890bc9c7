use Rattle.std.specs.Prelude.{ℕ, ◌+◌, ◌-◌, ◌*◌, ◌/◌, ◌%◌, ◌^◌, ◌==◌, ◌&&◌, Bool, true, false}
use Rattle.std.specs.Prelude.{not, if◌then◌else◌, Option, None, bit_and, bit_or, nat_lt}
use Rattle.std.specs.Option.{option_map}
use Rattle.rv_isa.specs.declared.{lines.Lines.Lines, operations.CsrOp.CsrOp, csrs.Csr.Csr}
use Rattle.rv_isa.specs.declared.operations.CsrOp.TheVariants.{Write, Set, Clear}
use Rattle.rv_isa.specs.declared.csrs.Csr.TheVariants.{Mstatus, Misa, Mie, Mtvec, Mstatush, Mscratch, Mepc, Mcause}
use Rattle.rv_isa.specs.declared.csrs.Csr.TheVariants.{Mtval, Mip, Mvendorid, Marchid, Mimpid, Mhartid, Mconfigptr}
use Rattle.rv_isa.specs.Csr.{csr_at}
use Rattle.rv_arch.specs.declared.csr.CsrOperand.{CsrOperand}

-- Privileged Architecture 20211203, 3.1: the bits of the CSRs that are kept. Every other bit reads as a constant.
pub record Kept : Type 0 where
  pub mstatus_mie : Bool
  pub mstatus_mpie : Bool
  pub mie : Lines
  pub mtvec : ℕ
  pub mscratch : ℕ
  pub mepc : ℕ
  pub mcause : ℕ
  pub mtval : ℕ

-- whether bit n of a word is 1
abbrev pub has_bit : ℕ → ℕ → Bool
has_bit word n = word / 2 ^ n % 2 == 1

-- bit n of a word, 1 or 0, at its place
abbrev pub bit : Bool → ℕ → ℕ
bit true n = 2 ^ n
bit false n = 0

-- Privileged Architecture 20211203, 3.1.9: mie and mip have software interrupts in bit 3, timer in bit 7, external in bit 11
abbrev pub interrupt_bits : Lines → ℕ
interrupt_bits lines = bit lines.software 3 + bit lines.timer 7 + bit lines.external 11

-- Privileged Architecture 20211203, 3.1.9: the interrupts that a word for mie enables
abbrev pub interrupts_of : ℕ → Lines
interrupts_of word = record { software = has_bit word 3; timer = has_bit word 7; external = has_bit word 11 }

-- Privileged Architecture 20211203, 3.1.6.1: MPP in bits 12 and 11, always 3 for machine mode, MPIE in bit 7, MIE in bit 3
abbrev pub mstatus_of : Kept → ℕ
mstatus_of kept = 3 * 2 ^ 11 + bit kept.mstatus_mpie 7 + bit kept.mstatus_mie 3

-- Privileged Architecture 20211203, 3.1.6.1: the mode before a trap, as mstatus has it
abbrev pub mpp_of : ℕ → ℕ
mpp_of mstatus = mstatus / 2 ^ 11 % 4

-- Privileged Architecture 20211203, 3.1.1 to 3.1.17: what each CSR reads
abbrev pub value_of : Kept → Lines → Csr → ℕ
value_of kept lines Mstatus = mstatus_of kept
-- 3.1.1: MXL 1 for 32 bits, and the letters I and M
value_of kept lines Misa = 0x40001100
value_of kept lines Mie = interrupt_bits kept.mie
value_of kept lines Mtvec = kept.mtvec
value_of kept lines Mstatush = 0
value_of kept lines Mscratch = kept.mscratch
value_of kept lines Mepc = kept.mepc
value_of kept lines Mcause = kept.mcause
value_of kept lines Mtval = kept.mtval
-- 3.1.9: the levels of the lines
value_of kept lines Mip = interrupt_bits lines
value_of kept lines Mvendorid = 0
value_of kept lines Marchid = 0
value_of kept lines Mimpid = 0
value_of kept lines Mhartid = 0
value_of kept lines Mconfigptr = 0

-- 3.1.7: the base in bits 31 to 2 and the mode, direct 0 or vectored 1; a reserved mode becomes direct
abbrev pub legal_mtvec : ℕ → ℕ
legal_mtvec word = 4 * (word / 4) + (if nat_lt (word % 4) 2 then word % 4 else 0)

-- 3.1.14: bits 1 and 0 are always 0
abbrev pub legal_mepc : ℕ → ℕ
legal_mepc word = 4 * (word / 4)

-- Privileged Architecture 20211203, 3.1: what is kept once a word was written to each CSR
abbrev pub written : Kept → Csr → ℕ → Kept
written kept Mstatus word = record kept { mstatus_mie = has_bit word 3; mstatus_mpie = has_bit word 7 }
written kept Misa word = kept
written kept Mie word = record kept { mie = interrupts_of word }
written kept Mtvec word = record kept { mtvec = legal_mtvec word }
written kept Mstatush word = kept
written kept Mscratch word = record kept { mscratch = word }
written kept Mepc word = record kept { mepc = legal_mepc word }
written kept Mcause word = record kept { mcause = word }
written kept Mtval word = record kept { mtval = word }
written kept Mip word = kept
written kept Mvendorid word = kept
written kept Marchid word = kept
written kept Mimpid word = kept
written kept Mhartid word = kept
written kept Mconfigptr word = kept

-- Privileged Architecture 20211203, 2.1: bits 11 and 10 of a read-only CSR's address are both 1
abbrev pub is_read_only : ℕ → Bool
is_read_only address = has_bit address 11 && has_bit address 10

-- Unprivileged ISA 20191213, 9.1: csrrs and csrrc with x0, csrrsi and csrrci with 0, do not write
abbrev pub does_write : CsrOp → Bool → Bool
does_write Write field_is_zero = true
does_write Set field_is_zero = not field_is_zero
does_write Clear field_is_zero = not field_is_zero

-- Unprivileged ISA 20191213, 9.1: the word that is written, of the old value and the source
abbrev pub new_value : CsrOp → ℕ → ℕ → ℕ
new_value Write old source = source
new_value Set old source = bit_or old source
new_value Clear old source = bit_and old (2 ^ 32 - 1 - source)

-- what a CSR reads at an address; there is none outside the table
abbrev pub read_at : Kept → Lines → ℕ → Option ℕ
read_at kept lines address = option_map (value_of kept lines) (csr_at address)

-- a CSR and what is kept after an instruction that does not write it, or that does
abbrev pub access_csr : Kept → Lines → CsrOp → Bool → ℕ → Csr → ℕ × Kept
access_csr kept lines op field_is_zero source csr = (
  value_of kept lines csr,
  (if does_write op field_is_zero then written kept csr (new_value op (value_of kept lines csr) source) else kept),
)

-- Unprivileged ISA 20191213, 9.1; Privileged Architecture 20211203, 2.1: the old value and what is kept after a CSR instruction.
-- None is an illegal instruction: there is no such CSR, or it is read-only and would be written.
abbrev pub access : Kept → Lines → CsrOp → ℕ → CsrOperand → Option (ℕ × Kept)
access kept lines op address operand =
    if does_write op operand.field_is_zero && is_read_only address
    then None
    else option_map (access_csr kept lines op operand.field_is_zero operand.value) (csr_at address)
