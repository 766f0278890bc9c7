use Rattle.std.specs.Prelude.{ℕ, List, [], ◌∷◌, ◌==◌, cond, Option, None, Some}
use Rattle.rv_isa.specs.Arithmetic.{operation_kind_of}
use Rattle.rv_isa.specs.declared.{operations.Kind.Kind, instructions.Instr.Instr}
use Rattle.rv_isa.specs.declared.operations.Kind.TheVariants as kind
use Rattle.rv_isa.specs.declared.instructions.CsrSource.TheVariants as source
use Rattle.rv_isa.specs.declared.instructions.Instr.TheVariants.{Lui, Auipc, Jal, Jalr, Branch, Load}
use Rattle.rv_isa.specs.declared.instructions.Instr.TheVariants.{Store, OpImmediate, Shift, Op, Fence}
use Rattle.rv_isa.specs.declared.instructions.Instr.TheVariants.{FenceI, Csr, Ecall, Ebreak, Mret, Wfi}

-- Unprivileged ISA 20191213, 2.2: the fields rs1 and rs2 that the instruction's format has
abbrev pub sources_of : Instr → List (Option ℕ)
sources_of (Lui rd immediate) = None ∷ None ∷ []
sources_of (Auipc rd immediate) = None ∷ None ∷ []
sources_of (Jal rd offset) = None ∷ None ∷ []
sources_of (Jalr rd rs1 offset) = Some rs1 ∷ None ∷ []
sources_of (Branch condition rs1 rs2 offset) = Some rs1 ∷ Some rs2 ∷ []
sources_of (Load form rd rs1 offset) = Some rs1 ∷ None ∷ []
sources_of (Store width rs1 rs2 offset) = Some rs1 ∷ Some rs2 ∷ []
sources_of (OpImmediate op rd rs1 immediate) = Some rs1 ∷ None ∷ []
sources_of (Shift op rd rs1 amount) = Some rs1 ∷ None ∷ []
sources_of (Op op rd rs1 rs2) = Some rs1 ∷ Some rs2 ∷ []
sources_of Fence = None ∷ None ∷ []
sources_of FenceI = None ∷ None ∷ []
sources_of (Csr op rd csr (source.Register rs1)) = Some rs1 ∷ None ∷ []
sources_of (Csr op rd csr (source.Immediate immediate)) = None ∷ None ∷ []
sources_of Ecall = None ∷ None ∷ []
sources_of Ebreak = None ∷ None ∷ []
sources_of Mret = None ∷ None ∷ []
sources_of Wfi = None ∷ None ∷ []

-- a register that is written, for x0 drops what is written to it (Unprivileged ISA 20191213, 2.1)
abbrev pub written : ℕ → Option ℕ
written rd = cond (rd == 0) None (Some rd)

-- Unprivileged ISA 20191213, 2.2: the field rd that the instruction's format has
abbrev pub target_of : Instr → Option ℕ
target_of (Lui rd immediate) = written rd
target_of (Auipc rd immediate) = written rd
target_of (Jal rd offset) = written rd
target_of (Jalr rd rs1 offset) = written rd
target_of (Branch condition rs1 rs2 offset) = None
target_of (Load form rd rs1 offset) = written rd
target_of (Store width rs1 rs2 offset) = None
target_of (OpImmediate op rd rs1 immediate) = written rd
target_of (Shift op rd rs1 amount) = written rd
target_of (Op op rd rs1 rs2) = written rd
target_of Fence = None
target_of FenceI = None
target_of (Csr op rd csr source) = written rd
target_of Ecall = None
target_of Ebreak = None
target_of Mret = None
target_of Wfi = None

-- the kind of unit for an instruction: none where it needs nothing to be computed, or waits to be the oldest
abbrev pub kind_of : Instr → Option Kind
kind_of (Lui rd immediate) = Some kind.Alu
kind_of (Auipc rd immediate) = Some kind.Alu
kind_of (Jal rd offset) = Some kind.Alu
kind_of (Jalr rd rs1 offset) = Some kind.Alu
kind_of (Branch condition rs1 rs2 offset) = Some kind.Alu
kind_of (Load form rd rs1 offset) = Some kind.Mem
kind_of (Store width rs1 rs2 offset) = Some kind.Mem
kind_of (OpImmediate op rd rs1 immediate) = Some kind.Alu
kind_of (Shift op rd rs1 amount) = Some kind.Alu
kind_of (Op op rd rs1 rs2) = Some (operation_kind_of op)
kind_of Fence = None
kind_of FenceI = None
kind_of (Csr op rd csr source) = None
kind_of Ecall = None
kind_of Ebreak = None
kind_of Mret = None
kind_of Wfi = None
