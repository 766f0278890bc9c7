-- What hardware asks of a fetched word: what sort of instruction it is, and what it uses, where it is an instruction.
use Rattle.std.specs.Prelude.{ℕ, ◌==◌, Bool, true, false, List, [], Option, Some, None}
use Rattle.rv_isa.specs.Operands.{kind_of, sources_of, target_of}
use Rattle.rv_isa.specs.PerKind.{is_same}
use Rattle.rv_isa.specs.declared.{instructions.Instr.Instr, operations.Kind.Kind}
use Rattle.rv_isa.specs.declared.instructions.Instr.TheVariants.{FenceI, Csr, Mret, Load, Store, Jal, Jalr, Branch}

-- an instruction that waits to be the oldest, and beside which nothing younger is in flight
abbrev pub is_serialising : Option Instr → Bool
is_serialising (Some FenceI) = true
is_serialising (Some (Csr op rd csr source)) = true
is_serialising (Some Mret) = true
is_serialising _ = false

-- the instruction is FENCE.I
abbrev pub is_fence_i : Option Instr → Bool
is_fence_i (Some FenceI) = true
is_fence_i _ = false

-- the instruction is a load
abbrev pub is_load : Option Instr → Bool
is_load (Some (Load form rd rs1 offset)) = true
is_load _ = false

-- the instruction is a store
abbrev pub is_store : Option Instr → Bool
is_store (Some (Store width rs1 rs2 offset)) = true
is_store _ = false

-- an instruction whose next pc only its execution gives
abbrev pub is_branch_or_jump : Option Instr → Bool
is_branch_or_jump (Some (Jal rd offset)) = true
is_branch_or_jump (Some (Jalr rd rs1 offset)) = true
is_branch_or_jump (Some (Branch condition rs1 rs2 offset)) = true
is_branch_or_jump _ = false

-- the kind of unit that a word uses, if it uses one
abbrev pub kind_of_word : Option Instr → Option Kind
kind_of_word None = None
kind_of_word (Some instruction) = kind_of instruction

-- the kind, if there is one, is this one
abbrev pub is_of_kind : Kind → Option Kind → Bool
is_of_kind kind None = false
is_of_kind kind (Some other) = is_same kind other

-- the registers that a word reads
abbrev pub sources_of_word : Option Instr → List (Option ℕ)
sources_of_word None = []
sources_of_word (Some instruction) = sources_of instruction

-- the register that a word writes, if it is an instruction and writes any
abbrev pub target_of_word : Option Instr → Option ℕ
target_of_word None = None
target_of_word (Some instruction) = target_of instruction

-- the register is the one that is written
abbrev pub is_target : ℕ → Option ℕ → Bool
is_target register None = false
is_target register (Some target) = target == register
