use Rattle.std.specs.Prelude.{◌≡◌, ℕ, true, Option, Some, None, IfSome}
use Rattle.rv_isa.specs.Operation.{bytes_of, width_of}
use Rattle.rv_isa.specs.Word.{modulo_word, sum}
use Rattle.rv_isa.specs.declared.instructions.Instr.{Instr}
use Rattle.rv_isa.specs.declared.instructions.Instr.TheVariants.{Load, Store}
use Rattle.rv_decode.specs.Decodes.{Decodes}
use Rattle.rv_memory.specs.Memory.{Layout, is_in_ram}
use Rattle.rv_arch.specs.State.{State, register_of}
use Rattle.rv_arch.specs.Step.{word_at_pc}

-- Unprivileged ISA 20191213, 2.6: the address and the number of bytes that a load or a store names
abbrev pub accessed : State → Instr → Option (ℕ × ℕ)
accessed s (Load form rd rs1 offset) = Some (sum (register_of s rs1) (modulo_word offset), bytes_of (width_of form))
accessed s (Store width rs1 rs2 offset) = Some (sum (register_of s rs1) (modulo_word offset), bytes_of width)
accessed s _ = None

-- whatever the word at pc reads or writes in memory lies in RAM
abbrev pub StaysInRam : Layout → State → Type 0
StaysInRam layout s = (instruction : Instr) → Decodes (word_at_pc layout s) instruction →
    IfSome (accessed s instruction) (λ access. is_in_ram layout access.0 access.1 ≡ true)
