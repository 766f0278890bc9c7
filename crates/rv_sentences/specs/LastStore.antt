-- The last store to a word.
use Rattle.std.specs.Prelude.{ℕ, ◌==◌, if◌then◌else◌, List, [], ◌∷◌, ◌++◌, Option, Some, None, slice_index}
use Rattle.std.specs.Option.{option_or, option_to_list}
use Rattle.rv_isa.specs.Word.{sum, modulo_word}
use Rattle.rv_isa.specs.declared.instructions.Instr.{Instr}
use Rattle.rv_isa.specs.declared.instructions.Instr.TheVariants.{Store}
use Rattle.rv_decode.specs.Decodes.{instruction_of}
use Rattle.rv_memory.specs.Memory.{word_of}
use Rattle.rv_arch.specs.State.{with_register}
use Rattle.rv_hardware.specs.Hardware.{Hardware}
use Rattle.rv_hardware.specs.declared.step.Step.{Step}
use Rattle.rv_hardware.specs.declared.step.Step.TheVariants.{Retired, Trap, Interrupt}
use Rattle.rv_hardware.specs.History.{Moment}
use Rattle.rv_sentences.specs.WordNotes.{Notes, with_note}
use Rattle.rv_sentences.specs.declared.stored.Stored.{Stored}

-- the registers once an instruction retired
abbrev pub with_written : List ℕ → Option (ℕ × ℕ) → List ℕ
with_written registers None = registers
with_written registers (Some write) = with_register registers write.0 write.1

-- the registers after a step
abbrev pub registers_after : List ℕ → Step → List ℕ
registers_after registers (Retired row) = with_written registers row.written
registers_after registers (Trap pc cause value cycle) = registers
registers_after registers (Interrupt pc cause cycle) = registers

-- the registers after some steps
abbrev pub registers_since : List ℕ → List Step → List ℕ
registers_since registers [] = registers
registers_since registers (step ∷ steps) = registers_since (registers_after registers step) steps

-- Unprivileged ISA 20191213, 2.6: the address of a store is its base register plus its offset
abbrev pub stored_at : List ℕ → ℕ → Option Instr → Option Stored
stored_at registers pc (Some (Store width rs1 rs2 offset)) =
    Some (record { pc = pc; address = sum (slice_index registers rs1) (modulo_word offset) })
stored_at registers pc _ = None

-- the store that retired in a step, by the registers before it
abbrev pub store_of : List ℕ → Step → Option Stored
store_of registers (Retired row) = stored_at registers row.pc (instruction_of row.word)
store_of registers (Trap pc cause value cycle) = None
store_of registers (Interrupt pc cause cycle) = None

-- the stores that retired in some steps, by the registers before them
abbrev pub stores_in : List ℕ → List Step → List Stored
stores_in registers [] = []
stores_in registers (step ∷ steps) =
    option_to_list (store_of registers step) ++ stores_in (registers_after registers step) steps

-- the stores that retired in some cycles
abbrev pub stores_of : Hardware → List Moment → List Stored
stores_of h [] = []
stores_of h (moment ∷ moments) = stores_in h.registers moment.report.steps ++ stores_of moment.after moments

-- a store, where it is one to the word
abbrev pub store_to : Stored → ℕ → Option ℕ
store_to store word = if word_of store.address == word then Some store.pc else None

-- the address of the last of some stores to a word
abbrev pub last_store_to : List Stored → ℕ → Option ℕ
last_store_to [] word = None
last_store_to (store ∷ stores) word = option_or (last_store_to stores word) (store_to store word)

-- the last store to each word once some stores retired
abbrev pub with_stores : List Stored → Notes (Option ℕ) → Notes (Option ℕ)
with_stores [] last_stores = last_stores
with_stores (store ∷ stores) last_stores =
    with_stores stores (with_note last_stores (word_of store.address) (Some store.pc))
