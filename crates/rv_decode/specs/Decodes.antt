-- Which instruction a word is.
use Rattle.std.specs.Prelude.{◌≡◌, ℕ, Bool, ◌&&◌, ◌||◌, ◌==◌, if◌then◌else◌, List, [], ◌∷◌, Option, Some, None, bit_and}
use Rattle.std.specs.List.{All, AllPairs, Contains}
use Rattle.rv_isa.specs.declared.instructions.Instr.{Instr}
use Rattle.rv_decode.specs.InstructionTable.{Row, table}
use Rattle.rv_decode.specs.Operand.{opcode, rd, funct3, funct7}

-- the word has the row's fixed bits under its mask
abbrev pub Fits : ℕ → Row → Type 0
Fits word row = bit_and word row.mask ≡ row.fixed

-- the word is this instruction: some row of the table fits the word, and makes this instruction of its operands
pub record Decodes (word : ℕ) (instruction : Instr) : Type 0 where
  pub row : Row
  pub listed : Contains table row
  pub fits : Fits word row
  pub makes : row.instruction word ≡ instruction

-- the word is no instruction: no row of the table fits it
pub record IsIllegal (word : ℕ) : Type 0 where
  pub none_fits : All (λ row. ¬ Fits word row) table

-- no two rows of the table fit the word, so that it is one instruction at most
pub record FitsOneRowAtMost (word : ℕ) : Type 0 where
  pub not_both : AllPairs (λ row other. ¬ (Fits word row × Fits word other)) table

-- what the first of some rows that fits makes of the word
abbrev pub first_fit : List Row → ℕ → Option Instr
first_fit [] word = None
first_fit (row ∷ rows) word =
    if bit_and word row.mask == row.fixed then Some (row.instruction word) else first_fit rows word

-- the instruction that a word is, or none, as a function
unfoldable pub instruction_of : ℕ → Option Instr
instruction_of word = first_fit table word

-- the row has these values in the fields that it fixes: a row that fixes rd fixes the whole word
abbrev pub has_fields : Row → ℕ → ℕ → ℕ → ℕ → Bool
has_fields row word code third seventh =
    (opcode row.fixed == code) && ((funct3 row.mask == 0) || (funct3 row.fixed == third))
    && (if rd row.mask == 0 then (funct7 row.mask == 0) || (funct7 row.fixed == seventh) else row.fixed == word)

-- what the first of some rows with these fields makes of the word
abbrev pub by_rows : List Row → ℕ → ℕ → ℕ → ℕ → Option Instr
by_rows [] word code third seventh = None
by_rows (row ∷ rows) word code third seventh =
    if has_fields row word code third seventh then Some (row.instruction word) else by_rows rows word code third seventh
