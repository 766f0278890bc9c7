-- A word with another opcode than theirs is no store, and no serialising instruction.
use Rattle.std.proofs.Common.{◌≡◌, ◌∙◌, ℕ, ◌^◌, ◌<◌, Bool, true, false, ◌||◌}
use Rattle.std.proofs.Common.{◌==◌, not, List, [], ◌∷◌, Some, refl, ap, arith}
use Rattle.std.specs.List.{list_all}
use Rattle.std.proofs.lemmas.Bool.{and_parts}
use Rattle.rv_isa.specs.Instruction.{is_serialising, is_store}
use Rattle.rv_decode.specs.Decodes.{by_rows, instruction_of}
use Rattle.rv_decode.specs.InstructionTable.{Row, table}
use Rattle.rv_decode.specs.Operand.{funct3, funct7, opcode}
use Rattle.rv_decode.proofs.Rows.{instruction_of-by_rows}

-- a row has the opcode of stores, or makes no store of a word
abbrev stores_by_opcode : ℕ → Row → Bool
stores_by_opcode word row = (opcode row.fixed == 0b0100011) || not (is_store (Some (row.instruction word)))

-- a row has the opcode of fences or of system instructions, or makes no serialising instruction of a word
abbrev serial_by_opcode : ℕ → Row → Bool
serial_by_opcode word row =
    (opcode row.fixed == 0b0001111)
    || ((opcode row.fixed == 0b1110011) || not (is_serialising (Some (row.instruction word))))

module _ (word code third seventh : ℕ) where
  no_store_by : (code == 0b0100011) ≡ false → (rows : List Row) → list_all (stores_by_opcode word) rows ≡ true →
      is_store (by_rows rows word code third seventh) ≡ false
  no_store_by other [] by_opcode = refl
  no_store_by other (row ∷ rows) by_opcode =
      let parts = and_parts (stores_by_opcode word row) (list_all (stores_by_opcode word) rows) by_opcode in
      grind (arith, no_store_by other rows parts.1, parts.0, other)

  not_serial_by : (code == 0b0001111) ≡ false → (code == 0b1110011) ≡ false →
      (rows : List Row) → list_all (serial_by_opcode word) rows ≡ true →
      is_serialising (by_rows rows word code third seventh) ≡ false
  not_serial_by no_fence no_system [] by_opcode = refl
  not_serial_by no_fence no_system (row ∷ rows) by_opcode =
      let parts = and_parts (serial_by_opcode word row) (list_all (serial_by_opcode word) rows) by_opcode in
      grind (arith, not_serial_by no_fence no_system rows parts.1, parts.0, no_fence, no_system)

-- a word with another opcode than that of stores is no store
pub no_store : (word : ℕ) → word < 2 ^ 32 → (opcode word == 0b0100011) ≡ false → is_store (instruction_of word) ≡ false
unfolding table
no_store word small other =
    ap is_store (instruction_of-by_rows word small)
    ∙ no_store_by word (opcode word) (funct3 word) (funct7 word) other table refl

-- a word with another opcode than those of fences and of system instructions is no serialising instruction
pub not_serial : (word : ℕ) → word < 2 ^ 32 → (opcode word == 0b0001111) ≡ false →
    (opcode word == 0b1110011) ≡ false → is_serialising (instruction_of word) ≡ false
unfolding table
not_serial word small no_fence no_system =
    ap is_serialising (instruction_of-by_rows word small)
    ∙ not_serial_by word (opcode word) (funct3 word) (funct7 word) no_fence no_system table refl
