-- What a word with known fields is: the rows of the table that are left for it.
use Rattle.std.proofs.Common.{◌≡◌, ℕ, ◌+◌, ◌*◌, ◌^◌, ◌<◌, Bool, true, false, ◌&&◌, ◌||◌}
use Rattle.std.proofs.Common.{◌==◌, List, [], ◌∷◌, None, bit_and, refl, ◌∙◌, arith}
use Rattle.std.specs.List.{list_all, list_any}
use Rattle.std.proofs.lemmas.Bool.{and_parts}
use Rattle.std.proofs.lemmas.Bool.Decides.{nat_tests}
use Rattle.rv_isa.specs.declared.instructions.Instr.{Instr}
use Rattle.rv_decode.specs.Operand.{opcode, funct3, funct7}
use Rattle.rv_decode.specs.InstructionTable.{Row, table}
use Rattle.rv_decode.specs.Decodes.{first_fit, instruction_of, has_fields, by_rows}
use Rattle.rv_decode.proofs.Masks.{and_opcode, and_funct3, and_funct7, and_word}

-- the row fixes the opcode, the opcode and funct3, these and funct7, or the whole word
abbrev is_plain : Row → Bool
is_plain row =
    ((row.mask == 0x7f) && (row.fixed == opcode row.fixed)) ||
    ((row.mask == 0x707f) && (row.fixed == funct3 row.fixed * 2 ^ 12 + opcode row.fixed))
    || ((row.mask == 0xfe00707f)
    && (row.fixed == funct7 row.fixed * 2 ^ 25 + funct3 row.fixed * 2 ^ 12 + opcode row.fixed))
    || (row.mask == 0xffffffff)

fits-has_fields : (word mask fixed : ℕ) (form : ℕ → Instr) → word < 2 ^ 32 →
    is_plain (record { mask = mask; fixed = fixed; instruction = form }) ≡ true →
    (bit_and word mask == fixed)
    ≡ has_fields (record { mask = mask; fixed = fixed; instruction = form }) word (opcode word)
    (funct3 word) (funct7 word)
fits-has_fields word mask fixed form small plain =
    grind (arith, nat_tests, and_opcode word, and_funct3 word, and_funct7 word small, and_word word small)

by_rows-first_fit : (word : ℕ) → word < 2 ^ 32 → (rows : List Row) → list_all is_plain rows ≡ true →
    first_fit rows word ≡ by_rows rows word (opcode word) (funct3 word) (funct7 word)
by_rows-first_fit word small [] plain = refl
by_rows-first_fit word small (row ∷ rows) plain =
    let parts = and_parts (is_plain row) (list_all is_plain rows) plain in
    rw (
      fits-has_fields word row.mask row.fixed row.instruction small parts.0,
      by_rows-first_fit word small rows parts.1,
    ) refl

-- a word of 32 bits is what the first row with its fields makes of it
pub instruction_of-by_rows : (word : ℕ) → word < 2 ^ 32 →
    instruction_of word ≡ by_rows table word (opcode word) (funct3 word) (funct7 word)
unfolding instruction_of table
instruction_of-by_rows word small = by_rows-first_fit word small table refl

-- no row has another opcode
by_rows-other : (word code third seventh : ℕ) (rows : List Row) →
    list_any (λ row. opcode row.fixed == code) rows ≡ false → by_rows rows word code third seventh ≡ None
by_rows-other word code third seventh [] other = refl
by_rows-other word code third seventh (row ∷ rows) other = grind (arith, by_rows-other word code third seventh rows)

-- a word whose opcode no row has is no instruction
pub instruction_of-other : (word : ℕ) → word < 2 ^ 32 → list_any (λ row. opcode row.fixed == opcode word) table
    ≡ false → instruction_of word ≡ None
instruction_of-other word small other = instruction_of-by_rows word small
    ∙ by_rows-other word (opcode word) (funct3 word) (funct7 word) table other

pub ruleset rows = (instruction_of-by_rows)
