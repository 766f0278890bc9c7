-- What is under the masks of the table's rows: fields of the word at their places.
use Rattle.std.proofs.Common.{◌≡◌, ℕ, ◌+◌, ◌-◌, ◌*◌, ◌/◌, ◌%◌, ◌^◌, ◌<◌, ◌≤◌, bit_and, refl, sym, ap, ◌∙◌, arith}
use Rattle.std.proofs.lemmas.Nat.{and_block, field_of, shl-shr, shr-shr}
use Rattle.std.proofs.lemmas.Grind.{and_numeral}
use Rattle.rv_decode.specs.Operand.{bits, opcode, funct3, funct7}

-- under the mask 0x7f a word has its opcode
pub and_opcode : (word : ℕ) → bit_and word 0x7f ≡ opcode word
and_opcode word = and_numeral word 126 refl ∙ omega arith

-- under the mask 0x707f a word has funct3 and the opcode, each at its place
pub and_funct3 : (word : ℕ) → bit_and word 0x707f ≡ funct3 word * 2 ^ 12 + opcode word
and_funct3 word =
    let parts : word ≡ word / 4096 * 4096 + word % 4096 = omega arith in
    ap (λ (w : ℕ). bit_and w 0x707f) parts ∙ and_block 12 (word / 4096) 7 (word % 4096) 127 (omega arith) (omega arith)
    ∙ omega (arith, and_numeral (word / 4096) 6 refl, and_numeral (word % 4096) 126 refl)

-- under the mask 0xfe00707f a word has funct7, funct3 and the opcode, each at its place
pub and_funct7 : (word : ℕ) → word < 2 ^ 32 → bit_and word 0xfe00707f ≡ funct7 word * 2 ^ 25 + funct3 word
    * 2 ^ 12 + opcode word
and_funct7 word small =
    let parts : word ≡ word / 33554432 * 33554432 + word % 33554432 = omega arith in
    ap (λ (w : ℕ). bit_and w 0xfe00707f) parts
    ∙ and_block 25 (word / 33554432) 127 (word % 33554432) 28799 (omega arith) (omega arith)
    ∙ omega (arith, and_numeral (word / 33554432) 126 refl, and_funct3 (word % 33554432))

-- under a mask of 32 ones a word of 32 bits is whole
pub and_word : (word : ℕ) → word < 2 ^ 32 → bit_and word 0xffffffff ≡ word
and_word word small = and_numeral word 4294967294 refl ∙ omega arith

-- a shift to the left that drops the bits above a field, and one to the right that drops those below it
between : (word above size below : ℕ) → word * 2 ^ above % 2 ^ (size + below + above) / 2 ^ (above + below)
    ≡ word / 2 ^ below % 2 ^ size
between word above size below =
    sym (shr-shr (word * 2 ^ above % 2 ^ (size + below + above)) above below)
    ∙ ap (λ (x : ℕ). x / 2 ^ below) (field_of (word * 2 ^ above) (size + below) above
    ∙ ap (λ (x : ℕ). x % 2 ^ (size + below)) (shl-shr word above))
    ∙ field_of word size below

-- a shift to the left within 32 bits, then one to the right, gives the bits from high down to low
pub bits-by_shifts : (word high low : ℕ) → low ≤ high → high < 32 →
    word * 2 ^ (31 - high) % 4294967296 / 2 ^ (31 - high + low) ≡ bits word high low
bits-by_shifts word high low order in_word =
    let all : high + 1 - low + low + (31 - high) ≡ 32 = omega arith in
    rw all at (between word (31 - high) (high + 1 - low) low)
