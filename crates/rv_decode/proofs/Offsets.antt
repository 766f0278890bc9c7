-- The offsets of branches and jumps from their fields.
use Rattle.std.proofs.Common.{◌≡◌, ℕ, ◌+◌, ◌*◌, ◌^◌, arith}
use Rattle.std.specs.Prelude.{ℤ, pos, negsuc, ◌-ℤ◌}
use Rattle.std.proofs.lemmas.Int.{ints}
use Rattle.rv_isa.specs.Field.{IsSigned}
use Rattle.rv_isa.specs.Word.{modulo_word}
use Rattle.rv_decode.specs.Operand.{bits}

-- an even offset from -4096 to 4094 is the sum of its fields in a branch, of which bit 12 counts as negative
pub branch_offset-fields : (z : ℤ) → IsSigned 4096 2 z → (word : ℕ) → word ≡ modulo_word z →
    pos (bits word 11 11 * 2 ^ 11 + bits word 10 5 * 2 ^ 5 + bits word 4 1 * 2) -ℤ pos (bits word 12 12 * 2 ^ 12) ≡ z
branch_offset-fields (pos n) is word same = omega (arith, ints)
branch_offset-fields (negsuc n) is word same = omega (arith, ints)

-- an even offset from -1048576 to 1048574 is the sum of its fields in a jump, with bit 20 as negative
pub jump_offset-fields : (z : ℤ) → IsSigned 1048576 2 z → (word : ℕ) → word ≡ modulo_word z →
    pos (bits word 19 12 * 2 ^ 12 + bits word 11 11 * 2 ^ 11 + bits word 10 1 * 2) -ℤ pos (bits word 20 20 * 2 ^ 20) ≡ z
jump_offset-fields (pos n) is word same = omega (arith, ints)
jump_offset-fields (negsuc n) is word same = omega (arith, ints)
