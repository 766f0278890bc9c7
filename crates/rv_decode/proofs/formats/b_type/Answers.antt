use Rattle.std.proofs.Common.{◌≡◌, ◌+◌, ◌*◌, ◌%◌, bit_or, refl, arith, rules}
use Rattle.std.proofs.lemmas.Grind.{or_before_shift}
use Rattle.rv_decode.specs.Operand.{bits}
use Rattle.rv_decode.proofs.Offsets.{branch_offset-fields}
use Rattle.rv_decode.proofs.formats.b_type.Goals as goal

pub returns-clause-offset : goal.returns-clause-offset
returns-clause-offset c =
    let low : bit_or c.bits.result (c.bits-2.result * 2 % 4294967296) ≡ c.bits-2.result * 2 + c.bits.result =
    or_before_shift c.bits.result c.bits-2.result 2 4294967296 refl (omega arith) (omega arith) in
    let high : bit_or c.bits-3.result (c.bits-4.result * 64 % 4294967296) ≡ c.bits-4.result * 64 + c.bits-3.result =
    or_before_shift c.bits-3.result c.bits-4.result 64 4294967296 refl (omega arith) (omega arith) in
    let bit_11 : bits c.joined.result 7 7 ≡ bits c.word-word.result 11 11 = omega (arith, low, high) in
    let bits_10_5 : bits c.joined.result 30 25 ≡ bits c.word-word.result 10 5 = omega (arith, low, high) in
    let bits_4_1 : bits c.joined.result 11 8 ≡ bits c.word-word.result 4 1 = omega (arith, low, high) in
    let bit_12 : bits c.joined.result 31 31 ≡ bits c.word-word.result 12 12 = omega (arith, low, high) in
    rw (bit_11, bits_10_5, bits_4_1, bit_12)
    (branch_offset-fields c.args.offset (search rules) c.word-word.result c.word-word.ensures)
