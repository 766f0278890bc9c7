use Rattle.std.proofs.Common.{◌≡◌, ◌+◌, ◌*◌, ◌%◌, bit_or, refl, arith, rules}
use Rattle.std.proofs.lemmas.Grind.{or_before_shift}
use Rattle.rv_decode.specs.Operand.{bits}
use Rattle.rv_decode.proofs.Offsets.{jump_offset-fields}
use Rattle.rv_decode.proofs.formats.j_type.Goals as goal

pub returns-clause-offset : goal.returns-clause-offset
returns-clause-offset c =
    let two : bit_or c.bits.result (c.bits-2.result * 256 % 4294967296) ≡ c.bits-2.result * 256 + c.bits.result =
    or_before_shift c.bits.result c.bits-2.result 256 4294967296 refl (omega arith) (omega arith) in
    let three : bit_or (bit_or c.bits.result (c.bits-2.result * 256 % 4294967296)) (c.bits-3.result * 512 % 4294967296)
    ≡ c.bits-3.result * 512 + bit_or c.bits.result (c.bits-2.result * 256 % 4294967296) =
    or_before_shift (bit_or c.bits.result (c.bits-2.result * 256 % 4294967296)) c.bits-3.result 512 4294967296 refl
    (omega (arith, two)) (omega arith) in
    let four : bit_or (bit_or (bit_or c.bits.result (c.bits-2.result * 256 % 4294967296)) (c.bits-3.result
    * 512 % 4294967296)) (c.bits-4.result * 524288 % 4294967296) ≡ c.bits-4.result * 524288
    + bit_or (bit_or c.bits.result (c.bits-2.result * 256 % 4294967296)) (c.bits-3.result * 512 % 4294967296) =
    or_before_shift
    (bit_or (bit_or c.bits.result (c.bits-2.result * 256 % 4294967296)) (c.bits-3.result * 512 % 4294967296))
    c.bits-4.result 524288 4294967296 refl (omega (arith, two, three)) (omega arith) in
    let whole : c.from_field.result ≡ c.bits-4.result * 524288 + c.bits-3.result * 512 + c.bits-2.result * 256
    + c.bits.result = omega (arith, two, three, four) in
    let bits_19_12 : bits c.u_type.result 19 12 ≡ bits c.word-word.result 19 12 =
    omega (arith, whole, c.u_type.ensures.immediate) in
    let bit_11 : bits c.u_type.result 20 20 ≡ bits c.word-word.result 11 11 =
    omega (arith, whole, c.u_type.ensures.immediate) in
    let bits_10_1 : bits c.u_type.result 30 21 ≡ bits c.word-word.result 10 1 =
    omega (arith, whole, c.u_type.ensures.immediate) in
    let bit_20 : bits c.u_type.result 31 31 ≡ bits c.word-word.result 20 20 =
    omega (arith, whole, c.u_type.ensures.immediate) in
    rw (bits_19_12, bit_11, bits_10_1, bit_20)
    (jump_offset-fields c.args.offset (search rules) c.word-word.result c.word-word.ensures)
