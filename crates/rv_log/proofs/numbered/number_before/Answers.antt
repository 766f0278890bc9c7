use Rattle.std.proofs.Common.{arith}
use Rattle.std.proofs.lemmas.Fmt.{length-decimal-le}
use Rattle.rv_log.proofs.numbered.number_before.Goals as goal

pub write_digits-requires : goal.write_digits-requires
write_digits-requires c =
    let digits = length-decimal-le 20 c.args.number (omega arith) (omega arith) (omega arith) in
    (omega (arith, digits, c.requires.0), c.requires.1)

pub returns-clause-start : goal.returns-clause-start
returns-clause-start c =
    let digits = length-decimal-le 20 c.args.number (omega arith) (omega arith) (omega arith) in
    (omega (arith, c.write_digits.ensures.start), omega (arith, digits, c.write_digits.ensures.start))
