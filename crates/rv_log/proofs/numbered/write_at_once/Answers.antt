use Rattle.std.proofs.Common.{arith}
use Rattle.std.proofs.lemmas.Fmt.{length-decimal-le}
use Rattle.rv_log.proofs.numbered.write_at_once.Goals as goal

pub write_digits-middle-requires : goal.write_digits-middle-requires
write_digits-middle-requires g c =
    let digits = length-decimal-le 20 c.args.number (omega arith) (omega arith) (omega arith) in (
      omega (arith, digits, c.put_before-end.ensures.start, c.requires.short.1),
      omega
          (arith, c.put_before-end.ensures.start, c.put_before-end.ensures.same),
    )

pub put_before-start-requires : goal.put_before-start-requires
put_before-start-requires g c =
    let digits = length-decimal-le 20 c.args.number (omega arith) (omega arith) (omega arith) in (
      omega (arith, digits, c.put_before-end.ensures.start, c.write_digits-middle.ensures.start, c.requires.short),
      omega
          (arith, c.put_before-end.ensures.start, c.put_before-end.ensures.same, c.write_digits-middle.ensures.start),
    )
