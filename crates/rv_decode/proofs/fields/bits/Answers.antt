use Rattle.rv_decode.proofs.Masks.{bits-by_shifts}
use Rattle.rv_decode.proofs.fields.bits.Goals as goal

pub returns : goal.returns
returns c = bits-by_shifts c.args.word c.args.high c.args.low c.requires.order c.requires.in_word
