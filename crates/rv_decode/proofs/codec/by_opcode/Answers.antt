use Rattle.std.proofs.Common.{sym, arith}
use Rattle.std.proofs.lemmas.Bool.Decides.{nat_tests}
use Rattle.rv_decode.specs.InstructionTable.{table}
use Rattle.rv_decode.proofs.Rows.{instruction_of-other}
use Rattle.rv_decode.proofs.codec.by_opcode.Goals as goal

pub returns-in_default : goal.returns-in_default
unfolding table
returns-in_default c = sym
    (instruction_of-other c.args.word c.ranges.word.fits (rw (sym c.opcode.ensures) (grind (arith, nat_tests))))
