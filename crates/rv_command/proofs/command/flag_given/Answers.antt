use Rattle.std.proofs.Common.{arith}
use Rattle.rv_command.proofs.Flags.{flag_read}
use Rattle.rv_command.proofs.command.flag_given.Goals as goal

pub returns : goal.returns
returns c = grind (arith, flag_read)
