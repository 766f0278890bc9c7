use Rattle.std.proofs.Common.{arith}
use Rattle.std.proofs.lemmas.Result.{IfOk-weaker}
use Rattle.rv_command.proofs.Subcommands.{subcommand_added}
use Rattle.rv_command.proofs.arguments.with_command.Goals as goal

pub returns-in-Ok-command : goal.returns-in-Ok-command
returns-in-Ok-command c = grind (arith, IfOk-weaker, subcommand_added)
