use Rattle.std.proofs.Common.{rules}
use Rattle.rv_command.proofs.arguments.flagged_command.Goals as goal

pub returns : goal.returns
returns c = search (rules, c.with_argument-flagged.ensures.arguments, c.with_argument.ensures.arguments)
