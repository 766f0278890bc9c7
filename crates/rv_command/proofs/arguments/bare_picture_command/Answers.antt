use Rattle.std.proofs.Common.{rules}
use Rattle.rv_command.proofs.arguments.bare_picture_command.Goals as goal

pub returns : goal.returns
returns c = search (rules, c.with_argument-with_text.ensures.arguments, c.with_argument-with_retired.ensures.arguments, c.with_argument.ensures.arguments)
