-- The arguments of a parser with one more subcommand.
use Rattle.std.proofs.Common.{◌∙◌, ap, refl}
use Rattle.clap.specs.Words.{AddsSubcommand, App, shape_of, with_subcommand}
use Rattle.clap.specs.declared.builder.command.Command.{Command as Parser}
use Rattle.rv_command.specs.Arguments.{IsParserOf}

-- a parser to which a subcommand is added parses that too
pub subcommand_added : (old sub new : Parser) (program command : App) → IsParserOf program old → IsParserOf command sub
    → AddsSubcommand old sub new → IsParserOf (with_subcommand program command.top) new
subcommand_added old sub new program command is is_command added = (
  added.shape is_command.1 ∙ ap (λ (a : App). with_subcommand a (shape_of sub)) is.0
      ∙ ap (λ (a : App). with_subcommand program a.top) is_command.0,
  added.globals ∙ rw (is.1, is_command.1) refl,
)
