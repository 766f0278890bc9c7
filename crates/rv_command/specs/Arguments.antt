-- The program's arguments, as `clap` is given them: `rv_sim COMMAND [OPTION..]`.
use Rattle.std.specs.Prelude.{◌≡◌, ℕ, List, [], ◌∷◌, Some, true, false, codes}
use Rattle.clap.specs.Words.{App, Rule, Text, app_of, new_app, new_rule, with_rule, with_subcommand}
use Rattle.clap.specs.declared.builder.ArgAction.TheVariants.{Append, Set, SetTrue}
use Rattle.clap.specs.declared.builder.command.Command.{Command as Parser, TheViews.out-Command as fields_of}
use Rattle.clap.specs.declared.builder.value_parser.ValueParser.TheVariants.{Unsigned}

-- the most cycles, or steps of the reference, that a run may have
abbrev pub most_steps : ℕ
most_steps = 1000000

-- the last cycle that a run may have; the first is 0
abbrev pub last_cycle : ℕ
last_cycle = 999999

-- the most cycles that a picture may show
abbrev pub most_cycles_shown : ℕ
most_cycles_shown = 1000

-- the most cycles of which the states may be written
abbrev pub most_cycles_of_states : ℕ
most_cycles_of_states = 10000

-- ---- the options of a command

-- the flag `--NAME`
abbrev pub flag_rule : Text → Rule
flag_rule name = record (new_rule name) { long = Some name; action = Some SetTrue }

-- `--NAME N` with a number from low to high, which is the default where it is not given
abbrev pub number_rule : Text → ℕ → ℕ → Text → Rule
number_rule name low high default = record (new_rule name) {
  long = Some name;
  action = Some Set;
  value_names = 1;
  defaults = default ∷ [];
  parser = Some (Unsigned low high);
}

-- `--limit N`: how many cycles or steps a run may have
abbrev pub limit_rule : Rule
limit_rule = number_rule (codes "limit") 1 most_steps (codes "100000")

-- `--from N`: the first cycle that is shown
abbrev pub from_rule : Rule
from_rule = number_rule (codes "from") 0 last_cycle (codes "0")

-- `--cycles N`: how many cycles a picture shows
abbrev pub cycles_rule : Rule
cycles_rule = number_rule (codes "cycles") 1 most_cycles_shown (codes "60")

-- `--cycles N`: of how many cycles the states are written
abbrev pub stretch_cycles_rule : Rule
stretch_cycles_rule = number_rule (codes "cycles") 1 most_cycles_of_states (codes "200")

-- `--show WHAT`: a register, a word or the places that a table shows; it may be given more than once
abbrev pub show_rule : Rule
show_rule = record (new_rule (codes "show")) { long = Some (codes "show"); action = Some Append; value_names = 1 }

-- `--also KEY=VALUE`: a change of a user's own; it may be given more than once
abbrev pub also_rule : Rule
also_rule = record (new_rule (codes "also")) { long = Some (codes "also"); action = Some Append; value_names = 1 }

-- ---- the commands

-- `rv_sim NAME [--limit N]`
abbrev pub limited_arguments : Text → App
limited_arguments name = with_rule (new_app name) limit_rule

-- `rv_sim NAME [--FLAG] [--limit N]`
abbrev pub flagged_arguments : Text → Text → App
flagged_arguments name flag = with_rule (with_rule (new_app name) (flag_rule flag)) limit_rule

-- `rv_sim compare [--limit N] [--show WHAT]..`
abbrev pub compare_arguments : App
compare_arguments = with_rule (limited_arguments (codes "compare")) show_rule

-- `rv_sim sensitivity [--limit N] [--also KEY=VALUE]..`
abbrev pub sensitivity_arguments : App
sensitivity_arguments = with_rule (limited_arguments (codes "sensitivity")) also_rule

-- `rv_sim check`
abbrev pub check_arguments : App
check_arguments = new_app (codes "check")

-- `rv_sim picture [--text] [--retired] [--path]`
abbrev pub bare_picture_arguments : App
bare_picture_arguments =
    with_rule (with_rule (with_rule (new_app (codes "picture")) (flag_rule (codes "text")))
    (flag_rule (codes "retired")))
    (flag_rule (codes "path"))

-- `rv_sim picture [--text] [--retired] [--path] [--from N] [--cycles N]`
abbrev pub picture_arguments : App
picture_arguments = with_rule (with_rule bare_picture_arguments from_rule) cycles_rule

-- `rv_sim explain [--figures] [--path] [--limit N]`
abbrev pub explain_arguments : App
explain_arguments =
    with_rule (with_rule (with_rule (new_app (codes "explain")) (flag_rule (codes "figures")))
    (flag_rule (codes "path"))) limit_rule

-- `rv_sim NAME [--from N]`
abbrev pub stretch_from_arguments : Text → App
stretch_from_arguments name = with_rule (new_app name) from_rule

-- `rv_sim NAME [--from N] [--cycles N]`
abbrev pub stretch_arguments : Text → App
stretch_arguments name = with_rule (stretch_from_arguments name) stretch_cycles_rule

-- ---- the program

-- a command has to be named
abbrev pub with_required_subcommand : App → App
with_required_subcommand app = record app { top = record app.top { subcommand_required = true } }

-- `--version` is taken
abbrev pub with_version : App → App
with_version app = record app { top = record app.top { has_version = true } }

-- the program with no command yet
abbrev pub bare_arguments : App
bare_arguments = with_required_subcommand (with_version (new_app (codes "rv_sim")))

-- a program with more commands, in turn
abbrev pub with_commands : App → List App → App
with_commands program [] = program
with_commands program (command ∷ rest) = with_commands (with_subcommand program command.top) rest

-- the program with its commands
abbrev pub program_arguments : App
program_arguments = with_commands bare_arguments (
    flagged_arguments (codes "run") (codes "trace") ∷
    limited_arguments (codes "reference") ∷
    check_arguments ∷
    picture_arguments ∷
    limited_arguments (codes "log") ∷
    stretch_arguments (codes "states") ∷
    stretch_arguments (codes "page") ∷
    explain_arguments ∷
    flagged_arguments (codes "profile") (codes "path") ∷
    limited_arguments (codes "path") ∷
    compare_arguments ∷
    sensitivity_arguments ∷
    []
    )

-- the parser has these arguments, none of which its subcommands take over
abbrev pub IsParserOf : App → Parser → Type 0
IsParserOf arguments parser = (app_of parser ≡ arguments)
    × ((fields_of parser).has_globals ≡ false)
