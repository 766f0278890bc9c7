-- What the words of a command line ask for.
use Rattle.std.specs.Prelude.{◌≤◌, ◌<◌, ◌+◌, ⊤, ℕ, Bool, List, [], ◌∷◌, Option, Some, None, false, codes}
use Rattle.std.specs.Prelude.{if◌then◌else◌, option_and_then, option_map}
use Rattle.std.specs.{Option.option_map_or, Result.result_ok, Str.bytes_eq}
use Rattle.std.specs.{Str.Parse.digits_value, Str.Parse.without_leading_plus}
use Rattle.clap.specs.ValueTests.{is_unsigned_in}
use Rattle.clap.specs.Walk.{is_empty}
use Rattle.clap.specs.Kinds.{or_else}
use Rattle.clap.specs.Words.{Kinds, Row, Text, fault_of, one_of, subcommand_of}
use Rattle.clap.specs.declared.error.kind.ErrorKind.TheVariants.{ValueValidation}
use Rattle.rv_command.specs.Also.{also_in}
use Rattle.rv_command.specs.AlsoLine as also
use Rattle.rv_command.specs.Arguments.{last_cycle, most_cycles_shown, most_cycles_of_states}
use Rattle.rv_command.specs.Arguments.{most_steps, program_arguments}
use Rattle.rv_command.specs.ShowLine as show
use Rattle.rv_command.specs.Shown.{columns_in}
use Rattle.rv_command.specs.declared.command.Command.{Command}
use Rattle.rv_command.specs.declared.command.Command.TheVariants.{Run, Reference, Check, Picture, Log, States, Page}
use Rattle.rv_command.specs.declared.command.Command.TheVariants.{Explain, Profile, Path, Compare, Sensitivity}

-- the limit of a run is 1 to 1,000,000
abbrev pub IsLegalLimit : ℕ → Type 0
IsLegalLimit limit = (1 ≤ limit) × (limit ≤ most_steps)

-- a picture shows 1 to 1,000 cycles, from one that a run may have on
abbrev pub IsLegalWindow : ℕ → ℕ → Type 0
IsLegalWindow from cycles = (from ≤ last_cycle) × (1 ≤ cycles) × (cycles ≤ most_cycles_shown)

-- the states of 1 to 10,000 cycles are written, from one that a run may have on up to the limit of the run
abbrev pub IsLegalStretch : ℕ → ℕ → Type 0
IsLegalStretch from limit = (from ≤ last_cycle) × (from < limit) × (limit ≤ from + most_cycles_of_states)

-- the numbers of a command lie in their ranges
abbrev pub HasLegalNumbers : Command → Type 0
HasLegalNumbers (Run trace limit) = IsLegalLimit limit
HasLegalNumbers (Reference limit) = IsLegalLimit limit
HasLegalNumbers Check = ⊤
HasLegalNumbers (Picture text retired path from cycles) = IsLegalWindow from cycles
HasLegalNumbers (Log limit) = IsLegalLimit limit
HasLegalNumbers (States from limit) = IsLegalStretch from limit
HasLegalNumbers (Page from limit) = IsLegalStretch from limit
HasLegalNumbers (Explain figures path limit) = IsLegalLimit limit
HasLegalNumbers (Profile path limit) = IsLegalLimit limit
HasLegalNumbers (Path limit) = IsLegalLimit limit
HasLegalNumbers (Compare shown limit) = IsLegalLimit limit
HasLegalNumbers (Sensitivity also limit) = IsLegalLimit limit

-- ---- what the matches of a command hold

-- whether they hold the flag
abbrev pub flag_in : Text → List Row → Bool
flag_in name rows = option_map_or (λ text. bytes_eq text (codes "true")) (one_of name rows) false

-- the number that a text is, where it is one from low to high
abbrev pub number_from : ℕ → ℕ → Text → Option ℕ
number_from low high text = if is_unsigned_in low high text
    then Some (digits_value 10 (without_leading_plus text)) else None

-- the number of a name
abbrev pub number_in : Text → ℕ → ℕ → List Row → Option ℕ
number_in name low high rows = option_and_then (number_from low high) (one_of name rows)

-- the number of `--limit`
abbrev pub limit_in : List Row → Option ℕ
limit_in = number_in (codes "limit") 1 most_steps

-- the number of `--from`
abbrev pub from_in : List Row → Option ℕ
from_in = number_in (codes "from") 0 last_cycle

-- the number of `--cycles`
abbrev pub cycles_in : List Row → Option ℕ
cycles_in = number_in (codes "cycles") 1 most_cycles_shown

-- the number of `--cycles` where the states are written
abbrev pub stretch_cycles_in : List Row → Option ℕ
stretch_cycles_in = number_in (codes "cycles") 1 most_cycles_of_states

-- the first of the cycles whose states are written, and the limit of a run that ends with the last of them
abbrev pub stretch_in : List Row → Option (ℕ × ℕ)
stretch_in rows =
    option_and_then (λ from. option_map (λ cycles. (from, from + cycles)) (stretch_cycles_in rows)) (from_in rows)

-- what the matches of `states` ask for
abbrev pub states_in : List Row → Option Command
states_in rows = option_map (λ (stretch : ℕ × ℕ). States stretch.0 stretch.1) (stretch_in rows)

-- what the matches of `page` ask for
abbrev pub page_in : List Row → Option Command
page_in rows = option_map (λ (stretch : ℕ × ℕ). Page stretch.0 stretch.1) (stretch_in rows)

-- what the matches of `run` ask for
abbrev pub run_in : List Row → Option Command
run_in rows = option_map (Run (flag_in (codes "trace") rows)) (limit_in rows)

-- what the matches of `explain` ask for
abbrev pub explain_in : List Row → Option Command
explain_in rows = option_map (Explain (flag_in (codes "figures") rows) (flag_in (codes "path") rows)) (limit_in rows)

-- what the matches of `profile` ask for
abbrev pub profile_in : List Row → Option Command
profile_in rows = option_map (Profile (flag_in (codes "path") rows)) (limit_in rows)

-- what the matches of `compare` ask for
abbrev pub compare_in : List Row → Option Command
compare_in rows = option_and_then (λ shown. option_map (Compare shown) (limit_in rows)) (columns_in rows)

-- what the matches of `sensitivity` ask for
abbrev pub sensitivity_in : List Row → Option Command
sensitivity_in rows = option_and_then (λ also. option_map (Sensitivity also) (limit_in rows)) (result_ok (also_in rows))

-- what the matches of `picture` ask for
abbrev pub picture_in : List Row → Option Command
picture_in rows =
    option_and_then
    (λ from. option_map
    (Picture (flag_in (codes "text") rows) (flag_in (codes "retired") rows)
    (flag_in (codes "path") rows) from) (cycles_in rows))
    (from_in rows)

-- ---- what the words ask for

-- the command of a name that takes a limit and nothing else
abbrev pub limited_named : Text → List Row → Option Command
limited_named name rows =
    if bytes_eq name (codes "reference") then option_map Reference (limit_in rows)
    else (if bytes_eq name (codes "log") then option_map Log (limit_in rows)
    else (if bytes_eq name (codes "path") then option_map Path (limit_in rows) else None))

-- the command of a subcommand with its matches
abbrev pub command_named : Text × List Row → Option Command
command_named given =
    if bytes_eq given.0 (codes "run") then run_in given.1
    else (if bytes_eq given.0 (codes "reference") then option_map Reference (limit_in given.1)
    else (if bytes_eq given.0 (codes "check") then Some Check
    else (if bytes_eq given.0 (codes "picture") then picture_in given.1
    else (if bytes_eq given.0 (codes "log") then option_map Log (limit_in given.1)
    else (if bytes_eq given.0 (codes "states") then states_in given.1
    else (if bytes_eq given.0 (codes "page") then page_in given.1
    else (if bytes_eq given.0 (codes "explain") then explain_in given.1
    else (if bytes_eq given.0 (codes "profile") then profile_in given.1
    else (if bytes_eq given.0 (codes "path") then option_map Path (limit_in given.1)
    else (if bytes_eq given.0 (codes "compare") then compare_in given.1
    else (if bytes_eq given.0 (codes "sensitivity") then sensitivity_in given.1 else None)))))))))))

-- what is said of a subcommand whose matches name no command: only a value of `--show` or of `--also` can be at fault
abbrev pub said_of : Text × List Row → Text
said_of given = if bytes_eq given.0 (codes "sensitivity") then also.line_in given.1 else show.line_in given.1

-- the command that the words ask for, where they fit the program's arguments
abbrev pub command_of : List Text → Option Command
command_of words = if is_empty (fault_of program_arguments words)
    then option_and_then command_named (subcommand_of program_arguments words) else None

-- what is said of words that fit the program's arguments and name no command
abbrev pub said_of_words : List Text → Text
said_of_words words = option_map_or said_of (subcommand_of program_arguments words) []

-- The kinds that the error of refused words may have: those that clap's rules give for them. Where they give none, the
-- words name no command with numbers in their ranges.
abbrev pub refused_kinds : List Text → Kinds
refused_kinds words = or_else (fault_of program_arguments words) (ValueValidation ∷ [])
