-- What is said of the texts of `--show`, where one names nothing or is one too many.
use Rattle.std.specs.Prelude.{Bool, List, [], ◌++◌, slice_get, codes, is_none}
use Rattle.std.specs.{List.find, Option.option_map_or}
use Rattle.clap.specs.Words.{Row, Text}
use Rattle.rv_command.specs.Given.{texts_of}
use Rattle.rv_command.specs.Shown.{shown_of}

-- what `--show` takes
unfoldable pub what_is_shown : Text
what_is_shown = codes "WHAT is a register, as a0 or x10, the address of a word, as 0x80001000, or places"

-- what is said of a text, and why
abbrev pub said_of_text : Text → Text → Text
said_of_text text reason = codes "invalid value '" ++ (text ++ (codes "' for '--show <WHAT>': " ++ reason))

-- a text names nothing that a table can show
abbrev pub names_nothing : Text → Bool
names_nothing text = is_none (shown_of text)

-- what is said of the first text that names nothing
abbrev pub nothing_line : List Text → Text
nothing_line texts = option_map_or (λ text. said_of_text text what_is_shown) (find names_nothing texts) []

-- what is said of texts: of a fifth one that it is one too many, and else of the first that names nothing
abbrev pub show_line : List Text → Text
show_line texts =
    option_map_or (λ text. said_of_text text (codes "--show may be given four times")) (slice_get texts 4)
    (nothing_line texts)

-- the same of those that the matches hold
abbrev pub line_in : List Row → Text
line_in rows = show_line (texts_of (codes "show") rows)
