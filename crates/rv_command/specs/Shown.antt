-- What `--show` names.
use Rattle.std.specs.Prelude.{ℕ, ◌%◌, ◌==◌, nat_lt, if◌then◌else◌, List, length}
use Rattle.std.specs.Prelude.{slice_get, Option, Some, None, codes, option_and_then}
use Rattle.std.specs.{Option.option_map, Option.option_map_or, Str.bytes_eq}
use Rattle.clap.specs.Words.{Row, Text}
use Rattle.rv_asm.specs.Names.{register_named}
use Rattle.rv_asm.specs.Token.{Token, Name, Number}
use Rattle.rv_command.specs.Given.{texts_of}
use Rattle.rv_command.specs.LoneToken.{lone_token}
use Rattle.rv_command.specs.declared.shown.{Shown.Shown, ShownColumns.ShownColumns}
use Rattle.rv_command.specs.declared.shown.Shown.TheVariants.{Register, Word, Places}

-- `places` stands for what became of the places for dispatch, another name for a register
abbrev pub name_shown : Text → Option Shown
name_shown name = if bytes_eq name (codes "places") then Some Places else option_map Register (register_named name)

-- a name, or the word of memory at an address, as the assembler reads names and numbers
abbrev pub shown_by : Token → Option Shown
shown_by (Name name) = name_shown name
shown_by (Number address) = if address % 4 == 0 then Some (Word address) else None
shown_by _ = None

-- what a text names that is one token
abbrev pub shown_of : Text → Option Shown
shown_of text = option_and_then shown_by (lone_token text)

-- the column of the text at a place: none where there is no text, and no answer where that names nothing
abbrev pub column_of : List Text → ℕ → Option (Option Shown)
column_of texts place = option_map_or (λ text. option_map Some (shown_of text)) (slice_get texts place) (Some None)

-- the columns of at most four texts
abbrev pub columns_of : List Text → Option ShownColumns
columns_of texts =
    if nat_lt 4 (length texts) then None
    else option_and_then (λ one. option_and_then (λ two. option_and_then (λ three. option_map (λ four.
    record { first = one; second = two; third = three; fourth = four })
    (column_of texts 3)) (column_of texts 2)) (column_of texts 1)) (column_of texts 0)

-- those that the matches hold
abbrev pub columns_in : List Row → Option ShownColumns
columns_in rows = columns_of (texts_of (codes "show") rows)
