-- Why a list of arrivals is refused.
use Rattle.std.specs.Prelude.{ℕ, ◌+◌, ◌==◌, List, [], ◌++◌, codes, decimal, if◌then◌else◌, is_none, Option}
use Rattle.std.specs.{Option.option_map_or, Option.option_or}
use Rattle.rv_describe.specs.Entries.{entry_of, field_of}
use Rattle.rv_describe.specs.declared.{arrivals_error.ArrivalsError.ArrivalsError, field.Field.Field}
use Rattle.rv_describe.specs.declared.arrivals_error.ArrivalsError.TheVariants.{NotToml, UnknownKey, WrongKind, Memory}
use Rattle.rv_describe.specs.declared.field.Field.TheVariants.{Cycle, Line, Level}
use Rattle.rv_job.specs.Parts.{Parts}
use Rattle.rv_refusal.specs.Caret.{caret_below}
use Rattle.rv_refusal.specs.EntryLine.{EntryLine, entry_on, field_names, field_on}
use Rattle.rv_refusal.specs.EntryLine.{first_sought, heading_names, in_entry, unknown_on}
use Rattle.rv_refusal.specs.KeyNames.{is_described}
use Rattle.rv_refusal.specs.Lines.{line_feeds}
use Rattle.rv_refusal.specs.Near.{spelling_line}
use Rattle.rv_refusal.specs.Place.{line_place, shown_line}
use Rattle.rv_refusal.specs.TomlFault.{no_toml}

-- the entry that a line stands in, if one has begun
unfoldable pub in_entry_text : ℕ → List ℕ
in_entry_text entry = if entry == 0 then [] else codes ", entry " ++ decimal entry

-- a line at fault that so many lines of the job stand before, with a caret below its name
unfoldable pub entry_line_text : ℕ → EntryLine → List ℕ
entry_line_text before found =
    line_place (codes "arrivals") before found.number
    ++ (in_entry_text found.entry ++ (codes "\n" ++ (shown_line found.line ++ caret_below found.before)))

-- an entry that no line is found of
unfoldable pub entry_text : ℕ → List ℕ
entry_text entry = codes "entry " ++ (decimal entry ++ codes " of the arrivals\n")

-- the name of a field
unfoldable pub field_name : Field → List ℕ
field_name Cycle = codes "cycle"
field_name Line = codes "line"
field_name Level = codes "level"

-- the line on the values that a field takes
unfoldable pub field_line : Field → List ℕ
field_line Cycle = codes "expected: cycle is a number from 0 to 1000000, no less than that of the entry before\n"
field_line Line = codes "expected: line is \"software\", \"timer\" or \"external\"\n"
field_line Level = codes "expected: level is 0 or 1, by default 1\n"

-- the line of a field of an entry
unfoldable pub line_of_field : Field → ℕ → List ℕ → Option EntryLine
line_of_field field entry part = first_sought (in_entry entry (field_on (field_name field))) part

-- the line on which an entry begins
unfoldable pub line_of_entry : ℕ → List ℕ → Option EntryLine
line_of_entry entry part = first_sought (in_entry entry entry_on) part

-- a line that gives a field a value, and which values the field takes
unfoldable pub given_lines : ℕ → Field → EntryLine → List ℕ
given_lines before field found = entry_line_text before found ++ field_line field

-- that an entry has no line of a field
unfoldable pub missing_line : Field → List ℕ
missing_line field = codes "hint: this entry has no key " ++ (field_name field ++ codes "\n")

-- the line on which an entry without a field begins, and which values the field takes
unfoldable pub lacking_lines : ℕ → Field → EntryLine → List ℕ
lacking_lines before field found = entry_line_text before found ++ (field_line field ++ missing_line field)

-- an entry that no line is found of, and which values a field of it takes
unfoldable pub unfound_lines : ℕ → Field → List ℕ
unfound_lines entry field = entry_text entry ++ field_line field

-- why arrivals are refused by a field of an entry that has no line of its own
unfoldable pub missing_lines : ℕ → List ℕ → ℕ → Field → List ℕ
missing_lines before part entry field =
    option_map_or (lacking_lines before field) (line_of_entry entry part) (unfound_lines entry field)

-- why arrivals are refused by a field of an entry: the line at fault, and which values the field takes
unfoldable pub field_lines : ℕ → List ℕ → ℕ → Field → List ℕ
field_lines before part entry field =
    option_map_or (given_lines before field) (line_of_field field entry part) (missing_lines before part entry field)

-- the line that gives `arrival` no array: its heading, which has one bracket, or else the key
unfoldable pub line_of_list : List ℕ → Option EntryLine
line_of_list part =
    option_or (first_sought (in_entry 1 entry_on) part) (first_sought (in_entry 0 (field_on (codes "arrival"))) part)

-- why arrivals are refused that are no array: the line that gives them, and which heading an entry has
unfoldable pub heading_lines : ℕ → List ℕ → List ℕ
heading_lines before part =
    option_map_or (entry_line_text before) (line_of_list part) []
    ++ codes "expected: the heading of each entry is [[arrival]]\n"

-- why arrivals are refused by the list itself: it is no array, or has too many entries
unfoldable pub list_lines : ℕ → List ℕ → ArrivalsError → List ℕ
list_lines before part (WrongKind entry field) = heading_lines before part
list_lines before part _ = codes "expected: at most 100000 entries [[arrival]]\n"

-- why arrivals are refused by an entry: by the first field with this fault, or by the list
unfoldable pub entry_lines : ℕ → List ℕ → ArrivalsError → List ℕ
entry_lines before part error =
    option_map_or (field_lines before part (entry_of error)) (field_of error) (list_lines before part error)

-- the names that a list of arrivals may have
abbrev pub arrival_names : List (List ℕ)
arrival_names = heading_names ++ field_names

-- what was expected in place of an unknown name
unfoldable pub arrival_expected : List ℕ
arrival_expected = codes "expected: entries [[arrival]], each with cycle, line and level\n"

-- that a description stands in the place of arrivals
unfoldable pub description_line : List ℕ
description_line =
    codes "hint: a description is the first of three parts, with no line %% before it; compare alone reads several\n"

-- what is said of an unknown name: that it is one of a description, or else the known names that it may stand for
unfoldable pub name_line : List ℕ → List ℕ
name_line name = if is_described name then description_line else spelling_line name arrival_names

-- a line with an unknown name, what was expected there, and what is said of the name
unfoldable pub unknown_line : ℕ → EntryLine → List ℕ
unknown_line before found =
    entry_line_text before found ++ (arrival_expected ++ name_line found.name)

-- the first line of a list of arrivals with a name that is not known there
unfoldable pub unknown_lines : ℕ → List ℕ → List ℕ
unknown_lines before part =
    option_map_or (unknown_line before) (first_sought unknown_on part) arrival_expected

-- that arrivals stand there, and no assembly, where no line gives any
unfoldable pub parts_line : List ℕ → List ℕ
parts_line part =
    if is_none (line_of_list part)
    then codes "hint: arrivals are the second of three parts, and assembly is the third one\n"
    else []

-- the line with which arrivals cease to be TOML, and what was expected there
unfoldable pub no_arrivals : ℕ → List ℕ → List ℕ
no_arrivals before part = no_toml (codes "arrivals") before (codes "'[[arrival]]'") part

-- why arrivals are refused that are no TOML
unfoldable pub toml_lines : ℕ → List ℕ → List ℕ
toml_lines before part = no_arrivals before part ++ parts_line part

-- why arrivals are refused that so many lines of the job stand before
unfoldable pub part_lines : ℕ → List ℕ → ArrivalsError → List ℕ
part_lines before part NotToml = toml_lines before part
part_lines before part UnknownKey = unknown_lines before part
part_lines before part Memory = []
part_lines before part error = entry_lines before part error

-- why the arrivals of these parts are refused; the description and a line `%%` stand before them
unfoldable pub arrivals_lines : Parts → ArrivalsError → List ℕ
arrivals_lines parts error = part_lines (line_feeds parts.description + 1) parts.arrivals error
