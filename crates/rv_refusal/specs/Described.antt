-- Why a description is refused.
use Rattle.std.specs.Prelude.{ℕ, ◌-◌, ◌==◌, ◌&&◌, Bool, not, List, [], ◌++◌}
use Rattle.std.specs.Prelude.{codes, if◌then◌else◌, is_none, Option, None, option_map, unwrap_or}
use Rattle.std.specs.{List.slice_get, Option.option_map_or, Option.option_or, Str.bytes_eq}
use Rattle.rv_isa.specs.declared.keys.Key.{Key}
use Rattle.rv_isa.specs.Key.{key_place, order, text_of}
use Rattle.rv_describe.specs.Fault.{place_of}
use Rattle.rv_describe.specs.declared.description_error.DescriptionError.{DescriptionError}
use Rattle.rv_describe.specs.declared.description_error.DescriptionError.TheVariants.{NotToml, UnknownKey}
use Rattle.rv_refusal.specs.Caret.{caret_below}
use Rattle.rv_refusal.specs.EntryLine.{EntryLine, element_named, first_sought}
use Rattle.rv_refusal.specs.KeyHint.{key_hint}
use Rattle.rv_refusal.specs.KeyLine.{KeyLine, first_named, is_none_of}
use Rattle.rv_refusal.specs.KeyNames.{key_names, keys_named}
use Rattle.rv_refusal.specs.KeyDefault.{values_line}
use Rattle.rv_refusal.specs.NameOn.{goes_on_with, table_on, value_on}
use Rattle.rv_refusal.specs.Place.{line_place, shown_line}
use Rattle.rv_refusal.specs.TomlFault.{no_toml}

-- a line at fault of a description, with which a job begins, and a caret below its name
unfoldable pub key_line_text : KeyLine → List ℕ
key_line_text found =
    line_place (codes "description") 0 found.number
    ++ (codes "\n" ++ (shown_line found.line ++ caret_below found.before))

-- the key at a place, from 1
abbrev pub key_at : ℕ → Option Key
key_at place = if place == 0 then None else slice_get order (place - 1)

-- the name of the table that a key stands in, empty at top level
abbrev pub table_of : Key → List ℕ
table_of key = unwrap_or (key_place key).table []

-- the line on which an array of tables stands
abbrev pub line_of_array : EntryLine → KeyLine
line_of_array found =
    record {
      number = found.number;
      line = found.line;
      before = found.before;
      table = None;
      key = found.name;
      name = found.name;
    }

-- the first line of a description on which the table of a key stands as an array of tables, in two brackets
abbrev pub array_line : Key → List ℕ → Option KeyLine
array_line key part =
    option_map line_of_array (first_sought (λ count line. element_named (table_of key) line) part)

-- the first line of a description on which a key stands, or else its table
unfoldable pub line_of_name : Key → List ℕ → Option KeyLine
line_of_name key part =
    option_or (first_named (λ name. bytes_eq name (text_of key)) part)
    (first_named (λ name. bytes_eq name (table_of key)) part)

-- the first line of a description on which the table of a key stands as an array of tables, or else the key, or else its
-- table
unfoldable pub line_of_key : Key → List ℕ → Option KeyLine
line_of_key key part = option_or (array_line key part) (line_of_name key part)

-- a line gives the table of a key a value that is none: it is no line of a table in brackets, and its value begins with
-- no brace
abbrev pub gives_no_table : Key → KeyLine → Bool
gives_no_table key found =
    bytes_eq found.name (table_of key)
    && (is_none (table_on found.line) && not (goes_on_with 123 (value_on found.line)))

-- that the table of a key is a table
unfoldable pub table_expected : Key → List ℕ
table_expected key =
    codes "expected: "
    ++ (table_of key ++ (codes " is a table, as in a line '["
    ++ (table_of key ++ codes "]' before those of its keys\n")))

-- what was expected at the line of a key: a table, or which values the key takes
unfoldable pub key_expected : Key → KeyLine → List ℕ
key_expected key found = if gives_no_table key found then table_expected key else values_line key

-- why a description is refused by the value at a key: the line at fault, and what was expected there
unfoldable pub value_lines : List ℕ → Key → List ℕ
value_lines part key =
    option_map_or (λ found. key_line_text found ++ key_expected key found) (line_of_key key part) (values_line key)

-- what was expected in place of an unknown name
unfoldable pub known_expected : List ℕ
known_expected = codes "expected: a key or a table of a description\n"

-- a line with an unknown name, what was expected there, and the known names that it may stand for
unfoldable pub unknown_line : List (List ℕ) → KeyLine → List ℕ
unknown_line known found =
    key_line_text found ++ (known_expected ++ key_hint known found (keys_named found.key order))

-- the first line of a description with a name that is none of these
unfoldable pub unknown_among : List (List ℕ) → List ℕ → List ℕ
unknown_among known part =
    option_map_or (unknown_line known) (first_named (is_none_of known) part)
    (codes "expected: keys and tables of a description\n")

-- the first line of a description with a name that is no key's and no table's
abbrev pub unknown_lines : List ℕ → List ℕ
unknown_lines part = unknown_among key_names part

-- why a description is refused
unfoldable pub description_lines : List ℕ → DescriptionError → List ℕ
description_lines part NotToml = no_toml (codes "description") 0 (codes "'rob = 8'") part
description_lines part UnknownKey = unknown_lines part
description_lines part error = option_map_or (value_lines part) (key_at (place_of error)) []
