-- The lines on which the keys of a description stand.
use Rattle.std.specs.Prelude.{ℕ, ◌+◌, ◌==◌, Bool, not, List, [], ◌∷◌, map, if◌then◌else◌}
use Rattle.std.specs.Prelude.{Option, Some, None, option_map, option_and_then, option_copied}
use Rattle.std.specs.{List.list_any, List.slice_split, Option.option_map_or, Option.option_or, Str.bytes_eq}
use Rattle.rv_isa.specs.Key.{joined}
use Rattle.rv_job.specs.Parts.{without_mark}
use Rattle.rv_refusal.specs.NameOn.{NameOn, heading_on, key_on}
use Rattle.rv_refusal.specs.declared.key_line.{KeyLine.KeyLine as Found, Wanted.Wanted}
use Rattle.rv_refusal.specs.declared.key_line.Wanted.TheVariants.{Unknown, Named}

-- a line with its number, the table that it stands in, the name that stands there, as it is written and with its table's
-- before it, and how many bytes stand before it
pub record KeyLine : Type 0 where
  pub number : ℕ
  pub line : List ℕ
  pub before : ℕ
  pub table : Option (List ℕ)
  pub key : List ℕ
  pub name : List ℕ

-- the bytes of the line that the program holds
abbrev pub key_line : Found → KeyLine
key_line found =
    record {
      number = found.number;
      line = found.line.now;
      before = found.before;
      table = option_copied found.table;
      key = found.name.now;
      name = joined (option_copied found.table) found.name.now;
    }

-- the line with a number, where a name stands on it in a table
abbrev pub line_of : ℕ → Option (List ℕ) → List ℕ → NameOn → KeyLine
line_of number table line on =
    record {
      number = number;
      line = line;
      before = on.before;
      table = table;
      key = on.name;
      name = joined table on.name;
    }

-- the line with a number, if a name stands on it: a heading's, or a key's in the table that the line stands in
unfoldable pub named_line : ℕ → Option (List ℕ) → List ℕ → Option KeyLine
named_line number table line =
    option_or (option_map (line_of number None line) (heading_on line))
    (option_map (line_of number table line) (key_on line))

-- the table that the lines after a line stand in
abbrev pub table_after : Option (List ℕ) → List ℕ → Option (List ℕ)
table_after table line = option_map_or (λ on. Some on.name) (heading_on line) table

-- a line, if its name passes a test
abbrev pub if_named : (List ℕ → Bool) → KeyLine → Option KeyLine
if_named test found = if test found.name then Some found else None

-- the line with a number, if a name stands on it that passes a test
abbrev pub wanted_line : (List ℕ → Bool) → ℕ → Option (List ℕ) → List ℕ → Option KeyLine
wanted_line test number table line = option_and_then (if_named test) (named_line number table line)

-- the first line with a name that passes a test, of lines in a table that are numbered from here on
abbrev pub first_from : (List ℕ → Bool) → ℕ → Option (List ℕ) → List (List ℕ) → Option KeyLine
first_from test number table [] = None
first_from test number table (line ∷ others) =
    option_or (wanted_line test number table line) (first_from test (number + 1) (table_after table line) others)

-- the first line of a text with a name that passes a test
unfoldable pub first_named : (List ℕ → Bool) → List ℕ → Option KeyLine
first_named test text = first_from test 1 None (slice_split (λ byte. byte == 10) (without_mark text))

-- a name is none of these
abbrev pub is_none_of : List (List ℕ) → List ℕ → Bool
is_none_of names name = not (list_any (bytes_eq name) names)

-- a name is the one that is looked for
abbrev pub is_wanted : Wanted → List ℕ → Bool
is_wanted (Unknown known) name = is_none_of (map (λ other. other.now) known.now) name
is_wanted (Named other) name = bytes_eq name other.now
