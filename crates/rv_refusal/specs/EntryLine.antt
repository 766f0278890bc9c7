-- The lines on which the entries of a list of arrivals stand, and their fields.
use Rattle.std.specs.Prelude.{ℕ, ◌+◌, ◌==◌, Bool, is_some, List, [], ◌∷◌, if◌then◌else◌}
use Rattle.std.specs.Prelude.{Option, Some, None, option_map, option_and_then, codes}
use Rattle.std.specs.{List.slice_split, Option.option_or, Str.bytes_eq}
use Rattle.rv_refusal.specs.KeyLine.{is_none_of}
use Rattle.rv_job.specs.Parts.{without_mark}
use Rattle.rv_refusal.specs.NameOn.{NameOn, element_on, heading_on, key_on}
use Rattle.rv_refusal.specs.declared.entry_line.{EntryLine.EntryLine as Found, Sought.Sought}
use Rattle.rv_refusal.specs.declared.entry_line.Sought.TheVariants.{Entry, Field, Element, Unknown}

-- a line with its number, how many entries have begun up to it, a name on it, and how many bytes stand before the name
pub record EntryLine : Type 0 where
  pub number : ℕ
  pub entry : ℕ
  pub line : List ℕ
  pub before : ℕ
  pub name : List ℕ

-- the bytes of the line that the program holds
abbrev pub entry_line : Found → EntryLine
entry_line found =
    record {
      number = found.number;
      entry = found.entry;
      line = found.line.now;
      before = found.before;
      name = found.name.now;
    }

-- a name on a line, if it passes a test
abbrev pub if_passes : (List ℕ → Bool) → NameOn → Option NameOn
if_passes test on = if test on.name then Some on else None

-- the name of an entry that a line begins; one bracket is a mistake there
abbrev pub entry_on : List ℕ → Option NameOn
entry_on line = option_and_then (if_passes (λ name. bytes_eq name (codes "arrival"))) (heading_on line)

-- the name of an array of tables of which a line begins an element, if it is this one
abbrev pub element_named : List ℕ → List ℕ → Option NameOn
element_named name line = option_and_then (if_passes (λ other. bytes_eq other name)) (element_on line)

-- the name of a field to which a line gives a value, if it is this one
abbrev pub field_on : List ℕ → List ℕ → Option NameOn
field_on field line = option_and_then (if_passes (λ name. bytes_eq name field)) (key_on line)

-- the names of a heading
unfoldable pub heading_names : List (List ℕ)
heading_names = codes "arrival" ∷ []

-- the names of an entry's fields
unfoldable pub field_names : List (List ℕ)
field_names = codes "cycle" ∷ codes "line" ∷ codes "level" ∷ []

-- the names before `=` on the lines of an entry with a number; those before the first entry are a heading's
abbrev pub key_names : ℕ → List (List ℕ)
key_names entry = if entry == 0 then heading_names else field_names

-- a name, if it is none of these
abbrev pub if_unknown : List (List ℕ) → Option NameOn → Option NameOn
if_unknown known on = option_and_then (if_passes (is_none_of known)) on

-- the name on a line that is not known there, given how many entries have begun up to the line
abbrev pub unknown_on : ℕ → List ℕ → Option NameOn
unknown_on count line =
    option_or (if_unknown heading_names (heading_on line)) (if_unknown (key_names count) (key_on line))

-- how many entries have begun up to a line, of which so many have before it
abbrev pub count_after : ℕ → List ℕ → ℕ
count_after count line = if is_some (entry_on line) then count + 1 else count

-- what is looked for on the lines of an entry alone, given how many entries have begun up to a line
abbrev pub in_entry : ℕ → (List ℕ → Option NameOn) → ℕ → List ℕ → Option NameOn
in_entry entry on count line = if count == entry then on line else None

-- what is looked for
abbrev pub sought_on : Sought → ℕ → List ℕ → Option NameOn
sought_on (Entry entry) count line = in_entry entry entry_on count line
sought_on (Field entry name) count line = in_entry entry (field_on name.now) count line
sought_on (Element name) count line = element_named name.now line
sought_on Unknown count line = unknown_on count line

-- the line with a number, up to which so many entries have begun, with a name on it
abbrev pub line_of : ℕ → ℕ → List ℕ → NameOn → EntryLine
line_of number entry line on =
    record { number = number; entry = entry; line = line; before = on.before; name = on.name }

-- the line with a number, up to which so many entries have begun, if what is looked for stands on it
abbrev pub sought_line : (ℕ → List ℕ → Option NameOn) → ℕ → ℕ → List ℕ → Option EntryLine
sought_line on number count line = option_map (line_of number count line) (on count line)

-- the first line on which that stands which is looked for, of lines that are numbered from here on and that so many
-- entries begin before
abbrev pub first_from : (ℕ → List ℕ → Option NameOn) → ℕ → ℕ → List (List ℕ) → Option EntryLine
first_from on number count [] = None
first_from on number count (line ∷ others) =
    option_or (sought_line on number (count_after count line) line)
    (first_from on (number + 1) (count_after count line) others)

-- the first line of a text on which that stands which is looked for
unfoldable pub first_sought : (ℕ → List ℕ → Option NameOn) → List ℕ → Option EntryLine
first_sought on text = first_from on 1 0 (slice_split (λ byte. byte == 10) (without_mark text))
