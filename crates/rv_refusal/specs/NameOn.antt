-- The names on the lines of a text in TOML: a table's in brackets, and a key before `=`. A name is of bare keys with
-- dots between them, and may stand in quotes.
use Rattle.std.specs.Prelude.{ℕ, ◌+◌, ◌==◌, ◌&&◌, ◌||◌, Bool, false, List, [], ◌∷◌}
use Rattle.std.specs.Prelude.{drop, take, if◌then◌else◌, Option, Some, None}
use Rattle.std.specs.{Char.is_ascii_alphanumeric, List.prefix_len, Option.option_or}

-- a blank or a tab
abbrev pub is_blank : ℕ → Bool
is_blank byte = byte == 32 || byte == 9

-- how many blanks a text begins with
abbrev pub blanks : List ℕ → ℕ
blanks text = prefix_len is_blank text

-- a letter, a digit, an underscore, a hyphen or a dot
abbrev pub is_name_byte : ℕ → Bool
is_name_byte byte = is_ascii_alphanumeric byte || (byte == 95 || (byte == 45 || byte == 46))

-- a text begins with a byte
abbrev pub begins_with : ℕ → List ℕ → Bool
begins_with mark [] = false
begins_with mark (byte ∷ others) = byte == mark

-- a text begins with a byte, after blanks
abbrev pub goes_on_with : ℕ → List ℕ → Bool
goes_on_with mark text = begins_with mark (drop (blanks text) text)

-- a name on a line, and how many bytes stand before it
pub record NameOn : Type 0 where
  pub before : ℕ
  pub name : List ℕ

-- the name that stands at the front of what follows so many bytes of a line, if a mark stands after it
unfoldable pub name_at : ℕ → ℕ → List ℕ → Option NameOn
name_at before mark rest =
    let size = prefix_len is_name_byte rest in
    if goes_on_with mark (drop size rest) then Some (record { before = before; name = take size rest }) else None

-- the name at the front of what follows a quote, which so many bytes of a line stand before, if a quote and a mark
-- stand after it
unfoldable pub quoted_at : ℕ → ℕ → ℕ → List ℕ → Option NameOn
quoted_at before quote mark rest =
    let size = prefix_len is_name_byte rest in
    if begins_with quote (drop size rest) && goes_on_with mark (drop (size + 1) rest)
    then Some (record { before = before; name = take size rest }) else None

-- the name that stands at the front of what follows so many bytes of a line, in quotes or in none, if a mark stands
-- after it
unfoldable pub front_name : ℕ → ℕ → List ℕ → Option NameOn
front_name before mark rest =
    if begins_with 34 rest then quoted_at before 34 mark (drop 1 rest)
    else (if begins_with 39 rest then quoted_at before 39 mark (drop 1 rest)
    else name_at before mark rest)

-- the same after blanks
unfoldable pub name_after : ℕ → ℕ → List ℕ → Option NameOn
name_after before mark text = front_name (before + blanks text) mark (drop (blanks text) text)

-- the table that a line names: its name stands in brackets
unfoldable pub table_on : List ℕ → Option NameOn
table_on line =
    let before = blanks line in
    if begins_with 91 (drop before line) then name_after (before + 1) 93 (drop (before + 1) line) else None

-- the element of an array of tables that a line begins: the array's name stands in two brackets
unfoldable pub element_on : List ℕ → Option NameOn
element_on line =
    let before = blanks line in
    if begins_with 91 (drop before line) && begins_with 91 (drop (before + 1) line)
    then name_after (before + 2) 93 (drop (before + 2) line) else None

-- the name in the brackets of a heading, one before and after it or two
unfoldable pub heading_on : List ℕ → Option NameOn
heading_on line = option_or (element_on line) (table_on line)

-- the key that a line gives a value: its name stands before `=`
abbrev pub key_on : List ℕ → Option NameOn
key_on line = name_after 0 61 line

-- what stands after the first `=` of a line; nothing on a line without one
abbrev pub value_on : List ℕ → List ℕ
value_on [] = []
value_on (byte ∷ others) = if byte == 61 then others else value_on others
