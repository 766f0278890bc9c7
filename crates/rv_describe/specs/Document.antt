-- A document of TOML: the table that a text is, and what it holds at a key.
use Rattle.std.specs.Prelude.{ℕ, Bool, List, Option, Some, None, is_some, option_map, if◌then◌else◌}
use Rattle.std.specs.{Option.option_flatten, Option.option_map_or, Str.is_utf8}
use Rattle.toml.specs.{Data.Data, Data.Members, Data.no_members, Data.as_table, Data.get_member, Parse.parse_document}
use Rattle.rv_isa.specs.declared.keys.Key.{Key}
use Rattle.rv_isa.specs.Key.{Place, key_place}

-- TOML 1.0, "Spec": a document is a valid UTF-8 text; the table that it gives
abbrev pub document : List ℕ → Option Members
document bytes = if is_utf8 bytes then parse_document bytes else None

-- a text is one
abbrev pub is_toml : List ℕ → Bool
is_toml bytes = is_some (document bytes)

-- the members at top level, or of the table with a name: none where nothing has the name, and nothing where it is no table's
abbrev pub table_of : Option (List ℕ) → Members → Option Members
table_of None members = Some members
table_of (Some name) members = option_map_or as_table (get_member name members) (Some no_members)

-- what the table holds at a key: nothing where the key's table must stand and does not, nothing in it where no value stands
unfoldable pub held : Members → Place → Option (Option Data)
held members place = option_map (get_member place.name) (table_of place.table members)

-- the value that stands at a key, where one does
abbrev pub value_at : Members → Key → Option Data
value_at members key = option_flatten (held members (key_place key))
