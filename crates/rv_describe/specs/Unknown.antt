-- The names of a table of TOML, and those that a description does not know.
use Rattle.std.specs.Prelude.{ℕ, Bool, true, false, not, ◌&&◌, ◌||◌, List, Option, Some, None}
use Rattle.std.specs.{List.list_any, Str.bytes_eq}
use Rattle.toml.specs.Data.{Data, table, Members, no_members, member}
use Rattle.rv_isa.specs.Key.{key_place, order}

-- some name of a table passes a test, with its value
abbrev pub any_member : (List ℕ → Data → Bool) → Members → Bool
any_member test no_members = false
any_member test (member name value later) = test name value || any_member test later

-- some name of the table is none of these
abbrev pub has_other_name : List (List ℕ) → Members → Bool
has_other_name names members = any_member (λ name value. not (list_any (bytes_eq name) names)) members

-- the same place of keys: the top level, or the table of a name
abbrev pub same_table : Option (List ℕ) → Option (List ℕ) → Bool
same_table None None = true
same_table (Some outer) (Some other) = bytes_eq outer other
same_table _ _ = false

-- some key has this name in this table
unfoldable pub is_key : Option (List ℕ) → List ℕ → Bool
is_key outer name = list_any (λ key. same_table (key_place key).table outer && bytes_eq (key_place key).name name) order

-- some key is in this table
unfoldable pub is_table : List ℕ → Bool
is_table name = list_any (λ key. same_table (key_place key).table (Some name)) order

-- some name in a table of keys is none of its keys; what is no table has no names
abbrev pub unknown_within : List ℕ → Data → Bool
unknown_within name (table members) = any_member (λ inner value. not (is_key (Some name) inner)) members
unknown_within name _ = false

-- A name at top level is a key's, and then its value is not looked into, or a table's.
abbrev pub unknown_at_top : List ℕ → Data → Bool
unknown_at_top name value = not (is_key None name) && (not (is_table name) || unknown_within name value)

-- some name of the text is unknown
unfoldable pub has_unknown : Members → Bool
has_unknown members = any_member unknown_at_top members
