-- The names that a description may have: its keys and its tables.
use Rattle.std.specs.Prelude.{ℕ, Bool, List, [], ◌∷◌, ◌++◌, map, if◌then◌else◌, Option, None}
use Rattle.std.specs.{List.filter, Option.option_to_list, Str.bytes_eq}
use Rattle.rv_isa.specs.declared.keys.Key.{Key}
use Rattle.rv_isa.specs.Key.{key_place, order, text_of}
use Rattle.rv_describe.specs.Unknown.{same_table}
use Rattle.rv_refusal.specs.NameSet.{is_one_of}

-- the table of a key, but for that of the key before
abbrev pub new_table : Option (List ℕ) → Option (List ℕ) → List (List ℕ)
new_table table last = if same_table table last then [] else option_to_list table

-- the tables of keys, but for those of the key before
abbrev pub tables_from : Option (List ℕ) → List Key → List (List ℕ)
tables_from last [] = []
tables_from last (key ∷ others) = new_table (key_place key).table last ++ tables_from (key_place key).table others

-- the keys with their tables' names before them, and then the tables
abbrev pub key_names : List (List ℕ)
key_names = map text_of order ++ tables_from None order

-- a name is that of a key or a table of a description
unfoldable pub is_described : List ℕ → Bool
is_described name = is_one_of key_names name

-- a key stands in a table, or in none
unfoldable pub stands_in : Option (List ℕ) → Key → Bool
stands_in table key = same_table (key_place key).table table

-- of some keys those in a table, or those in none, by their names there
abbrev pub names_in : Option (List ℕ) → List Key → List (List ℕ)
names_in table keys = map (λ key. (key_place key).name) (filter (stands_in table) keys)

-- of some keys those of a name, with their tables' names before them
abbrev pub keys_named : List ℕ → List Key → List (List ℕ)
keys_named name keys = map text_of (filter (λ key. bytes_eq name (key_place key).name) keys)
