-- What is said of a name that a description does not know where it stands.
use Rattle.std.specs.Prelude.{ℕ, ◌==◌, Bool, not, List, [], ◌∷◌, ◌++◌, codes, if◌then◌else◌, length, take}
use Rattle.std.specs.Prelude.{Option, Some, None, is_none}
use Rattle.std.specs.{List.flat_map, List.list_any, List.prefix_len, Option.option_map_or, Option.option_or}
use Rattle.std.specs.Str.{bytes_eq}
use Rattle.rv_isa.specs.Key.{order}
use Rattle.rv_refusal.specs.KeyLine.{KeyLine}
use Rattle.rv_refusal.specs.KeyNames.{names_in, tables_from}
use Rattle.rv_refusal.specs.NameOn.{heading_on}
use Rattle.rv_refusal.specs.NameSet.{is_one_of}
use Rattle.rv_refusal.specs.Near.{names_line, spelling_line}
use Rattle.rv_refusal.specs.OrElse.{or_else}

-- names, each with a comma and a blank after it
abbrev pub each_name : List (List ℕ) → List ℕ
each_name names = flat_map (λ name. name ++ codes ", ") names

-- the line with all names of a kind, if there are any
unfoldable pub all_names : List ℕ → List ℕ → List (List ℕ) → List ℕ
all_names kind table [] = []
all_names kind table (name ∷ names) =
    codes "hint: the "
    ++ (kind ++ (table ++ (codes " are " ++ (each_name (name ∷ names) ++ codes "and no others\n"))))

-- the line with all keys of a table, if it is one
unfoldable pub table_keys : Option (List ℕ) → List ℕ
table_keys None = []
table_keys (Some table) = all_names (codes "keys of ") table (names_in (Some table) order)

-- the line with all keys of no table, where no heading stands
unfoldable pub bare_keys : List ℕ → List ℕ
bare_keys line =
    if is_none (heading_on line) then all_names (codes "keys of ") (codes "no table") (names_in None order) else []

-- the lines with all names that may stand on a line in no table: the keys of no table, and the tables
unfoldable pub top_names : List ℕ → List ℕ
top_names line = bare_keys line ++ all_names (codes "tables") [] (tables_from None order)

-- the byte is no dot
abbrev pub is_undotted : ℕ → Bool
is_undotted byte = not (byte == 46)

-- what stands before the first dot of a name, if it has one
unfoldable pub before_dot : List ℕ → Option (List ℕ)
before_dot name =
    let size = prefix_len is_undotted name in if size == length name then None else Some (take size name)

-- the table that a name is given: the one that it stands in, or else the one before its dot
abbrev pub given_table : KeyLine → Option (List ℕ)
given_table found = option_or found.table (before_dot found.key)

-- the line on the known names that an unknown one may stand for, or else that with all keys of its table
abbrev pub near_or_keys : List (List ℕ) → KeyLine → List ℕ
near_or_keys known found = or_else (spelling_line found.name known) (table_keys (given_table found))

-- which key a name is in the table that it stands in
unfoldable pub here_line : KeyLine → List ℕ
here_line found =
    option_map_or (λ table. codes "hint: here it is "
    ++ (table ++ (codes "." ++ (found.key ++ codes "\n")))) found.table []

-- the lines on an unknown name by the keys that have it in another table, or else by the known names that it may stand
-- for, or by all that may stand there
unfoldable pub table_hint : List (List ℕ) → KeyLine → List (List ℕ) → List ℕ
table_hint known found [] = or_else (near_or_keys known found) (top_names found.line)
table_hint known found (key ∷ keys) = here_line found ++ names_line (key ∷ keys)

-- which key a name is that stands in a table, and is known in none
unfoldable pub outside_line : List ℕ → List ℕ
outside_line name =
    codes "hint: here it is " ++ (name ++ codes "; the keys of no table stand above the first [table]\n")

-- that arrivals stand in no description
unfoldable pub arrivals_line : List ℕ
arrivals_line = codes "hint: arrivals are the second of three parts; is a line %% missing before them?\n"

-- a name is meant as the size of the cache
unfoldable pub names_size : List ℕ → Bool
names_size name = is_one_of (codes "cache.size" ∷ codes "cache_size" ∷ []) name

-- that the cache has no key for its size
unfoldable pub size_line : List ℕ
size_line = codes "hint: the cache has cache.sets times cache.ways times cache.line bytes\n"

-- a name is meant as RAM, or as its first address or its size
unfoldable pub names_ram : List ℕ → Bool
names_ram name =
    is_one_of (codes "ram" ∷ codes "memory" ∷ codes "ram.size" ∷ codes "ram.base" ∷ codes "memory.size"
    ∷ codes "memory.base" ∷ codes "mem.size" ∷ codes "memory_size" ∷ codes "mem_size" ∷ []) name

-- which keys RAM has
unfoldable pub ram_line : List ℕ
ram_line = codes "hint: ram_base says where RAM begins, and ram_size its bytes, both above the first [table]\n"

-- the line on a name that is meant as the size of the cache or as RAM
unfoldable pub meant_line : List ℕ → List ℕ
meant_line name = if names_size name then size_line else (if names_ram name then ram_line else [])

-- the lines on an unknown name that is none of arrivals: one that is meant as something else, or that is known where no
-- table stands above it, or another
unfoldable pub name_hint : List (List ℕ) → KeyLine → List (List ℕ) → List ℕ
name_hint known found keys =
    or_else (meant_line found.name)
    (if list_any (bytes_eq found.key) known then outside_line found.name
    else table_hint known found keys)

-- the lines on an unknown name: of arrivals, or another
unfoldable pub key_hint : List (List ℕ) → KeyLine → List (List ℕ) → List ℕ
key_hint known found keys =
    if bytes_eq found.key (codes "arrival") then arrivals_line else name_hint known found keys
