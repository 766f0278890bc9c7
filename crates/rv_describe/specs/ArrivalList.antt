-- A list of arrivals: a TOML document with an array of tables `arrival`.
use Rattle.std.specs.Prelude.{ℕ, List, [], ◌∷◌, Option, Some, None, option_map, Result, Err, if◌then◌else◌, codes}
use Rattle.std.specs.Option.{option_map_or}
use Rattle.toml.specs.Data.{Data, Items, no_items, item, Members, get_member, as_array}
use Rattle.rv_isa.specs.declared.lines.Arrival.{Arrival}
use Rattle.rv_describe.specs.Document.{document}
use Rattle.rv_describe.specs.Entries.{entries_meaning}
use Rattle.rv_describe.specs.Unknown.{has_other_name}
use Rattle.rv_describe.specs.declared.arrivals_error.ArrivalsError.{ArrivalsError}
use Rattle.rv_describe.specs.declared.arrivals_error.ArrivalsError.TheVariants.{NotToml, UnknownKey, WrongKind}

-- the items of an array as a list
abbrev pub item_list : Items → List Data
item_list no_items = []
item_list (item value later) = value ∷ item_list later

-- the entries that `arrival` holds: none where it is missing; it has to be an array
abbrev pub entries_in : Option Data → Option (List Data)
entries_in None = Some []
entries_in (Some value) = option_map item_list (as_array value)

-- what a table means: its one name is `arrival`, which gives its entries' arrivals or fault, or the wrong type at entry 1
unfoldable pub table_meaning : Members → Result (List Arrival) ArrivalsError
table_meaning table =
    if has_other_name (codes "arrival" ∷ []) table then Err UnknownKey
    else option_map_or entries_meaning (entries_in (get_member (codes "arrival") table)) (Err (WrongKind 1 None))

-- what bytes list: the arrivals in order, or the fault
unfoldable pub listed_arrivals : List ℕ → Result (List Arrival) ArrivalsError
listed_arrivals bytes = option_map_or table_meaning (document bytes) (Err NotToml)
