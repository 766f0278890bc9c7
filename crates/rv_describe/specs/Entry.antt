-- What an entry of a list of arrivals says.
use Rattle.std.specs.Prelude.{ℕ, ℤ, pos, negsuc, ◌==◌, nat_le, Bool, true, false, List, []}
use Rattle.std.specs.Prelude.{◌∷◌, Option, Some, None, option_and_then, if◌then◌else◌, codes}
use Rattle.std.specs.{Option.option_map_or, Option.option_flatten, Str.bytes_eq}
use Rattle.toml.specs.Data.{Data, get, as_integer, as_str, as_table}
use Rattle.rv_isa.specs.declared.lines.{Line.Line, Arrival.Arrival}
use Rattle.rv_isa.specs.declared.lines.Line.TheVariants.{Software, Timer, External}
use Rattle.rv_describe.specs.Unknown.{has_other_name}

-- an entry has another field than these three
abbrev pub has_unknown_field : Data → Bool
has_unknown_field entry =
    option_map_or (has_other_name (codes "cycle" ∷ codes "line" ∷ codes "level" ∷ [])) (as_table entry) false

-- a cycle is a number from 0 to 1,000,000
abbrev pub cycle_of : ℤ → Option ℕ
cycle_of (pos number) = if nat_le number 1000000 then Some number else None
cycle_of (negsuc _) = None

-- the line of a name
abbrev pub line_named : List ℕ → Option Line
line_named name =
    if bytes_eq name (codes "software") then Some Software
    else if bytes_eq name (codes "timer") then Some Timer
    else if bytes_eq name (codes "external") then Some External
    else None

-- a level is 0 or 1
abbrev pub level_of : ℤ → Option Bool
level_of (pos number) = if number == 0 then Some false else if number == 1 then Some true else None
level_of (negsuc _) = None

-- the arrival, where each value is one of those allowed
abbrev pub arrival_with : Option ℕ → Option Line → Option Bool → Option Arrival
arrival_with (Some cycle) (Some line) (Some level) = Some (record { cycle = cycle; line = line; level = level })
arrival_with _ _ _ = None

-- what the fields say, where each is there and has the right type
abbrev pub reading_with : Option ℤ → Option (List ℕ) → Option ℤ → Option (Option Arrival)
reading_with (Some cycle) (Some line) (Some level) =
    Some (arrival_with (cycle_of cycle) (line_named line) (level_of level))
reading_with _ _ _ = None

-- what an entry says: its three fields, where a missing `level` is 1
abbrev pub reading_of : Data → Option (Option Arrival)
reading_of entry =
    reading_with (option_and_then as_integer (get (codes "cycle") entry))
    (option_and_then as_str (get (codes "line") entry))
    (option_map_or as_integer (get (codes "level") entry) (Some (pos 1)))

-- the arrival of an entry, where it gives one
abbrev pub arrival_of : Data → Option Arrival
arrival_of entry = option_flatten (reading_of entry)
