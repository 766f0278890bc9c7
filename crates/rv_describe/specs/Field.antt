-- Which field of an entry of a list of arrivals is at fault.
use Rattle.std.specs.Prelude.{◌≡◌, pos, true, if◌then◌else◌, IsSome, Option}
use Rattle.std.specs.Prelude.{Some, None, option_map, option_and_then, codes}
use Rattle.std.specs.{Option.option_map_or}
use Rattle.toml.specs.Data.{Data, as_integer, as_str, get}
use Rattle.rv_describe.specs.Entry.{cycle_of, level_of, line_named, reading_of}
use Rattle.rv_describe.specs.Fault.{choice_fault, is_fault}
use Rattle.rv_describe.specs.declared.{faults.ValueFault.ValueFault, field.Field.Field}
use Rattle.rv_describe.specs.declared.field.Field.TheVariants.{Cycle, Line, Level}

-- what is wrong with a field of an entry
unfoldable pub field_fault : Field → Data → Option ValueFault
field_fault Cycle entry = choice_fault (option_map cycle_of (option_and_then as_integer (get (codes "cycle") entry)))
field_fault Line entry = choice_fault (option_map line_named (option_and_then as_str (get (codes "line") entry)))
field_fault Level entry =
    choice_fault (option_map level_of (option_map_or as_integer (get (codes "level") entry) (Some (pos 1))))

-- the first field of an entry with a fault
abbrev pub field_with : ValueFault → Data → Option Field
field_with fault entry =
    if is_fault (field_fault Cycle entry) fault then Some Cycle
    else if is_fault (field_fault Line entry) fault then Some Line
    else if is_fault (field_fault Level entry) fault then Some Level
    else None

-- an entry that is read with a fault has a field with it
abbrev pub HasField : ValueFault → Data → Option Field → Type 0
HasField fault entry field = is_fault (choice_fault (reading_of entry)) fault ≡ true → IsSome field
