-- The entries of a list of arrivals, which are the elements of the array of tables `arrival`, and their faults.
use Rattle.std.specs.Prelude.{ℕ, ◌+◌, nat_lt, List, [], ◌∷◌, length, take, Option}
use Rattle.std.specs.Prelude.{Some, None, option_map, Result, Ok, Err, if◌then◌else◌}
use Rattle.std.specs.{List.filter_map, List.list_any, Option.option_or, Option.option_map_or}
use Rattle.toml.specs.Data.{Data}
use Rattle.rv_isa.specs.declared.lines.Arrival.{Arrival}
use Rattle.rv_describe.specs.Entry.{arrival_of, has_unknown_field, reading_of}
use Rattle.rv_describe.specs.Fault.{choice_fault, is_fault}
use Rattle.rv_describe.specs.Field.{field_with}
use Rattle.rv_describe.specs.declared.{arrivals_error.ArrivalsError.ArrivalsError}
use Rattle.rv_describe.specs.declared.{faults.ValueFault.ValueFault, field.Field.Field}
use Rattle.rv_describe.specs.declared.arrivals_error.ArrivalsError.TheVariants.{UnknownKey, WrongKind}
use Rattle.rv_describe.specs.declared.arrivals_error.ArrivalsError.TheVariants.{OutOfRange, Unsorted}
use Rattle.rv_describe.specs.declared.faults.ValueFault.TheVariants as fault
use Rattle.rv_describe.specs.declared.field.Field.TheVariants.{Cycle}

-- the arrivals, in the order of the entries
abbrev pub arrivals_of : List Data → List Arrival
arrivals_of entries = filter_map arrival_of entries

-- the first entry with a fault in its fields, where the first one has this number, and the first of these fields
abbrev pub first_with : ValueFault → ℕ → List Data → Option (ℕ × Option Field)
first_with fault number [] = None
first_with fault number (entry ∷ later) =
    if is_fault (choice_fault (reading_of entry)) fault then Some (number, field_with fault entry)
    else first_with fault (number + 1) later

-- The fault that an entry has by itself: an unknown field anywhere comes before the first entry that is no table or whose fields
-- are missing or of another type, and that before the first of the 100,000 foremost with a value that is not allowed.
abbrev pub entry_fault : List Data → Option ArrivalsError
entry_fault entries =
    option_or (if list_any has_unknown_field entries then Some UnknownKey else None)
    (option_or (option_map (λ found. WrongKind found.0 found.1) (first_with fault.WrongKind 1 entries))
    (option_map (λ found. OutOfRange found.0 found.1) (first_with fault.OutOfRange 1 (take 100000 entries))))

-- the number of the first arrival with a cycle below the one before, where the first has this number and stands after this cycle
abbrev pub first_fall : ℕ → ℕ → List Arrival → Option ℕ
first_fall number before [] = None
first_fall number before (arrival ∷ later) =
    if nat_lt arrival.cycle before then Some number else first_fall (number + 1) arrival.cycle later

-- the entry that a fault names, from 1, and 0 where it names none
abbrev pub entry_of : ArrivalsError → ℕ
entry_of (WrongKind entry field) = entry
entry_of (OutOfRange entry field) = entry
entry_of (Unsorted entry) = entry
entry_of _ = 0

-- the field that a fault is one of, and none where no field is at fault but the list
abbrev pub field_of : ArrivalsError → Option Field
field_of (WrongKind entry field) = field
field_of (OutOfRange entry field) = field
field_of (Unsorted entry) = Some Cycle
field_of _ = None

-- the fault of the entries: one that an entry has by itself comes before one entry too many, and that before a falling cycle
abbrev pub fault_of : List Data → Option ArrivalsError
fault_of entries =
    option_or (entry_fault entries)
    (option_or (if nat_lt 100000 (length entries) then Some (OutOfRange 100001 None) else None)
    (option_map Unsorted (first_fall 1 0 (arrivals_of entries))))

-- the arrivals of the entries, or their fault
unfoldable pub entries_meaning : List Data → Result (List Arrival) ArrivalsError
entries_meaning entries = option_map_or Err (fault_of entries) (Ok (arrivals_of entries))
