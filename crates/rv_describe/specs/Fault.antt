-- What is wrong with the values of a table of TOML.
use Rattle.std.specs.Prelude.{ℕ, Bool, true, false, Option, Some, None, option_map, option_and_then, if◌then◌else◌}
use Rattle.std.specs.{List.position_from, Option.option_map_or}
use Rattle.toml.specs.Data.{Data, Members, as_integer, as_bool, as_str}
use Rattle.rv_isa.specs.declared.{bounds.Bounds.Bounds, keys.Key.Key}
use Rattle.rv_isa.specs.declared.keys.Key.TheVariants.{Number, Recovery, Pipelined, PredictorKind}
use Rattle.rv_isa.specs.declared.keys.NumberKey.TheVariants.{RamSize}
use Rattle.rv_isa.specs.Bounds.{is_in_range, takes}
use Rattle.rv_isa.specs.Choice.{recovery_named, predictor_named}
use Rattle.rv_isa.specs.Key.{key_place, row_of, order}
use Rattle.rv_describe.specs.declared.{description_error.DescriptionError.DescriptionError}
use Rattle.rv_describe.specs.declared.{faults.ValueFault.ValueFault}
use Rattle.rv_describe.specs.declared.description_error.DescriptionError.TheVariants as error
use Rattle.rv_describe.specs.declared.faults.ValueFault.TheVariants.{WrongKind, OutOfRange, NotPowerOfTwo}
use Rattle.rv_describe.specs.Document.{held}
use Rattle.rv_describe.specs.Setting.{word_of, number}

-- what is wrong with a choice: there is no name, or the name names none
abbrev pub choice_fault : {X : Type 0} → Option (Option X) → Option ValueFault
choice_fault None = Some WrongKind
choice_fault (Some None) = Some OutOfRange
choice_fault (Some (Some choice)) = None

-- what is wrong with a number, on a machine with so many bytes of RAM: there is none, it is no word, or its key does not take it
abbrev pub number_fault : Bounds → ℕ → Option (Option ℕ) → Option ValueFault
number_fault bounds size None = Some WrongKind
number_fault bounds size (Some None) = Some OutOfRange
number_fault bounds size (Some (Some n)) =
    if takes bounds size n then None else Some (if is_in_range bounds size n then NotPowerOfTwo else OutOfRange)

-- what is wrong with a value
abbrev pub value_fault : Key → ℕ → Data → Option ValueFault
value_fault (Number key) size value = number_fault (row_of key).bounds size (option_map word_of (as_integer value))
value_fault Recovery size value = choice_fault (option_map recovery_named (as_str value))
value_fault (Pipelined kind) size value = choice_fault (option_map Some (as_bool value))
value_fault PredictorKind size value = choice_fault (option_map predictor_named (as_str value))

-- What is wrong at a key, which is nothing where no value stands. A name that must hold a table and does not is each of its
-- keys' fault, and so the first one's.
unfoldable pub key_fault : Members → Key → Option ValueFault
key_fault members key =
    option_map_or (option_and_then (value_fault key (number members RamSize)))
    (held members (key_place key)) (Some WrongKind)

-- what is wrong is this fault
abbrev pub is_fault : Option ValueFault → ValueFault → Bool
is_fault None fault = false
is_fault (Some WrongKind) WrongKind = true
is_fault (Some OutOfRange) OutOfRange = true
is_fault (Some NotPowerOfTwo) NotPowerOfTwo = true
is_fault _ _ = false

-- the place, from 1, of the first key with a fault
unfoldable pub first_place : ValueFault → Members → Option ℕ
first_place fault members = position_from (λ key. is_fault (key_fault members key) fault) 1 order

-- the place that an error names, and 0 where it names none
abbrev pub place_of : DescriptionError → ℕ
place_of (error.WrongKind place) = place
place_of (error.OutOfRange place) = place
place_of (error.NotPowerOfTwo place) = place
place_of _ = 0
