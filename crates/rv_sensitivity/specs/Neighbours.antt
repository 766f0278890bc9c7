-- The machines that are one change away from another.
use Rattle.std.specs.Prelude.{Bool, if◌then◌else◌, List, ◌++◌, map, Option, Some, None}
use Rattle.std.specs.{List.{filter_map, list_all}, Option.option_map}
use Rattle.rv_isa.specs.Key.{obeys, order}
use Rattle.rv_isa.specs.declared.values.Values.{Values}
use Rattle.rv_sensitivity.specs.Change.{changed, is_new}
use Rattle.rv_sensitivity.specs.Trials.{tried, trials}
use Rattle.rv_sensitivity.specs.declared.{change.Change.Change, neighbour.Neighbour.Neighbour}

-- the value at each key of a machine is one that the key takes
unfoldable pub is_legal : Values → Bool
is_legal v = list_all (obeys v) order

-- a machine, if it is legal
abbrev pub legal_machine : Values → Option Values
legal_machine v = if is_legal v then Some v else None

-- the machine that a change makes of one, if it is another one and legal
abbrev pub neighbour_of : Values → Change → Option Neighbour
neighbour_of v change =
    if is_new change v
    then option_map (λ machine. record { change = change; machine = machine })
    (legal_machine (changed change v)) else None

-- those that what is tried makes of a machine, in the order of the keys, and then those that a user's own changes make of it
unfoldable pub neighbours_of : Values → List Change → List Neighbour
neighbours_of v own = filter_map (neighbour_of v) (map (tried v) trials ++ own)
