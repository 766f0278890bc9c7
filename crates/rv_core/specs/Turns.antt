-- What a turn of a phase leaves.
use Rattle.std.specs.Prelude.{Bool, true, false}
use Rattle.rv_hardware.specs.Repeated.{Turn, GoesOn, Ends}

-- the turn that says whether the phase goes on
abbrev pub turn_of : {S : Type 0} → Bool → S → Turn S
turn_of true s = GoesOn s
turn_of false s = Ends s
