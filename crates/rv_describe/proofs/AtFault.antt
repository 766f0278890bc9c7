-- An entry that is read with a fault has a field with it.
use Rattle.std.proofs.Common.{◌≡◌, arith, ℕ, ℤ, Bool, false, List, Option, Some, option_map}
use Rattle.rv_isa.specs.declared.lines.Line.{Line}
use Rattle.rv_describe.specs.Entry.{arrival_with, cycle_of, level_of, line_named, reading_with}
use Rattle.rv_describe.specs.Fault.{choice_fault, is_fault}
use Rattle.rv_describe.specs.declared.faults.ValueFault.{ValueFault}

-- where no value has the fault, the arrival with these values has not
no_value : (cycle : Option ℕ) (line : Option Line) (level : Option Bool) (fault : ValueFault)
    → is_fault (choice_fault (Some cycle)) fault ≡ false → is_fault (choice_fault (Some line)) fault ≡ false
    → is_fault (choice_fault (Some level)) fault ≡ false
    → is_fault (choice_fault (Some (arrival_with cycle line level))) fault ≡ false
no_value cycle line level fault first second third = grind arith

-- where no field has the fault, the entry is not read with it
pub no_field : (cycle : Option ℤ) (line : Option (List ℕ)) (level : Option ℤ) (fault : ValueFault)
    → is_fault (choice_fault (option_map cycle_of cycle)) fault ≡ false →
    is_fault (choice_fault (option_map line_named line)) fault ≡ false
    → is_fault (choice_fault (option_map level_of level)) fault ≡ false →
    is_fault (choice_fault (reading_with cycle line level)) fault ≡ false
no_field cycle line level fault first second third = grind (arith, no_value)
