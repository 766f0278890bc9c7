-- What is printed of a fault.
use Rattle.std.specs.Prelude.{ℕ, List, [], ◌++◌, codes, decimal}
use Rattle.rv_describe.specs.declared.{arrivals_error.ArrivalsError.ArrivalsError}
use Rattle.rv_describe.specs.declared.{description_error.DescriptionError.DescriptionError}
use Rattle.rv_describe.specs.declared.arrivals_error.ArrivalsError.TheVariants as listed
use Rattle.rv_describe.specs.declared.description_error.DescriptionError.TheVariants as described

-- the name of a description's fault
unfoldable pub description_fault_name : DescriptionError → List ℕ
description_fault_name described.NotToml = codes "NotToml"
description_fault_name described.UnknownKey = codes "UnknownKey"
description_fault_name (described.WrongKind place) = codes "WrongKind"
description_fault_name (described.OutOfRange place) = codes "OutOfRange"
description_fault_name (described.NotPowerOfTwo place) = codes "NotPowerOfTwo"
description_fault_name described.Memory = codes "Memory"

-- the name of a fault of arrivals, and a space where a number stands after it
unfoldable pub arrivals_kind : ArrivalsError → List ℕ
arrivals_kind listed.NotToml = codes "NotToml"
arrivals_kind listed.UnknownKey = codes "UnknownKey"
arrivals_kind (listed.WrongKind entry field) = codes "WrongKind "
arrivals_kind (listed.OutOfRange entry field) = codes "OutOfRange "
arrivals_kind (listed.Unsorted entry) = codes "Unsorted "
arrivals_kind listed.Memory = codes "Memory"

-- the number of the entry that a fault of arrivals names
unfoldable pub number_text : ArrivalsError → List ℕ
number_text (listed.WrongKind entry field) = decimal entry
number_text (listed.OutOfRange entry field) = decimal entry
number_text (listed.Unsorted entry) = decimal entry
number_text _ = []

-- the text of a fault of arrivals
abbrev pub arrivals_fault_text : ArrivalsError → List ℕ
arrivals_fault_text error = arrivals_kind error ++ number_text error
