-- The oldest instructions of a kind, which a search for the next to issue passes by.
use Rattle.std.specs.Prelude.{ℕ, nat_le}
use Rattle.rv_isa.specs.declared.operations.Kind.{Kind}
use Rattle.rv_stations.specs.Waiting.{ArePassedBy}
use Rattle.rv_hardware.specs.Hardware.{Hardware}
use Rattle.rv_hardware.specs.Seen.{layout_of, stores_after}
use Rattle.rv_core.specs.Load.{goes}
use Rattle.rv_watch.specs.Registers.{values_in}
use Rattle.rv_core.specs.Ties.{waiting_from}

-- of the oldest so many in the stations of a kind, none is ready and may go
abbrev pub NoneIssues : Kind → ℕ → Hardware → Type 0
NoneIssues kind passed h =
    ArePassedBy (goes kind (layout_of h.values) (stores_after h h.rob.entries) (nat_le h.port_free h.cycle)) passed
    (waiting_from kind (values_in h.registers) h.rob.retired h.rob.entries)
