-- The store that begins to drain in a cycle is the one whose drain takes the port.
use Rattle.std.proofs.Common.{◌≡◌, ℕ, Option, None, Some, arith}
use Rattle.std.specs.Prelude.{◌&&◌, Bool, if◌then◌else◌, List}
use Rattle.std.specs.Option.{option_or}
use Rattle.rv_causes.specs.Holding.{drain_begun, drain_of, lines_hold, load_hold, port_taken}
use Rattle.rv_causes.specs.Lookup.{Journey}
use Rattle.rv_causes.specs.Setting.{Setting}
use Rattle.rv_causes.specs.declared.{before.Facts.Facts, before.PortHold.PortHold}
use Rattle.rv_causes.specs.declared.{event.Event.Event, leaving.Leaving.Leaving, way.Way.Way}
use Rattle.rv_causes.specs.declared.before.Holder.TheVariants as holder

-- a load or lines drain no store
no-drain : (s : Setting) (leaving : Leaving) (until : ℕ) (load head : Option Journey)
    → drain_of (option_or (load_hold until load) (lines_hold s leaving until head)) ≡ None
no-drain s leaving until load head = grind arith

drain-taken : (until : ℕ) (event : Event) (other : Option PortHold) (taken begun : Bool) → drain_of other ≡ None
    → drain_of (if taken then
    (if begun then Some (record { until = until; event = event; holder = holder.Drain; number = 0 })
    else other) else None)
    ≡ (if taken && begun then Some (record { until = until; event = event }) else None)
drain-taken until event other taken begun none = grind arith

pub drain_of_taken : (s : Setting) (ways : List Way) (leaving : Leaving) (facts : Facts)
    → drain_of (port_taken s ways leaving facts) ≡ drain_begun s leaving facts
drain_of_taken s ways leaving facts = grind (arith, drain-taken, no-drain)
