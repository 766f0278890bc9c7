-- What the parts of the core stand for.
use Rattle.std.specs.Prelude.{◌≡◌, filter}
use Rattle.rv_stores.specs.Store.{is_committed}
use Rattle.rv_hardware.specs.Hardware.{Hardware}
use Rattle.rv_core.specs.declared.parts.Parts.TheInside.{Inside}
use Rattle.rv_core.specs.Soundness.{IsSoundHardware}
use Rattle.rv_core.specs.Ties.{AreTied}

-- the hardware that the parts are: stations, bus and rename map are functions of the instructions in flight
abbrev pub hardware_of : Inside → Hardware
hardware_of parts = record {
  values = parts.values;
  pc = parts.pc;
  registers = parts.registers;
  csrs = parts.csrs;
  stale = parts.stale.words;
  cache = parts.cache;
  committed = filter is_committed parts.stores.stores;
  port_free = parts.port_free;
  units = parts.units;
  rob = parts.rob;
  front = parts.front;
  cycle = parts.cycle;
  lines = parts.lines;
}

-- what holds of the parts between two phases
pub record IsSound (parts : Inside) : Type 0 where
  pub sound : IsSoundHardware (hardware_of parts)
  pub tied : AreTied (hardware_of parts) parts.rename parts.stations parts.bus parts.stores
  pub stale_base : parts.stale.base ≡ parts.values.ram_base
  pub stale_size : parts.stale.size ≡ parts.values.ram_size
