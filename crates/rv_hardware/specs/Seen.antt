-- The states that the hardware stands for.
use Rattle.std.specs.Prelude.{ℕ, List, ◌++◌}
use Rattle.rv_isa.specs.declared.values.Values.{Values}
use Rattle.rv_arch.specs.State.{State}
use Rattle.rv_memory.specs.Memory.{Layout}
use Rattle.rv_rob.specs.declared.entry.Entry.{Entry}
use Rattle.rv_stores.specs.declared.store.Store.{Store as QueuedStore}
use Rattle.rv_hardware.specs.Hardware.{Hardware}
use Rattle.rv_hardware.specs.InFlight.{registers_after, stores_of, bytes_after}

-- where the description puts RAM
abbrev pub layout_of : Values → Layout
layout_of values = record { base = values.ram_base; size = values.ram_size; rom_bytes = values.rom_bytes }

-- The state that programs see: what retired instructions left, and in memory the bytes of the cache after the retired
-- stores that it does not hold yet.
abbrev pub seen : Hardware → State
seen h = record {
  pc = h.pc;
  registers = h.registers;
  csrs = h.csrs;
  ram = bytes_after h.values.ram_base h.committed h.cache.bytes;
  stale = h.stale;
}

-- the stores that are older than the instruction after some others in flight
abbrev pub stores_after : Hardware → List Entry → List QueuedStore
stores_after h older = h.committed ++ stores_of h.rob.retired older

-- the state in which an instruction at a pc executes: after the older ones, as far as their results were broadcast
abbrev pub state_after : Hardware → List Entry → ℕ → State
state_after h older pc = record {
  pc = pc;
  registers = registers_after h.registers older;
  csrs = h.csrs;
  ram = bytes_after h.values.ram_base (stores_after h older) h.cache.bytes;
  stale = h.stale;
}

-- the state that the hardware has once a retired instruction left another one; its memory stays where it is
abbrev pub with_state : State → Hardware → Hardware
with_state s h = record h { pc = s.pc; registers = s.registers; csrs = s.csrs; stale = s.stale }
