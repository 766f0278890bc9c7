-- The cache's port is busy no longer than for an access and the write-back of all lines.
use Rattle.rv_hardware.proofs.Words.{ℕ, ◌+◌, ◌≤◌, List, arith, Values, Hardware, reset_hardware}
use Rattle.rv_hardware.proofs.Turns.Cited.{access_cost-most, IsKept, phases-kept, IsKeptByChanges, longest_access}
use Rattle.rv_hardware.proofs.Turns.Cited.{longest_write_back}
use Rattle.rv_hardware.proofs.Always.Sets.{HasRoom, room_changes, room-at_reset, write_back_time-most}

-- the cache has room for its lines, and its port is busy no longer than for an access and a whole write-back
abbrev pub HasPort : Hardware → Type 0
HasPort h = HasRoom h × (h.port_free ≤ h.cycle + (longest_access h + longest_write_back h))

port_changes : IsKeptByChanges HasPort
port_changes h given holds has = grind (arith, room_changes, write_back_time-most, access_cost-most)

-- every cycle keeps it
pub port-kept : IsKept HasPort
port-kept = record {
  phases = phases-kept port_changes;
  fetch = λ ram cycle h front stop has fetches. (has.0, omega (arith, has.1));
}

-- it holds at reset
pub port-at_reset : (values : Values) (image : List ℕ) (start : ℕ) → HasPort (reset_hardware values image start)
port-at_reset values image start = (room-at_reset values image start, omega arith)
