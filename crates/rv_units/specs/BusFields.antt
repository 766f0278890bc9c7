-- The bus's fields: what they stand for, and what is true of them.
use Rattle.std.specs.Prelude.{◌≤◌, vec_len, vec_capacity}
use Rattle.rv_isa.specs.Numbered.{IsInOrder}
use Rattle.rv_units.specs.Bus.{Pending, seq_of}
use Rattle.rv_units.specs.declared.bus.Bus.TheInside.{Inside}

-- the results that wait, and how many may wait and leave in a cycle
abbrev pub pending : Inside → Pending
pending bus = record { results = bus.results.items; capacity = bus.capacity; width = bus.width }

-- the room is reserved, a broadcast list has eight places, and the results are in order
pub record IsSoundBus (bus : Inside) : Type 0 where
  pub within : vec_len bus.results ≤ bus.capacity
  pub reserved : bus.capacity ≤ vec_capacity bus.results
  pub narrow : bus.width ≤ 8
  pub in_order : IsInOrder seq_of bus.results.items
