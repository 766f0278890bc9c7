-- The hardware as JSON.
use Rattle.std.specs.Prelude.{ℕ, List, ◌++◌, codes, map}
use Rattle.rv_watch.specs.Queue.{queue_of}
use Rattle.rv_hardware.specs.Hardware.{Hardware}
use Rattle.rv_states.specs.Entries.{buffer_json}
use Rattle.rv_states.specs.Fetched.{fetched_json, next_fetch_text}
use Rattle.rv_states.specs.Json.{Json, also, array, numeral}
use Rattle.rv_states.specs.Observed.{observed_text}
use Rattle.rv_states.specs.Queue.{store_json}
use Rattle.rv_states.specs.Units.{units_json}

-- what is in flight
unfoldable pub in_flight_text : Hardware → List ℕ
in_flight_text h =
    also (codes "reorder_buffer") (array (buffer_json h.registers h.rob)) ++
    (also (codes "fetch_buffer") (array (map fetched_json h.front.entries)) ++ next_fetch_text h.front)

-- the units, the store queue, and the first cycle in which the cache's port is idle
unfoldable pub parts_text : Hardware → List ℕ
parts_text h =
    also (codes "units") (units_json h.units) ++
    (also (codes "store_queue") (array (map store_json (queue_of h).stores)) ++
    also (codes "port_free") (numeral h.port_free))

-- the hardware
unfoldable pub state_json : Hardware → Json
state_json h = observed_text h.pc h.registers h.csrs h.lines ++ (in_flight_text h ++ (parts_text h ++ codes "}"))
