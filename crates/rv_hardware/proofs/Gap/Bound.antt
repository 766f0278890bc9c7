-- The patience of the hardware is below the bound, whatever the description.
use Rattle.rv_hardware.proofs.Words.{◌≡◌, ℕ, ◌+◌, ◌*◌, ◌<◌, ◌≤◌, Bool, cond, List, [], ◌∷◌, length, Option, refl, arith}
use Rattle.rv_hardware.proofs.Words.{mul-le-mul_right, gap_bound_of, greatest_latency, Instr, Issue, Kind, Each}
use Rattle.rv_hardware.proofs.Words.{is_draining, Store, Entry, Stage, Fetched, Hardware}
use Rattle.rv_hardware.proofs.Marks.Cited.{longest_access, longest_execution, longest_write_back, EndsBy, HasRoom}
use Rattle.rv_hardware.proofs.Marks.Cited.{write_back_time-most, IsBounded, HoldsUntil}
use Rattle.rv_hardware.proofs.Gap.Patience.{dirty_time, fetch_time, free_time, head_time, patience, port_time}
use Rattle.rv_hardware.proofs.Gap.Patience.{stage_time, time_of_stores, unit_time, waiting_time}

-- ---- the parts
pub unit_time-most : (cycle longest : ℕ) (starts : List Issue) → Each (HoldsUntil (cycle + longest)) starts →
    unit_time cycle starts ≤ longest
unit_time-most cycle longest [] held = omega arith
unit_time-most cycle longest (start ∷ starts) held = omega (arith, held.0, unit_time-most cycle longest starts held.1)

-- where a unit is free within the longest execution, one is free within the port's time and a longest execution
pub free_time-most : (port unit longest : ℕ) → unit ≤ longest → free_time port unit longest ≤ port + longest
free_time-most port unit longest held = grind arith

-- no load waits for the port longer than it is busy
pub no_more : (load : Bool) (port : ℕ) → cond load port 0 ≤ port
no_more load port = grind arith

one_access : (begun : Bool) (access : ℕ) → cond begun 0 access ≤ access
one_access begun access = grind arith

-- the retired stores take an access each and one cycle at most
pub time_of_stores-most : (access : ℕ) (stores : List Store) → time_of_stores access stores ≤ 1 + length stores * access
time_of_stores-most access [] = omega arith
time_of_stores-most access (s ∷ ss) = omega (arith, one_access (is_draining s) access)

-- the write-back of the dirty lines takes no longer than one of all lines
pub dirty_time-most : (h : Hardware) (stores : List Store) → HasRoom h → dirty_time h stores ≤ longest_write_back h
dirty_time-most h stores room = grind (arith, write_back_time-most)

fetch_most : (fetched : List Fetched) → fetch_time fetched ≤ 1
fetch_most fetched = grind arith

slack : (queue access latency lines patience : ℕ) → patience ≤ 2 * lines + (queue + 3) * access + 2 * latency + 7 →
    patience + 1 < 16 + (queue + 8) * access + 4 * latency + 2 * lines
slack queue access latency lines patience most = omega arith

-- ---- the oldest instruction
module _ {h : Hardware} (sound : IsBounded h) where
  waiting_most : (load : Bool) (kind : Option Kind) →
      waiting_time h load kind ≤ port_time h + 2 * longest_execution h + 2
  waiting_most load kind = grind (arith, unit_time-most, free_time-most, no_more)

  stage_most : (instruction : Option Instr) (stage : Stage) → EndsBy (h.cycle + longest_execution h) stage →
      stage_time h instruction stage ≤ port_time h + 2 * longest_execution h + 2
  stage_most instruction stage ends = grind (arith, waiting_most)

  more : (instruction : Option Instr) (stage : Stage) → EndsBy (h.cycle + longest_execution h) stage →
      stage_time h instruction stage ≤ port_time h + longest_write_back h + 2 * longest_execution h + 2
  more instruction stage ends = omega (arith, stage_most instruction stage ends)

  head_most : (instruction : Option Instr) (stage : Stage) → EndsBy (h.cycle + longest_execution h) stage →
      head_time h instruction stage ≤ port_time h + longest_write_back h + 2 * longest_execution h + 2
  head_most instruction stage ends = grind (arith, dirty_time-most, more)

  -- where something is in flight
  pub flight_time-most : (e : Entry) (es : List Entry) → h.rob.entries ≡ e ∷ es →
      patience h ≤ port_time h + longest_write_back h + 2 * longest_execution h + 2
  flight_time-most e es split = grind (arith, head_most)

  by_entries : {entries : List Entry} → h.rob.entries ≡ entries →
      patience h ≤ port_time h + longest_write_back h + 2 * longest_execution h + 4
  by_entries split = grind (arith, fetch_most, flight_time-most)

  -- ---- the port
  port_time-most : port_time h ≤ longest_access h + longest_write_back h + 1 + h.values.store_queue * longest_access h
  port_time-most = grind (arith, time_of_stores-most, mul-le-mul_right)

  pub patience-most : patience h ≤
      2 * longest_write_back h + (h.values.store_queue + 3) * longest_access h + 2 * greatest_latency h.values + 7
  patience-most = omega (arith, by_entries refl, port_time-most)

  -- one more cycle, in which a stale word may stop the run, is below the bound too
  pub patience-below : patience h + 1 < gap_bound_of h.values
  patience-below = grind (arith, patience-most, slack)
