-- How many cycles without a step there can still be, by what the oldest instruction waits for, with slack.
use Rattle.rv_hardware.proofs.Words.{ℕ, zero, suc, ◌+◌, ◌-◌, ◌*◌, max, Bool, cond, List, [], ◌∷◌, length, Some, None}
use Rattle.rv_hardware.proofs.Words.{Option, is_load, kind_of_word, at_kind, Instr, FenceI, Issue, Kind, is_draining}
use Rattle.rv_hardware.proofs.Words.{Store, Entry, Stage, Finished, Running, Waiting, Fetched, write_back_time}
use Rattle.rv_hardware.proofs.Words.{Hardware}
use Rattle.rv_hardware.proofs.Turns.Forms.{longest_access, longest_execution, longest_write_back}

-- the accesses of the stores that have not begun theirs, and the cycle in which the last leaves
abbrev pub time_of_stores : ℕ → List Store → ℕ
time_of_stores access [] = 0
time_of_stores access (s ∷ ss) = 1 + cond (is_draining s) 0 access + length ss * access

-- until the port is idle and no retired store waits for it
abbrev pub port_time : Hardware → ℕ
port_time h = (h.port_free - h.cycle) + time_of_stores (longest_access h) h.committed

-- until the last of some executions leaves its unit
abbrev pub unit_time : ℕ → List Issue → ℕ
unit_time cycle [] = 0
unit_time cycle (start ∷ starts) = max (start.cycle + start.cost - cycle) (unit_time cycle starts)

-- the write-back of the lines that are dirty once no retired store is left
abbrev pub dirty_time : Hardware → List Store → ℕ
dirty_time h [] = write_back_time h
dirty_time h (s ∷ ss) = longest_write_back h

-- until a unit is free, where younger instructions may take it for as long as the port is busy
abbrev pub free_time : ℕ → ℕ → ℕ → ℕ
free_time zero unit longest = unit
free_time (suc port) unit longest = suc port + longest

-- until an instruction that waits has left for a unit and is over
abbrev pub waiting_time : Hardware → Bool → Option Kind → ℕ
waiting_time h load None = 0
waiting_time h load (Some k) =
    free_time (cond load (port_time h) 0) (unit_time h.cycle (at_kind k h.units).starts)
    (longest_execution h) + longest_execution h + 2

-- until an instruction that is not the oldest FENCE.I is over, by its stage
abbrev pub stage_time : Hardware → Option Instr → Stage → ℕ
stage_time h instruction Waiting = waiting_time h (is_load instruction) (kind_of_word instruction)
stage_time h instruction (Running issue message) = 1 + (issue.cycle + issue.cost - h.cycle)
stage_time h instruction (Finished issue cycle message) = 0

-- until the oldest instruction can retire, by its stage
abbrev pub head_time : Hardware → Option Instr → Stage → ℕ
head_time h (Some FenceI) stage = port_time h + dirty_time h h.committed + 1
head_time h instruction stage = stage_time h instruction stage

-- until something is dispatched and has left
abbrev pub fetch_time : List Fetched → ℕ
fetch_time [] = 1
fetch_time (fetched ∷ rest) = 0

-- until something in flight can retire, or something comes into flight
abbrev pub flight_time : Hardware → List Entry → ℕ
flight_time h [] = port_time h + longest_write_back h + 2 * longest_execution h + 3 + fetch_time h.front.entries
flight_time h (e ∷ es) = head_time h e.instruction e.stage

-- how many cycles without a step the hardware can still have
abbrev pub patience : Hardware → ℕ
patience h = flight_time h h.rob.entries
