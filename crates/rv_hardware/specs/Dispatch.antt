-- The dispatch phase: fetched instructions enter the reorder buffer in order.
use Rattle.std.specs.Prelude.{ℕ, ◌+◌, ◌==◌, ◌&&◌, nat_le, Bool, true, false, if◌then◌else◌}
use Rattle.std.specs.Prelude.{List, [], ◌∷◌, length, filter, Option, Some, None}
use Rattle.std.specs.List.{list_any}
use Rattle.rv_isa.specs.Instruction.{is_serialising, is_store, is_of_kind, kind_of_word}
use Rattle.rv_isa.specs.PerKind.{at_kind}
use Rattle.rv_isa.specs.declared.operations.Kind.{Kind}
use Rattle.rv_front.specs.declared.fetched.Fetched.{Fetched}
use Rattle.rv_rob.specs.ReorderBuffer.{pushed}
use Rattle.rv_rob.specs.declared.entry.{Entry.Entry, Stage.Stage}
use Rattle.rv_rob.specs.declared.entry.Stage.TheVariants.{Waiting, Finished}
use Rattle.rv_hardware.specs.Hardware.{Hardware}
use Rattle.rv_hardware.specs.InFlight.{is_waiting}
use Rattle.rv_hardware.specs.Repeated.{Turn, GoesOn, Ends, repeated}
use Rattle.rv_hardware.specs.Result.{result_of_word}
use Rattle.rv_hardware.specs.Seen.{layout_of, state_after, stores_after}
use Rattle.rv_hardware.specs.declared.report.Stall.{Stall}
use Rattle.rv_hardware.specs.declared.report.Stall.TheVariants as stall

-- the phase so far: the hardware, how many instructions were dispatched, and what the next one waits for, if it does
pub record Dispatching : Type 0 where
  pub hardware : Hardware
  pub dispatched : ℕ
  pub waits_for : Option Stall

-- an instruction in a reservation station of a kind
abbrev pub is_stationed : Kind → Entry → Bool
is_stationed kind e = is_waiting e.stage && is_of_kind kind (kind_of_word e.instruction)

-- the stations of a kind are full
abbrev pub has_full_stations : Hardware → Option Kind → Bool
has_full_stations h None = false
has_full_stations h (Some kind) =
    nat_le (at_kind kind h.values.kinds).stations (length (filter (is_stationed kind) h.rob.entries))

-- what an instruction waits for, of these the first
abbrev pub reason_of : Hardware → Fetched → Option Stall
reason_of h fetched =
    if list_any (λ e. is_serialising e.instruction) h.rob.entries then Some stall.Serial
    else (if nat_le h.rob.capacity (length h.rob.entries) then Some stall.Rob
    else (if has_full_stations h (kind_of_word fetched.instruction) then Some stall.Station
    else (if is_store fetched.instruction && nat_le h.values.store_queue (length (stores_after h h.rob.entries))
    then Some stall.Store
    else None)))

-- serialising instructions wait to be the oldest, those with a unit wait in a station; all others are finished at once
abbrev pub stage_by : Option Kind → Bool → Stage → Stage
stage_by (Some kind) serialising finished = Waiting
stage_by None true finished = Waiting
stage_by None false finished = finished

-- the stage at dispatch: what uses no unit is finished at once
abbrev pub first_stage : Hardware → Fetched → Stage
first_stage h fetched =
    stage_by (kind_of_word fetched.instruction) (is_serialising fetched.instruction)
    (Finished None h.cycle
    (result_of_word (layout_of h.values) (state_after h h.rob.entries fetched.pc) h.lines fetched.word
    fetched.instruction))

-- the entry of a fetched word
abbrev pub entry_of_fetched : Hardware → Fetched → Entry
entry_of_fetched h fetched = record {
  pc = fetched.pc;
  word = fetched.word;
  instruction = fetched.instruction;
  predicted_next = fetched.predicted;
  fetched = fetched.cycle;
  dispatched = h.cycle;
  stage = first_stage h fetched;
}

-- an instruction leaves the fetch buffer for the reorder buffer
abbrev pub with_dispatched : Fetched → List Fetched → Hardware → Hardware
with_dispatched fetched rest h = record h {
  rob = pushed (entry_of_fetched h fetched) h.rob;
  front = record h.front { entries = rest };
}

-- an instruction is dispatched, unless it waits for something
abbrev pub dispatch_unless : Option Stall → Fetched → List Fetched → Dispatching → Turn Dispatching
dispatch_unless (Some reason) fetched rest d = Ends (record d { waits_for = Some reason })
dispatch_unless None fetched rest d =
    GoesOn (record d { hardware = with_dispatched fetched rest d.hardware; dispatched = d.dispatched + 1 })

-- a turn, by the words in the fetch buffer
abbrev pub dispatch_turn_of : List Fetched → Dispatching → Turn Dispatching
dispatch_turn_of [] d = Ends (record d { waits_for = Some stall.Fetch })
dispatch_turn_of (fetched ∷ rest) d = dispatch_unless (reason_of d.hardware fetched) fetched rest d

-- one turn: the oldest fetched instruction, unless it waits
abbrev pub dispatch_turn : Dispatching → Turn Dispatching
dispatch_turn d = dispatch_turn_of d.hardware.front.entries d

-- the dispatch phase: as many turns as its width
abbrev pub dispatch : Hardware → Dispatching
dispatch h = repeated dispatch_turn h.values.dispatch_width (record { hardware = h; dispatched = 0; waits_for = None })

-- why a cycle dispatched nothing
abbrev pub stall_of : Dispatching → Option Stall
stall_of d = if d.dispatched == 0 then d.waits_for else None
