-- What became of the places of a run. In each cycle as many instructions can be dispatched as the dispatch width says:
-- so many places the cycle has. Each is used by an instruction, which retires, traps or is squashed, or is in flight at
-- the end; or it is lost. This is the top-down account of A. Yasin, "A Top-Down Method for Performance Analysis and
-- Counters Architecture", ISPASS 2014, at dispatch.
use Rattle.std.specs.Prelude.{◌≡◌, ℕ, ◌+◌, ◌-◌, ◌*◌, ◌^◌, ◌<◌, ◌≤◌, ◌==◌, Bool, nat_le, nat_lt}
use Rattle.std.specs.Prelude.{if◌then◌else◌, List, [], ◌∷◌, count_by, filter, length, Option, Some, None}
use Rattle.std.specs.FinSet as set
use Rattle.std.specs.List.{list_any, slice_get}
use Rattle.rv_isa.specs.Arrivals.{lines_at}
use Rattle.rv_isa.specs.Instruction.{is_serialising, kind_of_word}
use Rattle.rv_isa.specs.PerKind.{at_kind, with_kind}
use Rattle.rv_isa.specs.declared.{instructions.Instr.Instr, lines.Arrival.Arrival}
use Rattle.rv_isa.specs.declared.{operations.Kind.Kind, values.Values.Values}
use Rattle.rv_decode.specs.Decodes.{instruction_of}
use Rattle.rv_front.specs.FetchBuffer.{FetchBuffer}
use Rattle.rv_front.specs.declared.fetched.Fetched.{Fetched}
use Rattle.rv_rob.specs.ReorderBuffer.{ReorderBuffer}
use Rattle.rv_rob.specs.declared.entry.Entry.{Entry}
use Rattle.rv_hardware.specs.Cycle.{commit_with, execute}
use Rattle.rv_hardware.specs.Dispatch.{is_stationed}
use Rattle.rv_hardware.specs.Hardware.{Hardware}
use Rattle.rv_hardware.specs.History.{Moment}
use Rattle.rv_hardware.specs.Step.{is_retirement, is_trap}
use Rattle.rv_hardware.specs.declared.{report.Stall.Stall, step.Step.Step}
use Rattle.rv_hardware.specs.declared.report.Stall.TheVariants as stall
use Rattle.rv_hardware.specs.declared.step.Step.TheVariants.{Retired, Trap, Interrupt}
use Rattle.rv_counts.specs.declared.run_places.{CyclePlaces.CyclePlaces, Flush.Flush, Loss.Loss, Lost.Lost}
use Rattle.rv_counts.specs.declared.run_places.{Places.Places, RunPlaces.RunPlaces, Squashed.Squashed}
use Rattle.rv_counts.specs.declared.run_places.Flush.TheVariants as flush
use Rattle.rv_counts.specs.declared.run_places.Loss.TheVariants as loss

-- what squashes the instructions after a step
abbrev pub flush_by : Step → Flush
flush_by (Retired row) = if is_serialising (instruction_of row.word) then flush.Serialising else flush.Prediction
flush_by (Trap pc cause value cycle) = flush.Trap
flush_by (Interrupt pc cause cycle) = flush.Interrupt

-- what squashes instructions in a cycle: its last step, or a wrong prediction that is mended before it retires
abbrev pub flush_of : List Step → Flush
flush_of [] = flush.Prediction
flush_of (step ∷ []) = flush_by step
flush_of (step ∷ next ∷ steps) = flush_of (next ∷ steps)

-- all stations of a kind are taken
abbrev pub has_no_station : Values → ReorderBuffer → Kind → Bool
has_no_station values rob kind =
    nat_le (at_kind kind values.kinds).stations (length (filter (is_stationed kind) rob.entries))

-- an instruction with a unit waits for a station of its kind, where those are full, and any other for the store queue
abbrev pub loss_of_kind : Values → ReorderBuffer → Option Kind → Loss
loss_of_kind values rob None = loss.Store
loss_of_kind values rob (Some kind) = if has_no_station values rob kind then loss.Station kind else loss.Store

-- a serialising instruction is in flight
abbrev pub has_serialising : ReorderBuffer → Bool
has_serialising rob = list_any (λ (e : Entry). is_serialising e.instruction) rob.entries

-- what an instruction waits for that was not dispatched, of these the first
abbrev pub loss_of : Values → ReorderBuffer → Option Instr → Loss
loss_of values rob instruction =
    if has_serialising rob then loss.Serial
    else (if nat_le rob.capacity (length rob.entries) then loss.Rob
    else loss_of_kind values rob (kind_of_word instruction))

-- what the oldest word of the fetch buffer waits for, where it was fetched before a cycle
abbrev pub loss_by : ℕ → Values → ReorderBuffer → Option Fetched → Loss
loss_by cycle values rob None = loss.Fetch
loss_by cycle values rob (Some fetched) =
    if nat_lt fetched.cycle cycle then loss_of values rob fetched.instruction else loss.Fetch

-- why places of a cycle are lost that left such buffers
abbrev pub loss_in : ℕ → Values → ReorderBuffer → FetchBuffer → Loss
loss_in cycle values rob front = loss_by cycle values rob (slice_get front.entries 0)

-- the places of a cycle of a described machine, by its number, how many instructions were in the reorder buffer before
-- it, its steps, how many instructions were dispatched in it, and the buffers that it left
abbrev pub cycle_places : Values → ℕ → ℕ → List Step → ℕ → ReorderBuffer → FetchBuffer → CyclePlaces
cycle_places values cycle before steps dispatched rob front = record {
  retired = count_by is_retirement steps;
  trapped = count_by is_trap steps;
  squashed = before + dispatched - count_by is_retirement steps - count_by is_trap steps - length rob.entries;
  flush = flush_of steps;
  lost = values.dispatch_width - dispatched;
  loss = loss_in cycle values rob front;
}

-- those of a cycle from some hardware on
abbrev pub places_in : Hardware → Moment → CyclePlaces
places_in h moment =
    cycle_places moment.after.values h.cycle (length h.rob.entries) moment.report.steps moment.report.dispatched
    moment.after.rob moment.after.front

-- how many instructions were dispatched in a cycle that left such a reorder buffer
abbrev pub dispatched_in : ℕ → ReorderBuffer → ℕ
dispatched_in cycle rob = count_by (λ (e : Entry). e.dispatched == cycle) rob.entries

-- the places of a cycle, with what was dispatched in it by the reorder buffer that it left
abbrev pub places_by : Values → ℕ → ℕ → List Step → ReorderBuffer → FetchBuffer → CyclePlaces
places_by values cycle before steps rob front =
    cycle_places values cycle before steps (dispatched_in cycle rob) rob front

-- of no cycle
abbrev pub no_places : Places
no_places = record {
  retired = 0;
  trapped = 0;
  squashed = record { predictions = 0; serialising = 0; traps = 0; interrupts = 0 };
  lost = record { fetch = 0; serial = 0; rob = 0; stations = record { alu = 0; mul = 0; div = 0; mem = 0 }; store = 0 };
}

-- with some more that were squashed
abbrev pub with_squashed : Flush → ℕ → Squashed → Squashed
with_squashed flush.Prediction count s = record s { predictions = s.predictions + count }
with_squashed flush.Serialising count s = record s { serialising = s.serialising + count }
with_squashed flush.Trap count s = record s { traps = s.traps + count }
with_squashed flush.Interrupt count s = record s { interrupts = s.interrupts + count }

-- with some more that were lost
abbrev pub with_lost : Loss → ℕ → Lost → Lost
with_lost loss.Fetch count l = record l { fetch = l.fetch + count }
with_lost loss.Serial count l = record l { serial = l.serial + count }
with_lost loss.Rob count l = record l { rob = l.rob + count }
with_lost (loss.Station kind) count l =
    record l { stations = with_kind kind (at_kind kind l.stations + count) l.stations }
with_lost loss.Store count l = record l { store = l.store + count }

-- with those of one more cycle
abbrev pub with_cycle : CyclePlaces → Places → Places
with_cycle c p = record {
  retired = p.retired + c.retired;
  trapped = p.trapped + c.trapped;
  squashed = with_squashed c.flush c.squashed p.squashed;
  lost = with_lost c.loss c.lost p.lost;
}

-- those of some cycles more, from some hardware on
abbrev pub places_from : Places → Hardware → List Moment → Places
places_from p h [] = p
places_from p h (moment ∷ moments) = places_from (with_cycle (places_in h moment) p) moment.after moments

-- those of all cycles of a run
abbrev pub places_of : Hardware → List Moment → Places
places_of h moments = places_from no_places h moments

-- what became of the places of a run so far, and how many instructions are in the reorder buffer
abbrev pub run_places : Hardware → List Moment → Hardware → RunPlaces
run_places first moments last = record { places = places_of first moments; in_flight = length last.rob.entries }

-- with one more cycle
abbrev pub placed_after : Values → ℕ → List Step → ReorderBuffer → FetchBuffer → RunPlaces → RunPlaces
placed_after values cycle steps rob front p = record {
  places = with_cycle (places_by values cycle p.in_flight steps rob front) p.places;
  in_flight = length rob.entries;
}

-- of how many places each became that, where so many instructions are in flight at the end
abbrev pub place_counts : ℕ → Places → List ℕ
place_counts in_flight p =
    p.retired ∷ p.trapped ∷
    p.squashed.predictions ∷ p.squashed.serialising ∷ p.squashed.traps ∷ p.squashed.interrupts ∷
    in_flight ∷ p.lost.fetch ∷ p.lost.serial ∷ p.lost.rob ∷
    p.lost.stations.alu ∷ p.lost.stations.mul ∷ p.lost.stations.div ∷ p.lost.stations.mem ∷
    p.lost.store ∷ []

-- how many of a cycle are counted
abbrev pub cycle_total : CyclePlaces → ℕ
cycle_total c = c.retired + c.trapped + c.squashed + c.lost

-- how many there are
abbrev pub all_squashed : Squashed → ℕ
all_squashed s = s.predictions + s.serialising + s.traps + s.interrupts

abbrev pub all_lost : Lost → ℕ
all_lost l = l.fetch + l.serial + l.rob + (l.stations.alu + l.stations.mul + l.stations.div + l.stations.mem) + l.store

abbrev pub all_places : Places → ℕ
all_places p = p.retired + p.trapped + all_squashed p.squashed + all_lost p.lost

-- the places of one more cycle can be counted
pub record CanPlace (values : Values) (cycle : ℕ) (steps : List Step) (rob : ReorderBuffer) (front : FetchBuffer)
    (p : RunPlaces) : Type 0 where
  pub before : p.in_flight ≤ 256
  pub after : length rob.entries ≤ 256
  pub room : all_places p.places + cycle_total (places_by values cycle p.in_flight steps rob front) < 2 ^ 64

-- The places of a run add up: those of the instructions that left the reorder buffer, of those that are in it at the end, and those
-- that were lost are all places of its cycles, and those of the instructions that were in it before.
abbrev pub AddUp : Hardware → List Moment → Hardware → Type 0
AddUp first moments last =
    all_places (places_of first moments) + length last.rob.entries
    ≡ length moments * last.values.dispatch_width + length first.rob.entries

-- the stall that a reason is
abbrev pub stall_for : Loss → Stall
stall_for loss.Fetch = stall.Fetch
stall_for loss.Serial = stall.Serial
stall_for loss.Rob = stall.Rob
stall_for (loss.Station kind) = stall.Station
stall_for loss.Store = stall.Store

-- what ended the dispatch phase of a cycle before its width
abbrev pub awaited_in : List Arrival → Hardware → Option Stall
awaited_in arrivals h = (execute (commit_with set.contains (lines_at arrivals h.cycle) h).hardware).waits_for

-- the places of each of some cycles are lost for what ended its dispatch phase
abbrev pub AreLostFor : List Arrival → Hardware → List Moment → Type 0
AreLostFor arrivals h [] = Unit {0}
AreLostFor arrivals h (moment ∷ moments) =
    (0 < (places_in h moment).lost → awaited_in arrivals h ≡ Some (stall_for (places_in h moment).loss))
    × AreLostFor arrivals moment.after moments
