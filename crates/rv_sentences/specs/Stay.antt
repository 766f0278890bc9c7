-- Why the instructions in flight stay there, cycle by cycle. One that was dispatched before a cycle and is in flight at
-- its end stays in it for one reason, of these the first that the machine meets: its operands, for a load the addresses
-- of the older stores, a unit of its kind, for a load the port of the cache; then its execution, the common data bus,
-- and its retirement. By its stamps and the units alone: as nothing waits that has what it needs, an instruction that
-- has its operands and was not issued waits for a unit, and a load that has a unit besides, and the addresses, waits
-- for the port.
use Rattle.std.specs.Prelude.{◌≡◌, ℕ, ◌+◌, ◌&&◌, nat_lt, Bool, true, false, not, if◌then◌else◌}
use Rattle.std.specs.Prelude.{List, [], ◌∷◌, count_by, drop, map, take, Option, Some, None, is_some}
use Rattle.std.specs.List.{flat_map}
use Rattle.std.specs.Option.{option_or}
use Rattle.rv_isa.specs.Instruction.{is_load, is_store, kind_of_word}
use Rattle.rv_isa.specs.PerKind.{at_kind, with_kind}
use Rattle.rv_isa.specs.declared.operations.Kind.{Kind}
use Rattle.rv_isa.specs.declared.operations.Kind.TheVariants.{Mem}
use Rattle.rv_memory.specs.Memory.{word_of}
use Rattle.rv_units.specs.Pool.{is_free}
use Rattle.rv_hardware.specs.Hardware.{Hardware}
use Rattle.rv_hardware.specs.History.{Moment}
use Rattle.rv_passage.specs.Passage.{is_in_flight}
use Rattle.rv_passage.specs.Result.{waits_for_bus}
use Rattle.rv_passage.specs.Table.{still_open}
use Rattle.rv_passage.specs.Walk.{FollowedCycle, walk}
use Rattle.rv_passage.specs.declared.{passage.Passage.Passage, producers.Producer.Producer}
use Rattle.rv_passage.specs.declared.{producers.Producers.Producers}
use Rattle.rv_sentences.specs.declared.{stay.Stay.Stay, stays.Stays.Stays}
use Rattle.rv_sentences.specs.declared.stay.Stay.TheVariants as stay

-- something came before a cycle
abbrev pub came_before : ℕ → Option ℕ → Bool
came_before cycle None = false
came_before cycle (Some stamp) = nat_lt stamp cycle

-- the pc of a producer whose result was not broadcast before a cycle
abbrev pub awaited : ℕ → Option Producer → Option ℕ
awaited cycle None = None
awaited cycle (Some producer) = if came_before cycle producer.broadcast then None else Some producer.pc

-- the first of two
abbrev pub first_awaited : ℕ → Producers → Option ℕ
first_awaited cycle producers = option_or (awaited cycle producers.first) (awaited cycle producers.second)

-- what a load with its operands waits for: whether a unit is free for it, and all older stores have their addresses
abbrev pub load_stay : Bool → Bool → Stay
load_stay has_unit has_addresses =
    if has_addresses then (if has_unit then stay.Port else stay.Unit Mem) else stay.Address

-- what an instruction of a kind with its operands waits for
abbrev pub ready_stay : Bool → Bool → Kind → Passage → Stay
ready_stay has_unit has_addresses kind p =
    if is_load p.instruction then load_stay has_unit has_addresses else stay.Unit kind

-- and one that may lack an operand
abbrev pub operand_stay : Stay → Option ℕ → Stay
operand_stay ready None = ready
operand_stay ready (Some pc) = stay.Operand pc

-- one that was not issued; what uses no unit waits for its retirement alone
abbrev pub station_stay : ℕ → Bool → Bool → Option Kind → Passage → Stay
station_stay cycle has_unit has_addresses None p = stay.Retirement
station_stay cycle has_unit has_addresses (Some kind) p =
    operand_stay (ready_stay has_unit has_addresses kind p) (first_awaited cycle p.producers)

-- one whose result was not broadcast before
abbrev pub open_stay : ℕ → Bool → Bool → Passage → Stay
open_stay cycle has_unit has_addresses p =
    if waits_for_bus p cycle then stay.Bus
    else (if is_some p.issue then stay.Execution
    else station_stay cycle has_unit has_addresses (kind_of_word p.instruction) p)

-- one that was dispatched
abbrev pub dispatched_stay : ℕ → Bool → Bool → Passage → Stay
dispatched_stay cycle has_unit has_addresses p =
    if came_before cycle p.broadcast then stay.Retirement else open_stay cycle has_unit has_addresses p

-- it was dispatched before a cycle, and is in flight at its end
abbrev pub is_staying : ℕ → Passage → Bool
is_staying cycle p = is_in_flight p && came_before cycle p.dispatched

-- why it stays in a cycle, if it does
abbrev pub stay_in : ℕ → Bool → Bool → Passage → Option Stay
stay_in cycle has_unit has_addresses p =
    if is_staying cycle p then Some (dispatched_stay cycle has_unit has_addresses p) else None

-- a store in flight whose address was not broadcast before a cycle
abbrev pub lacks_address : ℕ → Passage → Bool
lacks_address cycle p = is_in_flight p && is_store p.instruction && not (came_before cycle p.broadcast)

-- all stores among some older instructions have their addresses, and those before them
abbrev pub have_addresses : ℕ → Bool → List Passage → Bool
have_addresses cycle before [] = before
have_addresses cycle before (p ∷ ps) = not (lacks_address cycle p) && have_addresses cycle before ps

-- why each of some instructions stays, in order of fetch
abbrev pub stays_among : ℕ → Bool → Bool → List Passage → List (Option Stay)
stays_among cycle has_unit has_addresses [] = []
stays_among cycle has_unit has_addresses (p ∷ ps) =
    stay_in cycle has_unit has_addresses p
    ∷ stays_among cycle has_unit (has_addresses && not (lacks_address cycle p)) ps

-- why one stays after some older ones
abbrev pub stay_after : ℕ → Bool → Bool → List Passage → Passage → Option Stay
stay_after cycle has_unit has_addresses older p = stay_in cycle has_unit (have_addresses cycle has_addresses older) p

-- why each from a place on stays
abbrev pub stays_from : ℕ → Bool → Bool → ℕ → List Passage → List (Option Stay)
stays_from cycle has_unit has_addresses place ps =
    stays_among cycle has_unit (have_addresses cycle has_addresses (take place ps)) (drop place ps)

-- those of a cycle
abbrev pub stays_in : FollowedCycle → List (Option Stay)
stays_in cycle =
    stays_among cycle.number (is_free cycle.number (at_kind Mem cycle.after.units)) true cycle.passages.rows

-- those of all cycles of a run
abbrev pub stays_of : Hardware → List Moment → List (Option Stay)
stays_of h moments = flat_map stays_in (walk still_open h moments)

-- no cycle of any reason
abbrev pub no_stays : Stays
no_stays = record {
  operands = 0;
  addresses = 0;
  units = record { alu = 0; mul = 0; div = 0; mem = 0 };
  port = 0;
  execution = 0;
  bus = 0;
  retirement = 0;
}

-- with one cycle more, for a reason
abbrev pub with_reason : Stay → Stays → Stays
with_reason (stay.Operand pc) s = record s { operands = s.operands + 1 }
with_reason stay.Address s = record s { addresses = s.addresses + 1 }
with_reason (stay.Unit kind) s = record s { units = with_kind kind (at_kind kind s.units + 1) s.units }
with_reason stay.Port s = record s { port = s.port + 1 }
with_reason stay.Execution s = record s { execution = s.execution + 1 }
with_reason stay.Bus s = record s { bus = s.bus + 1 }
with_reason stay.Retirement s = record s { retirement = s.retirement + 1 }

abbrev pub with_stay : Option Stay → Stays → Stays
with_stay None s = s
with_stay (Some reason) s = with_reason reason s

-- with several more
abbrev pub with_stays : List (Option Stay) → Stays → Stays
with_stays [] s = s
with_stays (o ∷ os) s = with_stays os (with_stay o s)

-- the word of the instruction whose result is awaited, if one is
abbrev pub awaited_word : Option Stay → Option ℕ
awaited_word (Some (stay.Operand pc)) = Some (word_of pc)
awaited_word _ = None

-- the word that the oldest of those awaits that wait for an operand, if one does: its producer is older, and so waits
-- for none itself
abbrev pub oldest_awaited : List (Option Stay) → Option ℕ
oldest_awaited [] = None
oldest_awaited (o ∷ os) = option_or (awaited_word o) (oldest_awaited os)

-- that of a cycle
abbrev pub awaited_in : FollowedCycle → Option ℕ
awaited_in cycle = oldest_awaited (stays_in cycle)

-- that of each cycle of a run
abbrev pub awaited_of : Hardware → List Moment → List (Option ℕ)
awaited_of h moments = map awaited_in (walk still_open h moments)

-- how many cycles there are
abbrev pub all_stays : Stays → ℕ
all_stays s =
    s.operands + s.addresses + (s.units.alu + s.units.mul + s.units.div + s.units.mem) + s.port + s.execution
    + s.bus + s.retirement

-- how many instructions stay in some cycles
abbrev pub staying_in : List FollowedCycle → ℕ
staying_in [] = 0
staying_in (cycle ∷ cycles) = count_by (is_staying cycle.number) cycle.passages.rows + staying_in cycles

-- each instruction stays in each cycle for one reason
abbrev pub StaysAddUp : Hardware → List Moment → Type 0
StaysAddUp h moments = all_stays (with_stays (stays_of h moments) no_stays) ≡ staying_in (walk still_open h moments)
