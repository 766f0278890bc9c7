-- The laws that the reported steps of a run obey, by pairs and counts alone.
use Rattle.std.specs.Prelude.{◌≡◌, ℕ, ◌+◌, ◌-◌, ◌<◌, ◌≤◌, ◌==◌, ◌⊎◌, max, Bool, true, false, List, [], ◌∷◌}
use Rattle.std.specs.Prelude.{map, Some, is_some, IfSome, MatchOption, All, AllPairs, count_by, sum_by}
use Rattle.std.specs.List.{list_any, range_with_len}
use Rattle.rv_isa.specs.Arrivals.{lines_at}
use Rattle.rv_isa.specs.PerKind.{at_kind}
use Rattle.rv_isa.specs.Word.{pc_plus_4}
use Rattle.rv_isa.specs.declared.{lines.Arrival.Arrival, operations.Kind.Kind}
use Rattle.rv_isa.specs.declared.{values.CacheValues.CacheValues, values.Values.Values}
use Rattle.rv_isa.specs.declared.values.Recovery.TheVariants.{Early}
use Rattle.rv_arch.specs.Due.{due}
use Rattle.rv_arch.specs.Run.{Run}
use Rattle.rv_arch.specs.State.{State}
use Rattle.rv_arch.specs.Trap.{interrupt_cause}
use Rattle.rv_memory.specs.Memory.{Layout}
use Rattle.rv_hardware.specs.Headline.{reference_step}
use Rattle.rv_hardware.specs.Report.{all_stalls, count_of}
use Rattle.rv_hardware.specs.Stamps.{rows_of, steps_below, steps_in, EachAfter, EachNext, kind_of_row}
use Rattle.rv_hardware.specs.Stamps.{is_store_row, is_load_row, is_fence_i_row, known_in, needs_no_unit}
use Rattle.rv_hardware.specs.Stamps.{is_row_of_kind, sources_of_row, producer_among, flushes, is_fetched_in}
use Rattle.rv_hardware.specs.Stamps.{is_dispatched_in, is_issued_in, is_broadcast_in, is_buffered_in}
use Rattle.rv_hardware.specs.Stamps.{is_in_flight_in, is_stationed_in, is_executing_in, is_queued_in, uses_port}
use Rattle.rv_hardware.specs.Step.{stamp_of, is_interrupt}
use Rattle.rv_hardware.specs.declared.{report.StallCounts.StallCounts}
use Rattle.rv_hardware.specs.declared.{step.Execution.Execution, step.Row.Row, step.Step.Step}
use Rattle.rv_hardware.specs.declared.step.Step.TheVariants.{Retired, Trap, Interrupt}

-- issued after the dispatch, broadcast after the cost at the earliest, and before the retirement
abbrev pub IsBetween : ℕ → ℕ → Execution → Type 0
IsBetween dispatched retired x = (dispatched < x.issued) × (x.issued + x.cost ≤ x.broadcast) × (x.broadcast < retired)

-- fetched, dispatched, issued, broadcast and retired in this order; what uses no unit is neither issued nor broadcast
pub record HasOrderedStamps (row : Row) : Type 0 where
  pub dispatched_after_fetch : row.fetched < row.dispatched
  pub retired_after_dispatch : row.dispatched < row.retired
  pub executed_by_a_unit : is_some row.execution ≡ is_some (kind_of_row row)
  pub executed_between : IfSome row.execution (IsBetween row.dispatched row.retired)

-- what a load costs: its bytes come from older stores, or from the cache by a hit, a miss, or a miss that writes back
abbrev pub IsLoadCost : ℕ → CacheValues → ℕ → Type 0
IsLoadCost forward cache cost =
    (cost ≡ forward) ⊎ (cost ≡ cache.hit) ⊎ (cost ≡ cache.hit + cache.miss) ⊎
    (cost ≡ cache.hit + cache.miss + cache.write_back)

-- the latency of its kind, but for a load
abbrev pub IsCost : Values → Bool → Kind → ℕ → Type 0
IsCost values true kind cost = IsLoadCost values.forward values.cache cost
IsCost values false kind cost = cost ≡ (at_kind kind values.kinds).latency

-- a row that used a unit took one of the described costs
abbrev pub HasCost : Values → Row → Type 0
HasCost values row =
    IfSome row.execution (λ x. IfSome (kind_of_row row) (λ kind. IsCost values (is_load_row row) kind x.cost))

-- in each cycle at most so many pass a test
abbrev pub NeverMoreThan : {X : Type 0} → ℕ → (ℕ → X → Bool) → List X → Type 0
NeverMoreThan {X} most is_in xs = (c : ℕ) → count_by (is_in c) xs ≤ most

-- P of the executions of two rows, where both have one
abbrev pub BothExecute : (Execution → Execution → Type 0) → Row → Row → Type 0
BothExecute P a b = IfSome a.execution (λ x. IfSome b.execution (λ y. P x y))

-- P of each row that made an operand of a row: the last one before it that writes a register which it reads
abbrev pub EachProducer : (Row → Type 0) → List Row → Row → Type 0
EachProducer P before row = All (λ source. IfSome (producer_among before source) (λ p. P p)) (sources_of_row row)

-- a producer was broadcast before an instruction issued; one that uses no unit retired before its dispatch
abbrev pub IsKnownBefore : Row → Execution → Row → Type 0
IsKnownBefore row x producer =
    MatchOption producer.execution (producer.retired < row.dispatched) (λ y. y.broadcast < x.issued)

-- an instruction issues after the broadcasts of its operands
abbrev pub IssuesWithOperands : List Row → Row → Type 0
IssuesWithOperands before row = IfSome row.execution (λ x. EachProducer (IsKnownBefore row x) before row)

-- a load issues after the broadcast of an older store
abbrev pub LoadsAfterStore : Row → Row → Type 0
LoadsAfterStore a b = is_store_row a ≡ true → is_load_row b ≡ true → BothExecute (λ x y. x.broadcast < y.issued) a b

-- a FENCE.I retires after the access of an older store to the cache, which takes the cost of a hit at least
abbrev pub FencesAfterStore : ℕ → Row → Row → Type 0
FencesAfterStore hit a b = is_store_row a ≡ true → is_fence_i_row b ≡ true → a.retired + hit ≤ b.retired

-- a result that is ready is broadcast no later than a younger one
abbrev pub IsBroadcastFirst : Row → Row → Type 0
IsBroadcastFirst = BothExecute (λ x y. x.issued + x.cost ≤ y.broadcast → x.broadcast ≤ y.broadcast)

-- in each cycle in which a result is ready and is not broadcast yet, older ones take up a bus of this width
abbrev pub WaitsForBus : ℕ → ℕ → List Row → Execution → Type 0
WaitsForBus width from before x =
    (c : ℕ) → from ≤ c → x.issued + x.cost ≤ c → c < x.broadcast → width ≤ count_by (is_broadcast_in c) before

-- a result waits for the bus alone
abbrev pub LeavesNoBusIdle : ℕ → ℕ → List Row → Row → Type 0
LeavesNoBusIdle width from before row = IfSome row.execution (WaitsForBus width from before)

-- one execution is over when the other begins
abbrev pub AreApart : Execution → Execution → Type 0
AreApart x y = (x.issued + x.cost ≤ y.issued) ⊎ (y.issued + y.cost ≤ x.issued)

-- two loads that take their bytes from the cache do so one after the other
abbrev pub AreApartAtPort : ℕ → Row → Row → Type 0
AreApartAtPort forward a b = uses_port forward a ≡ true → uses_port forward b ≡ true → BothExecute AreApart a b

-- the producers of a row's operands that use a unit were broadcast before a cycle
abbrev pub HasOperandsIn : ℕ → List Row → Row → Type 0
HasOperandsIn cycle before row =
    EachProducer (λ producer. IfSome producer.execution (λ y. y.broadcast < cycle)) before row

-- how many stations a kind of unit has
abbrev pub stations_of : Values → Kind → ℕ
stations_of values kind = (at_kind kind values.kinds).stations

-- how many units of a kind are described
abbrev pub units_of : Values → Kind → ℕ
units_of values kind = (at_kind kind values.kinds).units

-- the units of a kind can each begin an instruction every cycle
abbrev pub is_pipelined : Values → Kind → Bool
is_pipelined values kind = (at_kind kind values.kinds).pipelined

-- in each cycle at most as many rows pass a test for a kind as it has units
abbrev pub FitUnits : Values → Kind → (Kind → ℕ → Row → Bool) → List Row → Type 0
FitUnits values kind is_in rows = NeverMoreThan (units_of values kind) (is_in kind) rows

-- in each cycle in which a row waits with its operands, older ones leave for this many units of its kind
abbrev pub WaitsForUnits : Kind → ℕ → ℕ → List Row → Row → Execution → Type 0
WaitsForUnits kind units from before row x =
    (c : ℕ) → from ≤ c → row.dispatched < c → c < x.issued → HasOperandsIn c before row →
    units ≤ count_by (is_issued_in kind c) before

-- a row of a kind, if it is no load, waits with its operands for units alone
abbrev pub LeavesNoUnitIdle : Kind → ℕ → ℕ → List Row → Row → Type 0
LeavesNoUnitIdle kind units from before row =
    is_row_of_kind kind row ≡ true → is_load_row row ≡ false →
    IfSome row.execution (WaitsForUnits kind units from before row)

-- no unit of a kind is idle while a row waits for one with its operands
abbrev pub LeaveNoUnitIdle : Values → Kind → ℕ → List Row → Type 0
LeaveNoUnitIdle values kind from rows = EachAfter (LeavesNoUnitIdle kind (units_of values kind) from) rows

-- in a cycle the stations of the kind of unit that a row uses are full of older ones
abbrev pub LacksStation : Values → ℕ → List Row → Row → Type 0
LacksStation values c before row =
    (kind : Kind) × (is_row_of_kind kind row ≡ true) ×
    (stations_of values kind ≤ count_by (is_stationed_in kind c) before)

-- in a cycle as many older rows are dispatched as can be, or they fill the reorder buffer or the row's stations
abbrev pub LacksRoom : Values → ℕ → List Row → Row → Type 0
LacksRoom values c before row =
    (values.dispatch_width ≤ count_by (is_dispatched_in c) before) ⊎
    (values.rob ≤ count_by (is_in_flight_in c) before) ⊎ LacksStation values c before row

-- a fetched row, if it is no store, waits with all older ones dispatched for room alone
abbrev pub WaitsForRoom : Values → ℕ → List Row → Row → Type 0
WaitsForRoom values from before row =
    is_store_row row ≡ false → (c : ℕ) → from ≤ c → row.fetched < c → c < row.dispatched →
    All (λ earlier. earlier.dispatched ≤ c) before → LacksRoom values c before row

-- how many cycles stalled, for all reasons
abbrev pub stall_cycles : StallCounts → ℕ
stall_cycles stalls = sum_by (λ stall. count_of stall stalls) all_stalls

-- b is fetched when a retires or later
abbrev pub IsFetchedSince : Step → Step → Type 0
IsFetchedSince a (Retired b) = stamp_of a ≤ b.fetched
IsFetchedSince a (Trap pc cause value cycle) = Unit {0}
IsFetchedSince a (Interrupt pc cause cycle) = Unit {0}

-- Where the step before it is of cycle c, an instruction retires in the cycle after that or after its own result at the
-- latest, unless it is FENCE.I.
abbrev pub DoesNotWait : ℕ → Step → Type 0
DoesNotWait c (Retired row) = is_fence_i_row row ≡ false → row.retired ≤ max c (known_in row) + 1
DoesNotWait c (Trap pc cause value cycle) = Unit {0}
DoesNotWait c (Interrupt pc cause cycle) = Unit {0}

-- Where the step before it is of cycle c, it was fetched by then, and dispatched in the cycle after that at the latest,
-- unless it is a store.
abbrev pub IsFetchedAhead : ℕ → Step → Type 0
IsFetchedAhead c (Retired row) = (row.fetched ≤ c) × (is_store_row row ≡ false → row.dispatched ≤ c + 1)
IsFetchedAhead c (Trap pc cause value cycle) = Unit {0}
IsFetchedAhead c (Interrupt pc cause cycle) = Unit {0}

-- where the step before it is of cycle c, a fault that needs no unit is taken two cycles after that at the latest
abbrev pub IsTrappedSoon : ℕ → Step → Type 0
IsTrappedSoon c (Retired row) = Unit {0}
IsTrappedSoon c (Trap pc cause value cycle) = needs_no_unit cause ≡ true → cycle ≤ c + 2
IsTrappedSoon c (Interrupt pc cause cycle) = Unit {0}

-- fetched in cycle 0 and dispatched in cycle 1
abbrev pub IsFirst : Row → Type 0
IsFirst row = (row.fetched ≡ 0) × (row.dispatched ≡ 1)

-- in how many cycles from `from` on and below `to` some of the rows were dispatched
abbrev pub dispatch_cycles : ℕ → ℕ → List Row → ℕ
dispatch_cycles from to rows = count_by (λ c. list_any (is_dispatched_in c) rows) (range_with_len from (to - from))

-- the counts of the cycles from `from` on and below `to`
pub record AreCounted (from to : ℕ) (steps : List Step) (busy : ℕ) (stalls : StallCounts) (cycles : ℕ) : Type 0 where
  pub all_cycles : from + cycles ≡ to
  -- each is busy or stalls for one reason
  pub busy_or_stalled : busy + stall_cycles stalls ≡ cycles
  -- and busy where a row was dispatched
  pub dispatched_is_busy : dispatch_cycles from to (rows_of steps) ≤ busy

-- the machine comes from a state to another by the steps of the cycles below c
abbrev pub ComesTo : Layout → List Arrival → State → List Step → ℕ → State → Type 0
ComesTo layout arrivals before steps c s =
    Run layout arrivals before (map stamp_of (steps_below c steps)) (map reference_step (steps_below c steps)) s

-- an interrupt that is due in a state, with the lines of the cycle, is the one step of the cycle
abbrev pub TakesDueInterrupt : List Arrival → List Step → ℕ → State → Type 0
TakesDueInterrupt arrivals steps c s =
    (code : ℕ) → due s.csrs (lines_at arrivals c) ≡ Some code →
    steps_in c steps ≡ Interrupt s.pc (interrupt_cause code) c ∷ []

-- For each cycle from `from` on and below `to`, in the state that the machine reaches from `before` by the steps of
-- earlier cycles: an interrupt that is due there is the one step of the cycle.
abbrev pub TakesDueInterrupts : Layout → List Arrival → ℕ → ℕ → State → List Step → Type 0
TakesDueInterrupts layout arrivals from to before steps =
    (c : ℕ) → from ≤ c → c < to →
    (s : State) × ComesTo layout arrivals before steps c s × TakesDueInterrupt arrivals steps c s

-- Of two rows that are steps one after the other: b is fetched in the cycle in which a retires, or with early recovery
-- in that in which a's result is broadcast, or else rows fill the fetch buffer in each cycle from `from` on that lies
-- between their fetches.
abbrev pub IsFetchedAfter : Values → ℕ → List Row → Step → Step → Type 0
IsFetchedAfter values from rows (Retired a) (Retired b) =
    (b.fetched ≡ a.retired) ⊎
    ((values.recovery ≡ Early) × MatchOption a.execution ⊥ (λ x. b.fetched ≡ x.broadcast)) ⊎
    ((c : ℕ) → from ≤ c → a.fetched < c → c < b.fetched → values.fetch_buffer ≤ count_by (is_buffered_in c) rows)
IsFetchedAfter values from rows _ _ = Unit {0}

-- where row b comes next after row a and was fetched in the same cycle, it stands at the address after a
abbrev pub IsNextWord : Row → Row → Type 0
IsNextWord a b = a.fetched ≡ b.fetched → b.pc ≡ pc_plus_4 a.pc

-- The laws, of the steps of the cycles from `from` on and below `to`. A stamp is the number of a cycle.
pub record Laws (values : Values) (from to : ℕ) (steps : List Step) : Type 0 where
  -- each step is of a cycle of the run
  pub within : All (λ step. (from ≤ stamp_of step) × (stamp_of step < to)) steps
  -- each instruction passes through the stages in order, and executes for its cost
  pub stamps_in_order : All HasOrderedStamps (rows_of steps)
  pub costs : All (HasCost values) (rows_of steps)
  -- steps come in program order, at most `commit_width` in a cycle; an interrupt is the one step of its cycle, and a
  -- trap or a serialising instruction the last
  pub steps_in_order : AllPairs (λ a b. stamp_of a ≤ stamp_of b) steps
  pub commit_width : NeverMoreThan values.commit_width (λ c step. stamp_of step == c) steps
  pub interrupts_alone : AllPairs (λ a b. is_interrupt b ≡ true → stamp_of a < stamp_of b) steps
  pub flushes_end_the_cycle : AllPairs (λ a b. flushes a ≡ true → stamp_of a < stamp_of b) steps
  -- a finished head does not wait, nor does a fault that needs no unit, and the front keeps ahead of both
  pub heads_do_not_wait : EachNext (λ a b. DoesNotWait (stamp_of a) b) steps
  pub traps_soon : EachNext (λ a b. IsTrappedSoon (stamp_of a) b) steps
  pub fetched_ahead : EachNext (λ a b. IsFetchedAhead (stamp_of a) b) steps
  -- where nothing ran before, an instruction that comes first is fetched in cycle 0 and dispatched in cycle 1
  pub first_row : from ≡ 0 → (row : Row) (rest : List Step) → steps ≡ Retired row ∷ rest → IsFirst row
  -- instructions are fetched and dispatched in order, at most a width in a cycle
  pub fetched_in_order : AllPairs (λ a b. a.fetched ≤ b.fetched) (rows_of steps)
  pub dispatched_in_order : AllPairs (λ a b. a.dispatched ≤ b.dispatched) (rows_of steps)
  pub fetch_width : NeverMoreThan values.fetch_width is_fetched_in (rows_of steps)
  pub dispatch_width : NeverMoreThan values.dispatch_width is_dispatched_in (rows_of steps)
  -- instructions fetched in one cycle stand one after another in memory: one that goes on elsewhere is the last of them
  pub fetched_together : EachNext IsNextWord (rows_of steps)
  -- an instruction issues after the broadcasts of its operands, and a load after those of all older stores
  pub operands : EachAfter IssuesWithOperands (rows_of steps)
  pub loads_after_stores : AllPairs LoadsAfterStore (rows_of steps)
  -- a FENCE.I retires after the accesses of all older stores
  pub fences_after_stores : AllPairs (FencesAfterStore values.cache.hit) (rows_of steps)
  -- at most `bus_width` results are broadcast in a cycle, of those that are ready the oldest; the bus is not idle while
  -- one waits
  pub bus_width : NeverMoreThan values.bus_width is_broadcast_in (rows_of steps)
  pub oldest_result_first : AllPairs IsBroadcastFirst (rows_of steps)
  pub no_idle_bus : EachAfter (LeavesNoBusIdle values.bus_width from) (rows_of steps)
  -- the reorder buffer, the fetch buffer and the stations hold no more than they have room for
  pub reorder_buffer : NeverMoreThan values.rob is_in_flight_in (rows_of steps)
  pub fetch_buffer : NeverMoreThan values.fetch_buffer is_buffered_in (rows_of steps)
  pub stations : (k : Kind) → NeverMoreThan (stations_of values k) (is_stationed_in k) (rows_of steps)
  -- nor does the store queue, which a store leaves at the earliest `hit` cycles after its retirement
  pub store_queue : NeverMoreThan values.store_queue (is_queued_in values.cache.hit) (rows_of steps)
  -- a unit executes one instruction at a time, or begins one a cycle where it is pipelined; the port serves one load
  pub pipelined_units : (k : Kind) → is_pipelined values k ≡ true → FitUnits values k is_issued_in (rows_of steps)
  pub other_units : (k : Kind) → is_pipelined values k ≡ false → FitUnits values k is_executing_in (rows_of steps)
  pub port : AllPairs (AreApartAtPort values.forward) (rows_of steps)
  -- no pipelined unit is idle while an instruction that is no load has its operands
  pub no_idle_unit : (k : Kind) → is_pipelined values k ≡ true → LeaveNoUnitIdle values k from (rows_of steps)
  -- after a trap, an interrupt or a serialising instruction everything is fetched anew
  pub fetched_anew : AllPairs (λ a b. flushes a ≡ true → IsFetchedSince a b) steps
  -- between the fetches of two rows that are steps one after the other, fetch waits for nothing but room, unless it
  -- begins anew with the second: where the first retires or, with early recovery, is broadcast
  pub no_idle_fetch : EachNext (IsFetchedAfter values from (rows_of steps)) steps
  -- dispatch waits for nothing but room
  pub no_idle_dispatch : EachAfter (WaitsForRoom values from) (rows_of steps)
