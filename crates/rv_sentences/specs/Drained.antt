-- The drains of a run, store by store: stores drain in the order in which they retired. The store queue has at most 64
-- places, and a run begins where no retired store waits, as one from the reset does.
use Rattle.std.specs.Prelude.{ℕ, ◌+◌, ◌^◌, ◌<◌, ◌==◌, nat_lt, if◌then◌else◌, List}
use Rattle.std.specs.Prelude.{[], ◌∷◌, ◌++◌, drop, length, sum, Option, Some, None}
use Rattle.rv_isa.specs.declared.{lines.Arrival.Arrival, values.Values.Values}
use Rattle.rv_memory.specs.Memory.{word_of}
use Rattle.rv_hardware.specs.Hardware.{Hardware}
use Rattle.rv_hardware.specs.History.{Moment}
use Rattle.rv_counts.specs.declared.loads.LoadCosts.{LoadCosts}
use Rattle.rv_sentences.specs.Drain.{drain_in}
use Rattle.rv_sentences.specs.LastStore.{stores_in}
use Rattle.rv_sentences.specs.WordCount.{count_at, count_in, with_one}
use Rattle.rv_sentences.specs.WordNotes.{notes_of}
use Rattle.rv_sentences.specs.declared.{drained.Drained.Drained, outcomes.Outcomes.Outcomes}
use Rattle.rv_sentences.specs.declared.{store_counts.StoreCounts.StoreCounts, stored.Stored.Stored}

-- the words of the retired stores that wait for their drains, oldest first, with one more
abbrev pub entered : ℕ → List ℕ → List ℕ
entered word waiting = if nat_lt (length waiting) 64 then waiting ++ word ∷ [] else waiting

-- with those that retire in a cycle
abbrev pub with_waiting : List Stored → List ℕ → List ℕ
with_waiting [] waiting = waiting
with_waiting (store ∷ stores) waiting = with_waiting stores (entered (word_of store.pc) waiting)

-- the drain that begins then, by what it costs, if one does: that of the oldest
abbrev pub oldest_drained : Option ℕ → List ℕ → Option Drained
oldest_drained None waiting = None
oldest_drained (Some cost) [] = None
oldest_drained (Some cost) (word ∷ waiting) = Some (record { word = word; cost = cost })

-- and those that wait on
abbrev pub still_waiting : Option ℕ → List ℕ → List ℕ
still_waiting None waiting = waiting
still_waiting (Some cost) waiting = drop 1 waiting

-- those that wait before the drain phase of a cycle, which comes after its commit phase
abbrev pub waiting_in : Hardware → Moment → List ℕ → List ℕ
waiting_in h moment waiting = with_waiting (stores_in h.registers moment.report.steps) waiting

-- those that wait after some cycles
abbrev pub waiting_from : List Arrival → List ℕ → Hardware → List Moment → List ℕ
waiting_from arrivals waiting h [] = waiting
waiting_from arrivals waiting h (moment ∷ moments) =
    waiting_from arrivals (still_waiting (drain_in arrivals h) (waiting_in h moment waiting)) moment.after moments

abbrev pub waiting_of : List Arrival → Hardware → List Moment → List ℕ
waiting_of arrivals h moments = waiting_from arrivals [] h moments

-- the drains that begin in some cycles, one or none in each
abbrev pub drained_from : List Arrival → List ℕ → Hardware → List Moment → List (Option Drained)
drained_from arrivals waiting h [] = []
drained_from arrivals waiting h (moment ∷ moments) =
    oldest_drained (drain_in arrivals h) (waiting_in h moment waiting) ∷
    drained_from arrivals (still_waiting (drain_in arrivals h) (waiting_in h moment waiting)) moment.after moments

abbrev pub drained_of : List Arrival → Hardware → List Moment → List (Option Drained)
drained_of arrivals h moments = drained_from arrivals [] h moments

-- the word of a drain, if it is one at the cost of a hit
abbrev pub hit_at : LoadCosts → Option Drained → Option ℕ
hit_at costs None = None
hit_at costs (Some drained) = if drained.cost == costs.hit then Some drained.word else None

-- if it is one at any other cost
abbrev pub miss_at : LoadCosts → Option Drained → Option ℕ
miss_at costs None = None
miss_at costs (Some drained) = if drained.cost == costs.hit then None else Some drained.word

-- if it costs more than a miss alone: a dirty line was written back
abbrev pub write_back_at : LoadCosts → Option Drained → Option ℕ
write_back_at costs None = None
write_back_at costs (Some drained) = if nat_lt costs.clean_miss drained.cost then Some drained.word else None

-- how many there are at each word
abbrev pub store_counts : Values → LoadCosts → List (Option Drained) → StoreCounts
store_counts values costs drains = record {
  hits = notes_of values (count_at (hit_at costs) drains);
  misses = notes_of values (count_at (miss_at costs) drains);
  write_backs = notes_of values (count_at (write_back_at costs) drains);
}

-- one more can be counted
pub record CanCountStore (counts : StoreCounts) : Type 0 where
  pub hits : sum counts.hits.words + 1 < 2 ^ 64
  pub misses : sum counts.misses.words + 1 < 2 ^ 64
  pub write_backs : sum counts.write_backs.words + 1 < 2 ^ 64

-- with one more
abbrev pub with_drained : LoadCosts → Option Drained → StoreCounts → StoreCounts
with_drained costs drained counts = record {
  hits = with_one (hit_at costs drained) counts.hits;
  misses = with_one (miss_at costs drained) counts.misses;
  write_backs = with_one (write_back_at costs drained) counts.write_backs;
}

-- those of the stores in a word, nothing outside RAM
abbrev pub stores_at : StoreCounts → ℕ → Outcomes
stores_at counts word = record {
  hits = count_in counts.hits word;
  forwarded = 0;
  misses = count_in counts.misses word;
  write_backs = count_in counts.write_backs word;
}
