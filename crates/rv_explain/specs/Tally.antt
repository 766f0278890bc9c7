-- What is kept of a run, cycle by cycle.
use Rattle.std.specs.Prelude.{◌≡◌, ℕ, ◌+◌, ◌*◌, ◌^◌, ◌<◌, ◌≤◌, List, [], count_by, filter, length, sum, true, Option}
use Rattle.std.specs.Option.{option_to_list}
use Rattle.rv_isa.specs.PerKind.{at_kind}
use Rattle.rv_isa.specs.declared.{lines.Arrival.Arrival, lines.Lines.Lines, values.Values.Values}
use Rattle.rv_isa.specs.declared.operations.Kind.TheVariants.{Mem}
use Rattle.rv_units.specs.Pool.{is_free}
use Rattle.rv_watch.specs.Watching.{Watched}
use Rattle.rv_hardware.specs.Draining.{drain_end}
use Rattle.rv_hardware.specs.Hardware.{Hardware}
use Rattle.rv_hardware.specs.Run.{steps_of}
use Rattle.rv_hardware.specs.Step.{is_retirement}
use Rattle.rv_hardware.specs.declared.step.Step.{Step}
use Rattle.rv_passage.specs.declared.passage.Passage.{Passage}
use Rattle.rv_counts.specs.Left.{left_after}
use Rattle.rv_counts.specs.Counts.{one_more}
use Rattle.rv_counts.specs.Load.{costs_of}
use Rattle.rv_counts.specs.Passing.{has_left}
use Rattle.rv_sentences.specs.Access.{both}
use Rattle.rv_sentences.specs.Dispatch.{dispatched_after, none_dispatched}
use Rattle.rv_sentences.specs.Drain.{drains_by, drains_of}
use Rattle.rv_sentences.specs.Drained.{CanCountStore, drained_of, oldest_drained, still_waiting}
use Rattle.rv_sentences.specs.Drained.{store_counts, waiting_of, with_drained, with_waiting}
use Rattle.rv_sentences.specs.Exception.{exception_in, exceptions_of}
use Rattle.rv_sentences.specs.Head.{account_of, accounts_of, flusher_in, flusher_of, is_idle, itself}
use Rattle.rv_hardware.specs.History.{Moment, reports_of}
use Rattle.rv_sentences.specs.Interrupt.{AreCountable, by_line, interruption_in, interruptions_of, interrupts_after}
use Rattle.rv_sentences.specs.Kinds.{IsCountable, kept_after, kept_of}
use Rattle.rv_sentences.specs.LastStore.{last_store_to, stores_in, stores_of, with_stores}
use Rattle.rv_sentences.specs.Left.{CanAdd}
use Rattle.rv_sentences.specs.Load.{loads_of}
use Rattle.rv_sentences.specs.Outcome.{outcomes_at, with_passages}
use Rattle.rv_counts.specs.Places.{AddUp, all_places, places_of, with_cycle}
use Rattle.rv_sentences.specs.Stay.{all_stays, awaited_of, no_stays, oldest_awaited, stays_among, stays_of, with_stays}
use Rattle.rv_sentences.specs.Untaken.{raised_of, raised_with}
use Rattle.rv_sentences.specs.WordCount.{count_at, with_all, with_one}
use Rattle.rv_sentences.specs.WordNotes.{notes_of}
use Rattle.rv_sentences.specs.Work.{both_work, word_in, work_of}
use Rattle.rv_explain.specs.LastBefore.{last_before_of, last_before_with}
use Rattle.rv_explain.specs.declared.tally.Tally.{Tally}
use Rattle.rv_counts.specs.declared.run_places.CyclePlaces.{CyclePlaces}
use Rattle.rv_sentences.specs.declared.work.Class.TheVariants.{Branch, Mispredicted}

-- what is kept of some cycles that began with such hardware, by the arrivals at the interrupt lines, and of the instructions that
-- left the hardware in them
abbrev pub tally_of : Values → List Arrival → Hardware → List Moment → List Passage → Tally
tally_of values arrivals h moments left = record {
  retired = count_by is_retirement (steps_of (reports_of moments));
  exceptions = kept_of (exceptions_of moments);
  last_before = last_before_of moments;
  interrupts = by_line (interruptions_of moments);
  raised = raised_of h moments;
  places = places_of h moments;
  dispatches = dispatched_after (steps_of (reports_of moments)) none_dispatched;
  stays = with_stays (stays_of h moments) no_stays;
  awaited = notes_of values (count_at itself (awaited_of h moments));
  work = work_of left;
  costs = costs_of values;
  loads = loads_of (costs_of values) left;
  drains = drains_by values.cache.hit (drains_of arrivals h moments);
  last_stores = notes_of values (last_store_to (stores_of h moments));
  heads = notes_of values (count_at itself (accounts_of h moments));
  idle = count_by is_idle (accounts_of h moments);
  flusher = flusher_of h moments;
  branches = notes_of values (count_at (word_in Branch) left);
  mispredicted = notes_of values (count_at (word_in Mispredicted) left);
  outcomes = notes_of values (outcomes_at (costs_of values) left);
  waiting = waiting_of arrivals h moments;
  stores = store_counts values (costs_of values) (drained_of arrivals h moments);
}

-- what is kept of no cycle, whatever the arrivals and the hardware
abbrev pub IsOfNoCycle : Values → Tally → Type 0
IsOfNoCycle values tally = (arrivals : List Arrival) (h : Hardware) → tally ≡ tally_of values arrivals h [] []

-- what is kept of a run that began with such hardware
abbrev pub tally_of_run : Values → List Arrival → Hardware → List Moment → Tally
tally_of_run values arrivals h moments = tally_of values arrivals h moments (left_after h moments)

-- what is kept with one more cycle: its number, its steps, by the registers before them, its places, the drain that
-- began in it, the levels of the lines in it, the hardware that it left, and the passages at its end
abbrev pub tally_after : ℕ → List ℕ → List Step → CyclePlaces → Option ℕ → Lines → Hardware → List Passage → Tally →
    Tally
tally_after number registers steps places drain lines after rows tally = record {
  retired = tally.retired + count_by is_retirement steps;
  exceptions = kept_after (exception_in after steps) tally.exceptions;
  last_before = last_before_with tally.exceptions.all steps tally.last_before;
  interrupts = interrupts_after (interruption_in steps) tally.interrupts;
  raised = raised_with number lines tally.raised;
  places = with_cycle places tally.places;
  dispatches = dispatched_after steps tally.dispatches;
  stays = with_stays (stays_among number (is_free number (at_kind Mem after.units)) true rows) tally.stays;
  awaited = with_one (oldest_awaited (stays_among number (is_free number (at_kind Mem after.units)) true rows))
      tally.awaited;
  work = both_work tally.work (work_of (filter has_left rows));
  costs = tally.costs;
  loads = both tally.loads (loads_of tally.costs rows);
  drains = both tally.drains (drains_by tally.costs.hit (option_to_list drain));
  last_stores = with_stores (stores_in registers steps) tally.last_stores;
  heads = with_one (account_of after rows tally.flusher) tally.heads;
  idle = one_more (is_idle (account_of after rows tally.flusher)) tally.idle;
  flusher = flusher_in after rows tally.flusher;
  branches = with_all (word_in Branch) rows tally.branches;
  mispredicted = with_all (word_in Mispredicted) rows tally.mispredicted;
  outcomes = with_passages tally.costs (filter has_left rows) tally.outcomes;
  waiting = still_waiting drain (with_waiting (stores_in registers steps) tally.waiting);
  stores = with_drained tally.costs
      (oldest_drained drain (with_waiting (stores_in registers steps) tally.waiting)) tally.stores;
}

-- what is kept of the cycles that were seen, of those values by which nothing was kept at first; with the registers, the end of
-- the drain under way, and how many instructions are in the reorder buffer after them
pub record IsTallying (first tally : Tally) (registers : List ℕ) (end : Option ℕ) (in_flight : ℕ)
    (seen : Watched) : Type 0 where
  pub values : Values
  pub some_left : length (left_after seen.first.hardware seen.moments) ≤ 576 * seen.now.hardware.cycle
  pub of_no_cycle : first ≡ tally_of_run values seen.arrivals seen.first.hardware []
  pub tallied : (by : Values) → first ≡ tally_of_run by seen.arrivals seen.first.hardware [] →
      tally ≡ tally_of_run by seen.arrivals seen.first.hardware seen.moments
  pub few_stays : all_stays tally.stays ≤ 576 * seen.now.hardware.cycle
  pub registers_are : registers ≡ seen.now.hardware.registers
  pub end_is : end ≡ drain_end seen.now.hardware
  pub in_flight_is : in_flight ≡ length seen.now.hardware.rob.entries
  pub few_in_flight : in_flight ≤ 256
  pub few_before : length seen.first.hardware.rob.entries ≤ 256
  pub places_add_up : AddUp seen.first.hardware seen.moments seen.now.hardware

-- no count of a cycle with so many steps more, and so many passages at its end, comes to 2^64
pub record HasRoom (tally : Tally) (more rows : ℕ) : Type 0 where
  pub retired : tally.retired + more < 2 ^ 64
  pub places : all_places tally.places + 264 < 2 ^ 64
  pub dispatches : tally.dispatches.cycles + more < 2 ^ 64
  pub stays : all_stays tally.stays + rows < 2 ^ 64
  pub awaited : sum tally.awaited.words + 1 < 2 ^ 64
  pub exceptions : IsCountable tally.exceptions
  pub interrupts : AreCountable tally.interrupts
  pub left : CanAdd tally.work tally.loads tally.branches tally.mispredicted tally.outcomes rows
  pub drains : tally.drains.all + 1 < 2 ^ 64
  pub hits : tally.drains.quick + 1 < 2 ^ 64
  pub stores : CanCountStore tally.stores
  pub heads : sum tally.heads.words + 1 < 2 ^ 64
  pub idle : tally.idle + 1 < 2 ^ 64
