-- What is counted of a run for a comparison: nothing yet, one cycle more, and the end.
use Rattle.std.proofs.Common.{◌≡◌, ◌∙◌, ℕ, ◌+◌, ◌^◌, ◌≤◌, ◌<◌, ◌*◌, Bool, true, false, List, [], ◌∷◌, ◌++◌, length, sym}
use Rattle.std.proofs.Common.{ap, arith, length-append, Option, Some, None}
use Rattle.std.specs.Prelude.{if◌then◌else◌}
use Rattle.std.proofs.lemmas.List.Sums.{count_by-le-length}
use Rattle.rv_isa.specs.declared.{lines.Arrival.Arrival, values.Values.Values}
use Rattle.rv_arch.specs.declared.outcome.Stop.{Stop}
use Rattle.rv_watch.specs.Progress.{progress_of}
use Rattle.rv_watch.specs.Watching.{IsShown, Watched, watched, with_shown}
use Rattle.rv_watch.specs.declared.progress.Progress.{Progress}
use Rattle.rv_watch.proofs.Shown.{cycle_counts, shown_steps-push}
use Rattle.rv_hardware.specs.Draining.{drain_end, new_drain_cost}
use Rattle.rv_hardware.specs.Guided.{GuidedHardware}
use Rattle.rv_hardware.specs.Hardware.{Hardware}
use Rattle.rv_hardware.specs.History.{History, Moment, cycled, ended, reports_of}
use Rattle.rv_hardware.specs.Run.{IsStop, Reachable, steps_of}
use Rattle.rv_hardware.specs.declared.step.Step.{Step}
use Rattle.rv_report.specs.Comparison.{RunsTo}
use Rattle.rv_report.specs.Events.{AreAtMost, both_events, counted_after, events_between, events_by}
use Rattle.rv_report.specs.Events.{events_in, events_of_drain, events_of_steps, events_so_far, no_events}
use Rattle.rv_report.specs.Speculation.{Speculated, in_flight, speculated_after, speculated_at, speculated_in}
use Rattle.rv_report.specs.Tally.{IsTallied, losses_with}
use Rattle.rv_report.specs.Totals.{both_counts, counts_of, totals_with}
use Rattle.rv_report.specs.Shown.{places_shown, words_of}
use Rattle.rv_report.specs.declared.shown.{Columns.Columns, TableOptions.TableOptions}
use Rattle.rv_report.specs.declared.{events.EventCounter.EventCounter, events.Events.Events}
use Rattle.rv_report.specs.declared.{losses.Losses.Losses, totals.StepCounts.StepCounts, totals.Totals.Totals}
use Rattle.rv_counts.specs.Places.{AddUp, AreLostFor}
use Rattle.rv_counts.specs.declared.{loads.LoadCosts.LoadCosts, run_places.RunPlaces.RunPlaces}
use Rattle.rv_report.proofs.LiveReport.{counts_of-append}
use Rattle.rv_report.proofs.Passed.{losses-passed}
use Rattle.rv_report.proofs.Speculated.{speculated-push}

abbrev sum_with : Events → Events → Events → Type 0
sum_with a b c = both_events (both_events a b) c ≡ both_events a (both_events b c)

both-nothing : (a : Events) → both_events a no_events ≡ both_events no_events a
both-nothing a = grind arith

-- what one more cycle did
events-push : {arrivals : List Arrival} {old now : GuidedHardware} {moments : List Moment} (values : Values)
    (last : Moment) → History arrivals old moments now
    → events_in values old.hardware (moments ++ last ∷ [])
    ≡ both_events (events_in values old.hardware moments) (events_between values now.hardware last)
events-push {old = old} values last ended = both-nothing (events_between values old.hardware last)
events-push {old = old} {now = now} values last (cycled {moment = moment} {moments = moments} first rest) =
    grind (arith, events-push values last rest)

one-or-none : (b : Bool) → (if b then 1 else 0) ≤ 1
one-or-none true = omega arith
one-or-none false = omega arith

none-or-one : (b : Bool) → (if b then 0 else 1) ≤ 1
none-or-one true = omega arith
none-or-one false = omega arith

pub steps-few : (costs : LoadCosts) (steps : List Step) → AreAtMost (length steps) (events_of_steps costs steps)
steps-few costs steps = grind (arith, count_by-le-length)

pub drain-few : (costs : LoadCosts) (cost : Option ℕ) → AreAtMost 1 (events_of_drain costs cost)
drain-few costs None = grind arith
drain-few costs (Some cost) = grind (arith, one-or-none, none-or-one)

pub both-few : (some others : Events) (most more : ℕ) → AreAtMost most some → AreAtMost more others →
    AreAtMost (most + more) (both_events some others)
both-few some others most more few few' = grind arith

pub few-below : (events : Events) (most more : ℕ) → AreAtMost most events → most ≤ more → AreAtMost more events
few-below events most more few below = grind arith

cycle-few : (costs : LoadCosts) (cycle : ℕ) (steps : List Step) (before after : Option ℕ) →
    AreAtMost (length steps + 1) (events_by costs cycle steps before after)
cycle-few costs cycle steps before after =
    both-few (events_of_steps costs steps) (events_of_drain costs (new_drain_cost cycle before after)) (length steps) 1
    (steps-few costs steps)
    (drain-few costs (new_drain_cost cycle before after))

-- no cycle yet
pub tallied_nothing : (arrivals : List Arrival) (h : GuidedHardware) (counts : StepCounts) (s : Speculated)
    (events : EventCounter) → counts ≡ counts_of [] → s ≡ speculated_at h.hardware → s.fetched ≤ 288
    → events ≡ events_so_far h.hardware.values (drain_end h.hardware) no_events →
    IsTallied counts s events (watched arrivals h [] h)
tallied_nothing arrivals h counts s events none begun few happened = grind arith

module _ {seen : Watched} {cycle : ℕ} {steps : List Step} {after : Hardware} {progress : Progress}
    (shown : IsShown seen cycle steps after progress)
    {counts : StepCounts} {s : Speculated} {events : EventCounter} (tallied : IsTallied counts s events seen) where
  moment : Moment
  moment = record { report = shown.report; after = after }

  one_more : after.cycle ≡ seen.now.hardware.cycle + 1
  one_more = cycle_counts shown.cycled

  all_steps : steps_of (reports_of (with_shown seen shown).moments) ≡ steps_of (reports_of seen.moments) ++ steps
  all_steps = shown_steps-push seen.moments _ ∙ ap (λ l. steps_of (reports_of seen.moments) ++ l) (sym shown.steps_are)

  speculated_now : (s' : Speculated) → s' ≡ speculated_after cycle steps after.rob after.front after.pc s →
      s' ≡ speculated_in (speculated_at seen.first.hardware) (with_shown seen shown).moments
  speculated_now s' is = grind (arith, speculated-push)

  happened_now : (events' : EventCounter) → events' ≡ counted_after cycle steps (drain_end after) events
      → events' ≡ events_so_far seen.first.hardware.values (drain_end after)
      (events_in seen.first.hardware.values seen.first.hardware (with_shown seen shown).moments)
  happened_now events' is =
      is ∙ (λ i. counted_after (shown.number i) (shown.steps_are i) (drain_end after) (tallied.happened i))
      ∙ ap (events_so_far seen.first.hardware.values (drain_end after))
      (sym (events-push seen.first.hardware.values (record { report = shown.report; after = after }) shown.passes))

  -- one more cycle
  pub tallied_on : (counts' : StepCounts) (s' : Speculated) (events' : EventCounter) →
      counts' ≡ both_counts counts (counts_of steps) →
      s' ≡ speculated_after cycle steps after.rob after.front after.pc s
      → events' ≡ counted_after cycle steps (drain_end after) events → s'.fetched ≤ s.fetched + 32 →
      s'.mispredicted ≤ s.mispredicted + 8 → IsTallied counts' s' events' (with_shown seen shown)
  tallied_on counts' s' events' counted speculated happened fetched mispredicted = record {
    counted =
        counted ∙ ap (λ c. both_counts c (counts_of steps)) tallied.counted
        ∙ sym (ap counts_of all_steps ∙ counts_of-append (steps_of (reports_of seen.moments)) steps);
    speculated = speculated_now s' speculated;
    happened = happened_now events' happened;
    fetched = omega (arith, fetched, tallied.fetched, one_more);
    mispredicted = omega (arith, mispredicted, tallied.mispredicted, one_more);
    events_few = rw happened
        (few-below (both_events events.counts (events_by events.costs cycle steps events.drain_end (drain_end after)))
        (9 * seen.now.hardware.cycle + (length steps + 1)) (9 * after.cycle)
        (both-few events.counts (events_by events.costs cycle steps events.drain_end (drain_end after))
        (9 * seen.now.hardware.cycle) (length steps + 1)
        tallied.events_few (cycle-few events.costs cycle steps events.drain_end (drain_end after)))
        (omega (arith, shown.few, one_more)));
    steps_few = omega (
      arith,
      ap length all_steps,
      length-append (steps_of (reports_of seen.moments)) steps,
      shown.few,
      tallied.steps_few,
      one_more,
    );
  }

module _ {arrivals : List Arrival} {old new : GuidedHardware} {moments : List
    Moment} {counts : StepCounts} {s : Speculated} {events : EventCounter}
    (tallied : IsTallied counts s events (watched arrivals old moments new)) where
  -- what ended can be counted together with what is in flight
  pub room_at_end : (left : ℕ) → left ≤ 288 → new.hardware.cycle ≤ 2 ^ 40 →
      counts.retired + counts.traps + left < 2 ^ 64
  room_at_end left few within = grind (arith, count_by-le-length)

  -- what a run came to that ended
  pub tallied_to_the_end : {progress : Progress} {stop : Stop} {totals : Totals} {losses : Losses} {did : Events}
      {words : Columns (Option ℕ)} {places : Option RunPlaces} (options : TableOptions) (left : ℕ) →
      Reachable old.hardware → new.hardware.cycle ≤ 2 ^ 40 → History arrivals old moments new →
      progress ≡ progress_of (reports_of moments)
      → IsStop options.limit (reports_of moments) new.hardware stop → totals ≡ totals_with progress counts stop →
      left ≡ in_flight new.hardware.rob new.hardware.front → losses ≡ losses_with s counts left →
      did ≡ events.counts → words ≡ words_of options.shown new.hardware
      → places ≡ places_shown options.shown old.hardware moments new.hardware →
      AddUp old.hardware moments new.hardware → AreLostFor arrivals old.hardware moments
      → RunsTo arrivals options old (record {
        totals = totals;
        losses = losses;
        events = did;
        words = words;
        places = places;
      })
  tallied_to_the_end {stop = stop} options left reached within passes counted stops totals_are left_is
      losses_are did_are words_are
      places_are add_up lost_for = rw totals_are (record {
        moments = moments;
        new = new;
        cycles = passes;
        stops = stops;
        totals_are = λ i. totals_with (counted i) (tallied.counted i) stop;
        losses_are = losses_are ∙ (λ i. losses_with (tallied.speculated i) (tallied.counted i) (left_is i))
            ∙ losses-passed reached passes within;
        words_are = words_are;
        events_are = did_are ∙ ap (λ (e : EventCounter). e.counts) tallied.happened;
        places_are = places_are;
        places_add_up = add_up;
        places_are_lost_for = lost_for;
      })
