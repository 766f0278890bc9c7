-- What is kept of a run, with one cycle more.
use Rattle.std.proofs.Common.{◌≡◌, ◌∙◌, ℕ, ◌+◌, ◌*◌, ◌^◌, ◌≤◌, ◌==◌, List, [], ◌∷◌, ◌++◌, length, count_by, filter}
use Rattle.std.proofs.Common.{Option, Some, None, cond, refl, sym, ap, arith, append-nil}
use Rattle.std.specs.Prelude.{is_some}
use Rattle.std.specs.List.{cons_option, filter_map}
use Rattle.std.specs.Option.{option_to_list}
use Rattle.std.proofs.lemmas.List.Elements.{filter_map-append}
use Rattle.std.proofs.lemmas.List.Sums.{count_by-le-length, sum_by-append}
use Rattle.rv_isa.specs.declared.lines.Arrival.{Arrival}
use Rattle.rv_isa.specs.declared.values.Values.{Values}
use Rattle.rv_watch.proofs.Shown.{shown_steps-push}
use Rattle.rv_hardware.specs.Guided.{GuidedHardware}
use Rattle.rv_hardware.specs.Hardware.{Hardware}
use Rattle.rv_hardware.specs.Run.{steps_of}
use Rattle.rv_hardware.specs.Step.{is_retirement}
use Rattle.rv_hardware.specs.declared.step.Step.{Step}
use Rattle.rv_passage.specs.Passage.{is_squash}
use Rattle.rv_passage.specs.Prediction.{is_mispredicted}
use Rattle.rv_passage.specs.Table.{still_open}
use Rattle.rv_passage.specs.declared.passage.Passage.{Passage}
use Rattle.rv_passage.proofs.Walk.{last_cycle}
use Rattle.rv_counts.specs.Load.{costs_of, is_hit}
use Rattle.rv_counts.specs.Passing.{has_left}
use Rattle.rv_sentences.specs.Dispatch.{dispatched_after, dispatched_with, none_dispatched, with_cycle}
use Rattle.rv_sentences.specs.Drain.{drain_in, drains_by, drains_of}
use Rattle.rv_sentences.specs.Exception.{exception_of_cycle, exceptions_of}
use Rattle.rv_sentences.specs.Head.{accounts_of, is_idle, itself}
use Rattle.rv_hardware.specs.History.{History, Moment, reports_of}
use Rattle.rv_sentences.specs.Interrupt.{by_line, interruption_of_cycle, interruptions_of, interrupts_after}
use Rattle.rv_sentences.specs.Kinds.{kept_after, kept_of}
use Rattle.rv_sentences.specs.LastStore.{last_store_to, stores_in, stores_of}
use Rattle.rv_sentences.specs.Load.{retired_load_cost}
use Rattle.rv_explain.specs.Tally.{HasRoom, tally_after, tally_of}
use Rattle.rv_explain.proofs.LastBefore.{last_before-push}
use Rattle.rv_counts.specs.Places.{all_places, places_in, places_of}
use Rattle.rv_sentences.specs.Stay.{all_stays, awaited_of, no_stays, stays_of, with_stays}
use Rattle.rv_sentences.specs.WordCount.{count_at}
use Rattle.rv_sentences.specs.WordNotes.{notes_of}
use Rattle.rv_sentences.specs.Work.{is_retired_branch, word_in}
use Rattle.rv_sentences.specs.declared.{dispatches.Dispatches.Dispatches, exception.Exception.Exception}
use Rattle.rv_sentences.specs.declared.{interruption.Interruption.Interruption}
use Rattle.rv_sentences.specs.declared.work.Class.{Class}
use Rattle.rv_sentences.specs.declared.work.Class.TheVariants.{Branch, Mispredicted}
use Rattle.rv_counts.proofs.Mispredicted.{mispredicted-all}
use Rattle.rv_sentences.proofs.DrainCounts.{drains_by-append, drains_of-le, drains_of-push}
use Rattle.rv_sentences.proofs.DrainsGrow.{can_count_store, store_counts-push, waiting-push}
use Rattle.rv_sentences.proofs.CountSums.{counted_within}
use Rattle.rv_sentences.proofs.CountsGrow.{with_all_at}
use Rattle.rv_sentences.proofs.LastStores.{stores_of-push, with_stores_of}
use Rattle.rv_sentences.proofs.InterruptsGrow.{by_line-push, lines_counted}
use Rattle.rv_sentences.proofs.KindsGrow.{kept-push, kept_counted}
use Rattle.rv_sentences.proofs.OutcomesGrow.{can_take, outcomes-left}
use Rattle.rv_counts.proofs.PlacesGrow.{places_of-push}
use Rattle.rv_sentences.proofs.AccountsGrow.{flusher-push, heads-push, idle-push, length-accounts}
use Rattle.rv_sentences.proofs.RaisedGrows.{raised-push}
use Rattle.rv_sentences.proofs.StaysGrow.{awaited-push, length-awaited, stays-push}
use Rattle.rv_sentences.proofs.Works.{branch_words-left, loads-left, mispredicted_words-left, work-left}

kept_after-push : (es : List Exception) (o : Option Exception) → kept_after o (kept_of es)
    ≡ kept_of (es ++ cons_option o [])
kept_after-push es None = sym (ap kept_of (append-nil es))
kept_after-push es (Some e) = kept-push e es

exceptions-push : (moments : List Moment) (moment : Moment) →
    kept_after (exception_of_cycle moment) (kept_of (exceptions_of moments))
    ≡ kept_of (exceptions_of (moments ++ moment ∷ []))
exceptions-push moments moment = grind (arith, kept_after-push, filter_map-append)

interrupts_after-push : (is : List Interruption) (o : Option Interruption) → interrupts_after o (by_line is)
    ≡ by_line (is ++ cons_option o [])
interrupts_after-push is None = sym (ap by_line (append-nil is))
interrupts_after-push is (Some i) = sym (by_line-push is i)

interrupts-push : (moments : List Moment) (moment : Moment) →
    interrupts_after (interruption_of_cycle moment) (by_line (interruptions_of moments))
    ≡ by_line (interruptions_of (moments ++ moment ∷ []))
interrupts-push moments moment = grind (arith, interrupts_after-push, filter_map-append)

cons_option-le : {Y : Type 0} (o : Option Y) (ys : List Y) → length (cons_option o ys) ≤ length ys + 1
cons_option-le None ys = omega arith
cons_option-le (Some y) ys = omega arith

-- a cycle gives one at most
length-filter_map : {X Y : Type 0} (h : X → Option Y) (xs : List X) → length (filter_map h xs) ≤ length xs
length-filter_map h [] = omega arith
length-filter_map h (x ∷ xs) = omega (arith, cons_option-le (h x) (filter_map h xs), length-filter_map h xs)

dispatched_after-append : (some more : List Step) (d : Dispatches) →
    dispatched_after (some ++ more) d ≡ dispatched_after more (dispatched_after some d)
dispatched_after-append [] more d = refl
dispatched_after-append (step ∷ some) more d = dispatched_after-append some more (dispatched_with step d)

-- a step brings one cycle at most
with_cycle-le : (cycle : ℕ) (d : Dispatches) → (with_cycle cycle d).cycles ≤ d.cycles + 1
with_cycle-le cycle d = grind arith

dispatched_with-le : (step : Step) (d : Dispatches) → (dispatched_with step d).cycles ≤ d.cycles + 1
dispatched_with-le step d = grind (arith, with_cycle-le)

dispatched_after-le : (steps : List Step) (d : Dispatches) → (dispatched_after steps d).cycles ≤ d.cycles + length steps
dispatched_after-le [] d = omega arith
dispatched_after-le (step ∷ steps) d =
    omega (arith, dispatched_with-le step d, dispatched_after-le steps (dispatched_with step d))

module _ (values : Values) where
  -- one more cycle
  pub tally-push : {arrivals : List Arrival} {old now : GuidedHardware} {moments : List Moment} (moment : Moment)
      (rows left : List Passage) (passes : History arrivals old moments now)
      → rows ≡ (last_cycle still_open passes moment).passages.rows
      → tally_after now.hardware.cycle now.hardware.registers moment.report.steps (places_in now.hardware moment)
      (drain_in arrivals now.hardware) moment.after.lines moment.after rows
      (tally_of values arrivals old.hardware moments left)
      ≡ tally_of values arrivals old.hardware (moments ++ moment ∷ []) (filter has_left rows ++ left)
  tally-push {arrivals = arrivals} {old = old} {now = now} {moments = moments} moment rows left passes rows_are =
      let steps = shown_steps-push moments moment in
      let so_far = steps_of (reports_of moments) in
      let now_left = filter has_left rows in
      let hit = values.cache.hit in
      let drained = drains_of arrivals old.hardware moments in
      let old_at = λ (class : Class). count_at (word_in class) left in
      let new_at = λ (class : Class). count_at (word_in class) (now_left ++ left) in
      let exceptions = exceptions-push moments moment in
      let last_before = last_before-push None moments moment in
      let interrupts = interrupts-push moments moment in
      let stores =
      with_stores_of values (stores_in now.hardware.registers moment.report.steps) (stores_of old.hardware moments) in
      let stored = sym (stores_of-push moment passes) in
      let retired =
      sym (ap (count_by is_retirement) steps
      ∙ sum_by-append (λ (step : Step). cond (is_retirement step) 1 0) so_far moment.report.steps) in
      let raised = sym (raised-push moment passes) in
      let places = sym (places_of-push moment passes) in
      let dispatches =
      sym (ap (λ (all : List Step). dispatched_after all none_dispatched) steps
      ∙ dispatched_after-append so_far moment.report.steps none_dispatched) in
      let stays = stays-push moment passes rows_are in
      let awaited = awaited-push moment passes rows_are values in
      let work = work-left now_left left in
      let loads = loads-left (costs_of values) rows left in
      let outcomes = outcomes-left values (costs_of values) now_left left in
      let drains =
      sym (ap (drains_by hit) (drains_of-push moment passes)
      ∙ drains_by-append hit drained (option_to_list (drain_in arrivals now.hardware))) in
      let last_stores = stores ∙ (λ i. notes_of values (last_store_to (stored i))) in
      let heads = heads-push moment passes rows_are values in
      let idle = idle-push moment passes rows_are in
      let flusher = flusher-push moment passes rows_are in
      let waiting = waiting-push moment passes in
      let stores_drained = store_counts-push moment passes values (costs_of values) in
      let branches =
      with_all_at values (word_in Branch) rows (old_at Branch) (new_at Branch) (branch_words-left rows left) in
      let mispredicted =
      with_all_at values (word_in Mispredicted) rows (old_at Mispredicted) (new_at Mispredicted)
      (mispredicted_words-left rows left) in
      λ i. record {
        retired = retired i;
        exceptions = exceptions i;
        last_before = last_before i;
        interrupts = interrupts i;
        raised = raised i;
        places = places i;
        dispatches = dispatches i;
        stays = stays i;
        awaited = awaited i;
        work = work i;
        costs = costs_of values;
        loads = loads i;
        drains = drains i;
        last_stores = last_stores i;
        heads = heads i;
        idle = idle i;
        flusher = flusher i;
        branches = branches i;
        mispredicted = mispredicted i;
        outcomes = outcomes i;
        waiting = waiting i;
        stores = stores_drained i;
      }

  -- the steps of one more cycle can be counted
  pub has_room : (arrivals : List Arrival) (h : Hardware) (moments : List Moment) (left : List Passage)
      (more rows : ℕ) → length (steps_of (reports_of moments)) ≤ 8 * 2 ^ 40 → length moments ≤ 2 ^ 40
      → all_places (places_of h moments) ≤ 8 * 2 ^ 40 + 256 → length left ≤ 576 * 2 ^ 40 → more ≤ 8 → rows ≤ 576 →
      all_stays (with_stays (stays_of h moments) no_stays) ≤ 576 * 2 ^ 40
      → HasRoom (tally_of values arrivals h moments left) more rows
  has_room arrivals h moments left more rows few within placed fewer little some few_stays = record {
    dispatches = omega (arith, dispatched_after-le (steps_of (reports_of moments)) none_dispatched, few, little);
    stays = omega (arith, few_stays, some);
    awaited = omega (arith, counted_within itself values (awaited_of h moments), length-awaited h moments, within);
    places = omega (arith, placed);
    retired = omega (arith, count_by-le-length is_retirement (steps_of (reports_of moments)), few, little);
    exceptions = kept_counted (exceptions_of moments)
        (omega (arith, length-filter_map exception_of_cycle moments, within));
    interrupts = lines_counted (interruptions_of moments)
        (omega (arith, length-filter_map interruption_of_cycle moments, within));
    left = record {
      left = omega (arith, fewer, some);
      squashed = omega (arith, count_by-le-length (λ (p : Passage). is_squash p.ending) left, fewer, some);
      branches = omega (arith, count_by-le-length is_retired_branch left, fewer, some);
      mispredicted = omega (arith, mispredicted-all left, count_by-le-length is_mispredicted left, fewer, some);
      loads = omega (arith, count_by-le-length (λ p. is_some (retired_load_cost p)) left, fewer, some);
      quick = omega (arith, count_by-le-length (λ p. is_hit (costs_of values) (retired_load_cost p)) left, fewer, some);
      branch_words = omega (arith, counted_within (word_in Branch) values left, fewer, some);
      mispredicted_words = omega (arith, counted_within (word_in Mispredicted) values left, fewer, some);
      outcomes = can_take values (costs_of values) left rows (omega (arith, fewer, some));
    };
    drains = omega (arith, drains_of-le arrivals h moments, within);
    hits =
        omega (
          arith,
          drains_of-le arrivals h moments,
          count_by-le-length (λ (cost : ℕ). cost == values.cache.hit)
              (drains_of arrivals h moments),
          within,
        );
    stores = can_count_store values (costs_of values) arrivals h moments within;
    heads = omega (arith, counted_within itself values (accounts_of h moments), length-accounts h moments, within);
    idle = omega (arith, count_by-le-length is_idle (accounts_of h moments), length-accounts h moments, within);
  }
