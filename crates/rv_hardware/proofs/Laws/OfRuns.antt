-- The laws hold of every run of the hardware, on hardware that was just reset and on hardware that has run.
use Rattle.rv_hardware.proofs.Words.{◌≡◌, ℕ, suc, ◌+◌, ◌<◌, ◌≤◌, Bool, true, List, [], ◌∷◌, ◌++◌, IfSome, ◌==◌, Some}
use Rattle.rv_hardware.proofs.Words.{None, All, count_by, Option, AllPairs, sym, refl, ap, ◌∙◌, subst, append_assoc}
use Rattle.rv_hardware.proofs.Words.{append-nil, arith, All-weaker, at_kind, Arrival, Values, Each, Hardware}
use Rattle.rv_hardware.proofs.Words.{AreApartAtPort, DoesNotWait, EachProducer, HasCost, HasOrderedStamps}
use Rattle.rv_hardware.proofs.Words.{IsBroadcastFirst, IsFetchedAhead, IsFetchedSince, IsKnownBefore, IsNextWord}
use Rattle.rv_hardware.proofs.Words.{FencesAfterStore, IsTrappedSoon, IssuesWithOperands, Laws, LoadsAfterStore, Report}
use Rattle.rv_hardware.proofs.Words.{Cycles, Reachable, cycled, ended, steps_of, EachAfter, EachNext, flushes}
use Rattle.rv_hardware.proofs.Words.{is_broadcast_in, is_buffered_in, is_dispatched_in, is_executing_in, is_fetched_in}
use Rattle.rv_hardware.proofs.Words.{is_in_flight_in, is_issued_in, is_queued_in, is_stationed_in, producer_among}
use Rattle.rv_hardware.proofs.Words.{rows_of, is_interrupt, stamp_of, Execution, Row, Step, All-Each, All-right}
use Rattle.rv_hardware.proofs.Words.{Each-append, Each-right, Each-weaker, Each-both, count-count_by, count-append}
use Rattle.rv_hardware.proofs.Laws.HeadsDoNotWait.{law_of_heads_do_not_wait}
use Rattle.rv_hardware.proofs.Laws.FetchedAhead.{law_of_fetched_ahead}
use Rattle.rv_hardware.proofs.Laws.TrapsSoon.{law_of_traps_soon}
use Rattle.rv_hardware.proofs.Laws.FirstRow.{law_of_first_row}
use Rattle.rv_hardware.proofs.Marks.Cited.{History, went_on, reachable_has_history, history_is_sound, history_is_legal}
use Rattle.rv_hardware.proofs.Marks.Cited.{last_from-append}
use Rattle.rv_hardware.proofs.Laws.OfCycles.{passes_here}
use Rattle.rv_hardware.proofs.Laws.RunsOn.{RunsOn, rows_of_all, row_of_all, last_stays}
use Rattle.rv_hardware.proofs.Laws.Within.{law_of_within}
use Rattle.rv_hardware.proofs.Laws.NoIdleBus.{law_of_no_idle_bus}
use Rattle.rv_hardware.proofs.Laws.NoIdleDispatch.{law_of_no_idle_dispatch}
use Rattle.rv_hardware.proofs.Laws.NoIdleFetch.{law_of_no_idle_fetch}
use Rattle.rv_hardware.proofs.Laws.NoIdleUnit.{law_of_no_idle_unit}
use Rattle.rv_hardware.proofs.Laws.OldestResultFirst.{law_of_oldest_result_first}
use Rattle.rv_hardware.proofs.Laws.LoadsAfterStores.{law_of_loads_after_stores}
use Rattle.rv_hardware.proofs.Laws.FencesAfterStores.{law_of_fences_after_stores}
use Rattle.rv_hardware.proofs.Laws.Operands.{law_of_operands}
use Rattle.rv_hardware.proofs.Laws.Port.{law_of_port}
use Rattle.rv_hardware.proofs.Laws.StampsInOrder.{law_of_stamps_in_order}
use Rattle.rv_hardware.proofs.Laws.Costs.{law_of_costs}
use Rattle.rv_hardware.proofs.Laws.FetchedInOrder.{law_of_fetched_in_order}
use Rattle.rv_hardware.proofs.Laws.DispatchedInOrder.{law_of_dispatched_in_order}
use Rattle.rv_hardware.proofs.Laws.ReorderBuffer.{law_of_reorder_buffer}
use Rattle.rv_hardware.proofs.Laws.Stations.{law_of_stations}
use Rattle.rv_hardware.proofs.Laws.StepsInOrder.{law_of_steps_in_order}
use Rattle.rv_hardware.proofs.Laws.CommitWidth.{law_of_commit_width}
use Rattle.rv_hardware.proofs.Laws.InterruptsAlone.{law_of_interrupts_alone}
use Rattle.rv_hardware.proofs.Laws.FlushesEndTheCycle.{law_of_flushes_end_the_cycle}
use Rattle.rv_hardware.proofs.Laws.FetchedAnew.{law_of_fetched_anew}
use Rattle.rv_hardware.proofs.Laws.StepsInOrder.Steps.{history_has_steps, steps_of_cycle}
use Rattle.rv_hardware.proofs.Laws.StoreQueue.{law_of_store_queue}
use Rattle.rv_hardware.proofs.Laws.PipelinedUnits.{law_of_pipelined_units}
use Rattle.rv_hardware.proofs.Laws.OtherUnits.{law_of_other_units}
use Rattle.rv_hardware.proofs.Laws.FetchWidth.{law_of_fetch_width}
use Rattle.rv_hardware.proofs.Laws.FetchBuffer.{law_of_fetch_buffer}
use Rattle.rv_hardware.proofs.Laws.DispatchWidth.{law_of_dispatch_width}
use Rattle.rv_hardware.proofs.Laws.FetchedTogether.{law_of_fetched_together}
use Rattle.rv_hardware.proofs.Laws.BusWidth.{law_of_bus_width}

-- a history goes on by the cycles of a run
pub history_runs : {v : Values} {arrivals : List Arrival} {steps : List Step} {old new : Hardware}
    {reports : List Report} →
    Cycles arrivals old reports new → History v steps old → History v (steps ++ steps_of reports) new
history_runs {steps} ended h = rw (append-nil steps) h
history_runs {v} {steps} (cycled {report = report} {reports = reports} is rest) h =
    rw (← append_assoc steps report.steps (steps_of reports)) (history_runs rest (went_on h is))

-- the steps of a run are of its cycles
pub since_by : {v : Values} {arrivals : List Arrival} (b : ℕ) {steps : List Step} {old new : Hardware}
    {reports : List Report} →
    Cycles arrivals old reports new → History v steps old → b ≤ old.cycle →
    Each (λ s. b ≤ stamp_of s) (steps_of reports)
since_by b ended h le = tt
since_by {v} b {steps} (cycled {old = old} {middle = middle} {report = report} {reports = reports} is rest) h le =
    let passed = passes_here v h is in
    let next : middle.cycle ≡ old.cycle + 1 = ap (λ (g : Hardware). g.cycle) passed.others_stay in
    Each-append (λ s. b ≤ stamp_of s) report.steps (steps_of reports)
    (Each-weaker (λ s. stamp_of s ≡ old.cycle) (λ s. b ≤ stamp_of s) (λ s at. omega (arith, at, le)) report.steps
    (steps_of_cycle v (history_is_legal h) steps old middle _ report (history_is_sound h) (history_has_steps h) is))
    (since_by b rest (went_on h is) (omega (arith, next, le)))

-- the last part of a list

AllPairs-last : {X : Type 0} (R : X → X → Type 0) (xs ys : List X) → AllPairs R (xs ++ ys) → AllPairs R ys
AllPairs-last R [] ys h = h
AllPairs-last R (x ∷ xs) ys h =
    AllPairs-last R xs ys (λ i j d lt within. h (suc i) (suc j) d (omega arith) (omega arith))

EachNext-last : {X : Type 0} (R : X → X → Type 0) (xs ys : List X) → EachNext R (xs ++ ys) → EachNext R ys
EachNext-last R xs ys h before after x y at =
    h (xs ++ before) after x y (ap (λ l. xs ++ l) at ∙ sym (append_assoc xs before (x ∷ y ∷ after)))

-- no step is of a cycle below 0
none_below_zero : (steps : List Step) {n : ℕ} → n ≡ 0 → Each (λ s. stamp_of s < n) steps → steps ≡ []
none_below_zero [] none below = refl
none_below_zero (s ∷ steps) none below = absurd (omega (arith, none, below.0))

count_by-last : {X : Type 0} (p : X → Bool) (xs ys : List X) (n : ℕ) → count_by p (xs ++ ys) ≤ n → count_by p ys ≤ n
count_by-last p xs ys n le =
    let all = count-append p xs ys in
    let whole = count-count_by p (xs ++ ys) in
    let part = count-count_by p ys in
    omega (arith, le, all, whole, part)

producer_of_all : (P : Row → Type 0) (first before : List Row) (source : Option ℕ) →
    IfSome (producer_among (first ++ before) source) P → IfSome (producer_among before source) P
producer_of_all P first before source h = grind (arith, last_stays, last_from-append)

module _ {v : Values} {earlier steps : List Step} {old new : Hardware} (run : RunsOn v earlier steps old new) where
  rows_all : (P : Row → Type 0) → All P (rows_of (earlier ++ steps)) → All P (rows_of steps)
  rows_all P h = All-right P _ _ (rw (rows_of_all run) at h)

  rows_pairs : (R : Row → Row → Type 0) → AllPairs R (rows_of (earlier ++ steps)) → AllPairs R (rows_of steps)
  rows_pairs R h = AllPairs-last R (rows_of earlier) (rows_of steps) (rw (rows_of_all run) at h)

  rows_count : (p : Row → Bool) (n : ℕ) → count_by p (rows_of (earlier ++ steps)) ≤ n → count_by p (rows_of steps) ≤ n
  rows_count p n h =
      count_by-last p (rows_of earlier) (rows_of steps) n (subst (λ l. count_by p l ≤ n) (rows_of_all run) h)

  operands_of_run : EachAfter IssuesWithOperands (rows_of steps)
  operands_of_run before after row at =
      by_execution row.execution
      (law_of_operands run.all (rows_of earlier ++ before) after row (row_of_all run before after row at))
    where
      by_execution : (o : Option Execution) →
          IfSome o (λ x. EachProducer (IsKnownBefore row x) (rows_of earlier ++ before) row) →
          IfSome o (λ x. EachProducer (IsKnownBefore row x) before row)
      by_execution None h = tt
      by_execution (Some x) h =
          All-weaker _ _ (λ source k. producer_of_all (IsKnownBefore row x) (rows_of earlier) before source k) _ h

  pub laws_of_steps : Laws v old.cycle new.cycle steps
  laws_of_steps = record {
    within = All-Each (λ step. (old.cycle ≤ stamp_of step) × (stamp_of step < new.cycle)) steps
        (Each-both (λ s. old.cycle ≤ stamp_of s) (λ s le lt. (le, lt)) steps run.since
        (Each-right (λ s. stamp_of s < new.cycle) earlier steps (law_of_within run.all)));
    stamps_in_order = rows_all HasOrderedStamps (law_of_stamps_in_order run.all);
    costs = rows_all (HasCost v) (law_of_costs run.all);
    steps_in_order = AllPairs-last (λ a b. stamp_of a ≤ stamp_of b) earlier steps (law_of_steps_in_order run.all);
    commit_width =
        λ c. count_by-last (λ step. stamp_of step == c) earlier steps v.commit_width (law_of_commit_width run.all c);
    interrupts_alone =
        AllPairs-last (λ a b. is_interrupt b ≡ true → stamp_of a < stamp_of b) earlier steps
        (law_of_interrupts_alone run.all);
    flushes_end_the_cycle =
        AllPairs-last (λ a b. flushes a ≡ true → stamp_of a < stamp_of b) earlier steps
        (law_of_flushes_end_the_cycle run.all);
    heads_do_not_wait =
        EachNext-last (λ a b. DoesNotWait (stamp_of a) b) earlier steps (law_of_heads_do_not_wait run.all);
    traps_soon = EachNext-last (λ a b. IsTrappedSoon (stamp_of a) b) earlier steps (law_of_traps_soon run.all);
    fetched_ahead = EachNext-last (λ a b. IsFetchedAhead (stamp_of a) b) earlier steps (law_of_fetched_ahead run.all);
    first_row = λ new_core row rest at.
        law_of_first_row run.all row rest
        (ap (λ l. l ++ steps) (none_below_zero earlier new_core (law_of_within run.before)) ∙ at);
    fetched_in_order = rows_pairs (λ a b. a.fetched ≤ b.fetched) (law_of_fetched_in_order run.all);
    dispatched_in_order = rows_pairs (λ a b. a.dispatched ≤ b.dispatched) (law_of_dispatched_in_order run.all);
    fetch_width = λ c. rows_count (is_fetched_in c) v.fetch_width (law_of_fetch_width run.all c);
    dispatch_width = λ c. rows_count (is_dispatched_in c) v.dispatch_width (law_of_dispatch_width run.all c);
    fetched_together =
        EachNext-last IsNextWord (rows_of earlier) (rows_of steps)
        (subst (EachNext IsNextWord) (rows_of_all run) (law_of_fetched_together run.all));
    operands = operands_of_run;
    loads_after_stores = rows_pairs LoadsAfterStore (law_of_loads_after_stores run.all);
    fences_after_stores = rows_pairs (FencesAfterStore v.cache.hit) (law_of_fences_after_stores run.all);
    bus_width = λ c. rows_count (is_broadcast_in c) v.bus_width (law_of_bus_width run.all c);
    oldest_result_first = rows_pairs IsBroadcastFirst (law_of_oldest_result_first run.all);
    no_idle_bus = law_of_no_idle_bus run;
    reorder_buffer = λ c. rows_count (is_in_flight_in c) v.rob (law_of_reorder_buffer run.all c);
    fetch_buffer = λ c. rows_count (is_buffered_in c) v.fetch_buffer (law_of_fetch_buffer run.all c);
    stations =
        λ kind c. rows_count (is_stationed_in kind c) (at_kind kind v.kinds).stations (law_of_stations run.all kind c);
    store_queue = λ c. rows_count (is_queued_in v.cache.hit c) v.store_queue (law_of_store_queue run.all c);
    pipelined_units =
        λ kind is c.
        rows_count (is_issued_in kind c) (at_kind kind v.kinds).units (law_of_pipelined_units run.all kind is c);
    other_units = λ kind is c.
        rows_count (is_executing_in kind c) (at_kind kind v.kinds).units (law_of_other_units run.all kind is c);
    no_idle_unit = law_of_no_idle_unit run;
    port = rows_pairs (AreApartAtPort v.forward) (law_of_port run.all);
    fetched_anew =
        AllPairs-last (λ a b. flushes a ≡ true → IsFetchedSince a b) earlier steps (law_of_fetched_anew run.all);
    no_idle_fetch = law_of_no_idle_fetch run;
    no_idle_dispatch = law_of_no_idle_dispatch run;
  }

-- the laws hold of each run, on reset hardware and on hardware that has run
pub laws_of_runs : {arrivals : List Arrival} {old new : Hardware} {reports : List Report} → Reachable old →
    Cycles arrivals old reports new → Laws old.values old.cycle new.cycle (steps_of reports)
laws_of_runs {old = old} {new = new} {reports = reports} reached cycles =
    let before = reachable_has_history reached in
    let same : old.values ≡ before.0 = (history_is_sound before.2).always.sizes.values in
    let run : RunsOn before.0 before.1 (steps_of reports) old new = record {
      before = before.2;
      all = history_runs cycles before.2;
      since = since_by old.cycle cycles before.2 (omega arith);
    } in
    subst (λ v. Laws v old.cycle new.cycle (steps_of reports)) (sym same) (laws_of_steps run)
