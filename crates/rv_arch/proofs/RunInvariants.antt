-- What the loops of the runs keep, and how it goes on by a step.
use Rattle.std.proofs.Common.{◌≡◌, ℕ, ◌+◌, ◌<◌, ◌≤◌, Bool, true, false, List}
use Rattle.std.proofs.Common.{[], ◌∷◌, ◌++◌, length, refl, sym, ap, ◌∙◌, arith}
use Rattle.std.specs.Prelude.{if◌then◌else◌}
use Rattle.std.specs.List.{range_with_len, list_any}
use Rattle.std.proofs.lemmas.List.{length_push}
use Rattle.std.proofs.lemmas.List.Folds.{list_any-append}
use Rattle.rv_isa.specs.declared.lines.Arrival.{Arrival}
use Rattle.rv_isa.specs.declared.lines.Lines.{Lines}
use Rattle.rv_isa.specs.Arrivals.{lines_at}
use Rattle.rv_arch.specs.declared.outcome.RefStep.{RefStep}
use Rattle.rv_arch.specs.declared.outcome.RefStep.TheVariants as step
use Rattle.rv_arch.specs.declared.outcome.RefOutcome.{RefOutcome}
use Rattle.rv_arch.specs.declared.outcome.Stop.TheVariants as stop
use Rattle.rv_arch.specs.Machine.{Machine}
use Rattle.rv_arch.specs.Run.{Run, ended, is_stale, is_breakpoint, is_retired}
use Rattle.rv_arch.specs.Run.{is_trap, is_interrupt, count_of, lines_through}
use Rattle.rv_arch.specs.RunOutcome.{HasNoBreakpoint, IsRunTo}
use Rattle.rv_arch.specs.Step.{Step}
use Rattle.rv_arch.proofs.Runs.{run_more, count_of_more, lines_through_more, range_more}
use Rattle.rv_arch.proofs.Steps.{stale_keeps, stale_again, stale_once}

-- the machine took one step, with the lines at a stamp
pub record Steps (arrivals : List Arrival) (stamp : ℕ) (old new : Machine) (outcome : RefStep) : Type 0 where
  pub step : Step old.layout old.state (lines_at arrivals stamp) outcome new.state
  pub layout : new.layout ≡ old.layout
  pub lines : new.lines ≡ lines_at arrivals stamp

-- a step with the lines of a stamp, which leaves the layout and holds those lines, is one of the machine
pub steps_by : (arrivals : List Arrival) (stamp : ℕ) (old new : Machine) {outcome : RefStep} {lines : Lines} →
    lines ≡ lines_at arrivals stamp →
    Step old.layout old.state lines outcome new.state → new.layout ≡ old.layout → new.lines ≡ lines →
    Steps arrivals stamp old new outcome
steps_by arrivals stamp old new levels step layout lines = record {
  step = rw levels at step;
  layout = layout;
  lines = lines ∙ levels;
}

-- the machine went through these stamps, with these outcomes
pub record Went (arrivals : List Arrival) (stamps : List ℕ) (outcomes : List RefStep) (old new : Machine) : Type 0 where
  pub run : Run old.layout arrivals old.state stamps outcomes new.state
  pub layout : new.layout ≡ old.layout
  pub lines : new.lines ≡ lines_through arrivals old.lines stamps

-- through no stamps, the machine stays as it is
pub went_nowhere : (arrivals : List Arrival) (m : Machine) → Went arrivals [] [] m m
went_nowhere arrivals m = record { run = ended; layout = refl; lines = refl }

module _ {arrivals : List Arrival} {stamps : List ℕ} {outcomes : List RefStep} {old mid new : Machine}
    {stamp : ℕ} {outcome : RefStep}
    (before : Went arrivals stamps outcomes old mid) (now : Steps arrivals stamp mid new outcome) where
  -- a step more that finds no stale word, and the machine went through one stamp more
  pub went_more : is_stale outcome ≡ false → Went arrivals (stamps ++ stamp ∷ []) (outcomes ++ outcome ∷ []) old new
  went_more fresh = record {
    run = run_more stamp before.run (rw before.layout at now.step) fresh;
    layout = now.layout ∙ before.layout;
    lines = now.lines ∙ sym (lines_through_more arrivals old.lines stamps stamp);
  }

  -- where the step finds a stale word
  pub went_to_stale : is_stale outcome ≡ true → Run old.layout arrivals old.state stamps outcomes new.state
  went_to_stale found = rw (stale_keeps now.step found) before.run

  -- a step that finds a stale word can be taken again, and finds it at the same address
  pub again_stale : is_stale outcome ≡ true →
      Step old.layout new.state (lines_at arrivals stamp) (step.Stale new.state.pc) new.state
  again_stale found = rw (← before.layout) (stale_again now.step found)

  -- a step that finds a stale word can be taken again, with the same outcome
  pub once_stale : is_stale outcome ≡ true → Step old.layout new.state (lines_at arrivals stamp) outcome new.state
  once_stale found = rw (← before.layout) (stale_once now.step found)

  -- after one stamp more, the lines are those of all stamps through it
  pub lines_after_step : new.lines ≡ lines_through arrivals old.lines (stamps ++ stamp ∷ [])
  lines_after_step = now.lines ∙ sym (lines_through_more arrivals old.lines stamps stamp)

-- the machine took so many steps, and they were counted
pub record IsCounted (arrivals : List Arrival) (steps : ℕ) (old new : Machine) (counts : RefOutcome) : Type 0 where
  pub outcomes : List RefStep
  pub went : Went arrivals (range_with_len 0 steps) outcomes old new
  pub steps_counted : counts.steps ≡ steps
  pub all : length outcomes ≡ steps
  pub retired : counts.retired ≡ count_of is_retired outcomes
  pub traps : counts.traps ≡ count_of is_trap outcomes
  pub interrupts : counts.interrupts ≡ count_of is_interrupt outcomes
  pub retired_some : counts.retired ≤ steps
  pub traps_some : counts.traps ≤ steps
  pub interrupts_some : counts.interrupts ≤ steps
  pub unbroken : HasNoBreakpoint outcomes
  pub going : counts.stop ≡ stop.Limit

-- before any step, nothing is counted
pub counted_none : (arrivals : List Arrival) (m : Machine) (counts : RefOutcome) →
    counts ≡ record { steps = 0; retired = 0; traps = 0; interrupts = 0; stop = stop.Limit } →
    IsCounted arrivals 0 m m counts
counted_none arrivals m counts e = record {
  outcomes = [];
  went = went_nowhere arrivals m;
  steps_counted = ap (λ (o : RefOutcome). o.steps) e;
  all = refl;
  retired = ap (λ (o : RefOutcome). o.retired) e;
  traps = ap (λ (o : RefOutcome). o.traps) e;
  interrupts = ap (λ (o : RefOutcome). o.interrupts) e;
  retired_some = omega (arith, ap (λ (o : RefOutcome). o.retired) e);
  traps_some = omega (arith, ap (λ (o : RefOutcome). o.traps) e);
  interrupts_some = omega (arith, ap (λ (o : RefOutcome). o.interrupts) e);
  unbroken = refl;
  going = ap (λ (o : RefOutcome). o.stop) e;
}

-- one more step was counted
pub record CountsOne (old new : RefOutcome) (outcome : RefStep) : Type 0 where
  pub steps : new.steps ≡ old.steps + 1
  pub retired : new.retired ≡ old.retired + (if is_retired outcome then 1 else 0)
  pub traps : new.traps ≡ old.traps + (if is_trap outcome then 1 else 0)
  pub interrupts : new.interrupts ≡ old.interrupts + (if is_interrupt outcome then 1 else 0)

one_at_most : (b : Bool) → (if b then 1 else 0) ≤ 1
one_at_most true = omega arith
one_at_most false = omega arith

unbroken_more : (outcomes : List RefStep) (outcome : RefStep) → list_any is_breakpoint outcomes ≡ false →
    is_breakpoint outcome ≡ false → HasNoBreakpoint (outcomes ++ outcome ∷ [])
unbroken_more outcomes outcome before now = list_any-append is_breakpoint outcomes (outcome ∷ [])
    ∙ rw (before, now) refl

module _ {arrivals : List Arrival} {n : ℕ} {old mid new : Machine} {outcome : RefStep} {counts counts' : RefOutcome}
    (before : IsCounted arrivals n old mid counts) (now : Steps arrivals n mid new outcome) where
  -- where neither a stale word nor a breakpoint ends the run, a step more is a step more counted
  pub counted_more : is_stale outcome ≡ false → CountsOne counts counts' outcome → counts'.stop ≡ counts.stop →
      is_breakpoint outcome ≡ false → IsCounted arrivals (n + 1) old new counts'
  counted_more fresh one same_stop unbroken = record {
    outcomes = before.outcomes ++ outcome ∷ [];
    went = rw range_more (went_more before.went now fresh);
    steps_counted = omega arith;
    all = omega (arith, length_push before.outcomes outcome);
    retired = omega (arith, count_of_more is_retired before.outcomes outcome);
    traps = omega (arith, count_of_more is_trap before.outcomes outcome);
    interrupts = omega (arith, count_of_more is_interrupt before.outcomes outcome);
    retired_some = omega (arith, one_at_most (is_retired outcome));
    traps_some = omega (arith, one_at_most (is_trap outcome));
    interrupts_some = omega (arith, one_at_most (is_interrupt outcome));
    unbroken = unbroken_more before.outcomes outcome before.unbroken unbroken;
    going = same_stop ∙ before.going;
  }

  -- a step to a breakpoint ends the run there, and is counted
  pub counted_to_breakpoint : (limit : ℕ) → n < limit → is_stale outcome ≡ false → CountsOne counts counts' outcome →
      is_breakpoint outcome ≡ true → IsRunTo arrivals limit old new (record counts' { stop = stop.Breakpoint })
  counted_to_breakpoint limit below fresh one broken =
      let taken : counts'.steps ≡ n + 1 = omega arith in
      let all = length_push before.outcomes outcome in
      let went = went_more before.went now fresh in
      record {
        outcomes = before.outcomes ++ outcome ∷ [];
        run = rw (taken, range_more) went.run;
        steps = omega arith;
        retired = omega (arith, count_of_more is_retired before.outcomes outcome);
        traps = omega (arith, count_of_more is_trap before.outcomes outcome);
        interrupts = omega (arith, count_of_more is_interrupt before.outcomes outcome);
        stop = (
          record {
            earlier = before.outcomes;
            last = outcome;
            all = refl;
            breaks = broken;
            first = before.unbroken;
          },
          omega arith,
        );
        layout = went.layout;
        lines = rw (taken, range_more) went.lines;
      }

module _ {arrivals : List Arrival} {n : ℕ} {old mid new : Machine} {outcome : RefStep} {counts : RefOutcome}
    (before : IsCounted arrivals n old mid counts) (now : Steps arrivals n mid new outcome) where
  -- a step that finds a stale word ends the run at its address, and is not counted
  pub counted_to_stale : (limit pc : ℕ) → n < limit → outcome ≡ step.Stale pc →
      IsRunTo arrivals limit old new (record counts { stop = stop.Stale pc })
  counted_to_stale limit pc below is =
      let found : is_stale outcome ≡ true = ap is_stale is in
      let lines = lines_after_step before.went now in
      let once = once_stale before.went now found in
      record {
        outcomes = before.outcomes;
        run = rw before.steps_counted (went_to_stale before.went now found);
        steps = omega arith;
        retired = before.retired;
        traps = before.traps;
        interrupts = before.interrupts;
        stop = (before.unbroken, omega arith, rw (before.all, ← is) once);
        layout = now.layout ∙ before.went.layout;
        lines = rw (before.steps_counted, range_more) lines;
      }

-- where as many steps are counted as may be taken, the run ends at its limit
pub counted_to_limit : {arrivals : List Arrival} {n : ℕ} {old new : Machine} {counts : RefOutcome} →
    IsCounted arrivals n old new counts → (limit : ℕ) → n ≤ limit → limit ≤ n → IsRunTo arrivals limit old new counts
counted_to_limit counted limit at_most at_least = record {
  outcomes = counted.outcomes;
  run = rw counted.steps_counted counted.went.run;
  steps = omega arith;
  retired = counted.retired;
  traps = counted.traps;
  interrupts = counted.interrupts;
  stop = rw counted.going (counted.unbroken, omega arith);
  layout = counted.went.layout;
  lines = rw (counted.going, counted.steps_counted) counted.went.lines;
}
