-- A run whose steps are counted: what was counted so far, one cycle more, and the end.
use Rattle.rv_core.proofs.Words.{◌≡◌, ℕ, ◌+◌, ◌^◌, ◌<◌, ◌≤◌, List, [], ◌∷◌, ◌++◌, length, Some, None, Option, Ok, sym}
use Rattle.rv_core.proofs.Words.{refl, ◌∙◌, subst, arith, count_by-le-length, Arrival, Stop, Hardware, IsStop, steps_of}
use Rattle.rv_core.proofs.Words.{Guide, GuidedHardware, guided, reports_of, Step, IsWatchedRun, Watched, Progress}
use Rattle.rv_core.proofs.Words.{progress_of}
use Rattle.std.specs.Prelude.{Bool, cond, count_by}
use Rattle.std.proofs.lemmas.List.Sums.{sum_by-cons}
use Rattle.rv_hardware.specs.Step.{is_interrupt, is_retirement, is_trap}
use Rattle.rv_hardware.specs.declared.step.Step.TheVariants.{Interrupt, Retired, Trap}
use Rattle.rv_core.specs.Counted.{AreCounts, IsCountedRun}
use Rattle.rv_core.specs.Steps.{HasRoom, Takes}
use Rattle.rv_core.specs.declared.counting.Counted.{Counted}
use Rattle.rv_core.specs.declared.steps.Steps.{Steps}
use Rattle.rv_watch.proofs.Shown.{IsWatching, moments_counted, shown_steps-push, watched_to, watched_to_stop}
use Rattle.rv_watch.proofs.Shown.{watching_nothing, watching_on}
use Rattle.rv_core.proofs.RunCycles.{next_reported}
use Rattle.rv_core.proofs.Taken.{takes_more, takes_none}
use Rattle.rv_core.specs.Taking.{TakesNextCycle}

count_by-cons : (p : Step → Bool) (step : Step) (steps : List Step) →
    count_by p (step ∷ steps) ≡ cond (p step) 1 0 + count_by p steps
count_by-cons p step steps = sum_by-cons _ step steps

-- each step is of one sort
three_sorts : (steps : List Step) →
    length steps ≡ count_by is_retirement steps + (count_by is_trap steps + count_by is_interrupt steps)
three_sorts [] = refl
three_sorts (Retired row ∷ steps) =
    let retired : count_by is_retirement (Retired row ∷ steps) ≡ 1 + count_by is_retirement steps =
    count_by-cons is_retirement (Retired row) steps in
    let traps : count_by is_trap (Retired row ∷ steps) ≡ 0 + count_by is_trap steps =
    count_by-cons is_trap (Retired row) steps in
    let interrupts : count_by is_interrupt (Retired row ∷ steps) ≡ 0 + count_by is_interrupt steps =
    count_by-cons is_interrupt (Retired row) steps in
    omega (arith, three_sorts steps, retired, traps, interrupts)
three_sorts (Trap pc cause value cycle ∷ steps) =
    let retired : count_by is_retirement (Trap pc cause value cycle ∷ steps) ≡ 0 + count_by is_retirement steps =
    count_by-cons is_retirement (Trap pc cause value cycle) steps in
    let traps : count_by is_trap (Trap pc cause value cycle ∷ steps) ≡ 1 + count_by is_trap steps =
    count_by-cons is_trap (Trap pc cause value cycle) steps in
    let interrupts : count_by is_interrupt (Trap pc cause value cycle ∷ steps) ≡ 0 + count_by is_interrupt steps =
    count_by-cons is_interrupt (Trap pc cause value cycle) steps in
    omega (arith, three_sorts steps, retired, traps, interrupts)
three_sorts (Interrupt pc cause cycle ∷ steps) =
    let retired : count_by is_retirement (Interrupt pc cause cycle ∷ steps) ≡ 0 + count_by is_retirement steps =
    count_by-cons is_retirement (Interrupt pc cause cycle) steps in
    let traps : count_by is_trap (Interrupt pc cause cycle ∷ steps) ≡ 0 + count_by is_trap steps =
    count_by-cons is_trap (Interrupt pc cause cycle) steps in
    let interrupts : count_by is_interrupt (Interrupt pc cause cycle ∷ steps) ≡ 1 + count_by is_interrupt steps =
    count_by-cons is_interrupt (Interrupt pc cause cycle) steps in
    omega (arith, three_sorts steps, retired, traps, interrupts)

-- nothing is counted yet, and nothing is listed
abbrev pub uncounted : Steps
uncounted = record { list = None; count = 0; traps = 0; interrupts = 0 }

-- the steps of the cycles so far were taken
abbrev pub HasTaken : Steps → Steps → Watched → Option (List ℕ) → Option (List ℕ) → Type 0
HasTaken start steps seen before now = Takes uncounted steps (steps_of (reports_of seen.moments))

-- no more steps are of two sorts than there are
fit_in : {steps : Steps} (all : List Step) → Takes uncounted steps all → steps.traps + steps.interrupts ≤ steps.count
fit_in all taken = omega (arith, taken.count, taken.traps, taken.interrupts, three_sorts all)

module _ (arrivals : List Arrival) (old : GuidedHardware) where
  -- the cycles so far, none of which stopped the run, were counted, and their steps
  abbrev pub IsCounting : GuidedHardware → Progress → Steps → Type 0
  IsCounting now progress steps = IsWatching HasTaken arrivals old uncounted None now progress steps None

  -- before the first cycle
  pub counting_nothing : (progress : Progress) (steps : Steps) → progress ≡ progress_of [] → steps ≡ uncounted →
      IsCounting old progress steps
  counting_nothing progress steps none empty =
      rw empty (watching_nothing HasTaken arrivals old uncounted None progress none)

  -- what a run came to whose steps were taken
  counted_by : {limit : ℕ} {new : GuidedHardware} {progress : Progress} {stop : Stop} {steps : Steps}
      → IsWatchedRun {Refusal = Unit {0}} HasTaken arrivals limit old new progress (Ok stop) uncounted steps None None
      → (run : Counted) → AreCounts progress steps stop run →
      IsCountedRun arrivals limit old.hardware old.predictor new.hardware new.predictor run
  counted_by {limit = limit} {new = new} watched run are =
      let all = steps_of (reports_of watched.moments) in
      let taken : Takes uncounted _ all = watched.seen None (takes_none uncounted) in
      record {
        moments = watched.moments;
        passes = watched.passes;
        progress = are.progress_is ∙ watched.counted;
        ends = subst (IsStop limit (reports_of watched.moments) new.hardware) (sym are.stop_is) watched.ends;
        retired = omega (arith, are.retired, taken.count, taken.traps, taken.interrupts, three_sorts all);
        traps = omega (arith, are.traps, taken.traps);
        interrupts = omega (arith, are.interrupts, taken.interrupts);
      }

  module _ {now : GuidedHardware} {progress : Progress} {steps : Steps} (counting : IsCounting now progress steps) where
    taken_so_far : Takes uncounted steps (steps_of (reports_of counting.moments))
    taken_so_far = counting.seen None (takes_none uncounted)

    -- the steps of one more cycle can be counted
    pub room_to_count : now.hardware.cycle < 2 ^ 40 → HasRoom steps 8
    room_to_count within = grind (arith, moments_counted, taken_so_far, count_by-le-length)

    -- no more traps and interrupts are counted than steps
    pub sorts_fit : steps.traps + steps.interrupts ≤ steps.count
    sorts_fit = fit_in (steps_of (reports_of counting.moments)) taken_so_far

    -- it ended between two cycles
    pub counted_to : (limit : ℕ) (stop : Stop) → IsStop limit (reports_of counting.moments) now.hardware stop →
        (run : Counted) → AreCounts progress steps stop run →
        IsCountedRun arrivals limit old.hardware old.predictor now.hardware now.predictor run
    counted_to limit stop ends run are =
        counted_by (watched_to HasTaken arrivals old uncounted None counting {Refusal = Unit {0}} limit
        (Ok stop) ends) run are

    -- one more cycle, whose steps were taken
    module _ {after : Hardware} {predictor : Guide} {progress' : Progress} {steps' : Steps} {stop : Option Stop}
        (next : TakesNextCycle arrivals now.hardware now.predictor after predictor steps steps' progress progress' stop)
        (within : now.hardware.cycle < 2 ^ 40) where
      taken_with : (before : Option (List ℕ)) → Takes uncounted steps (steps_of (reports_of counting.moments)) →
          Takes uncounted steps' (steps_of
          (reports_of (counting.moments ++ record { report = next.report; after = after } ∷ [])))
      taken_with before taken =
          subst (Takes uncounted steps') (sym (shown_steps-push counting.moments _)) (takes_more _ _ taken next.taken)

      -- with that cycle, too, no more traps and interrupts are counted than steps
      pub taken_fit : steps'.traps + steps'.interrupts ≤ steps'.count
      taken_fit = fit_in _ (taken_with None taken_so_far)

      -- with one that does not stop, the run goes on
      pub counting_on : stop ≡ None → IsCounting (guided after predictor) progress' steps'
      counting_on goes =
          watching_on HasTaken arrivals old uncounted None counting (next_reported next) refl refl next.reached refl
          within taken_with goes

      -- and with one that stops it is over
      pub counted_to_stop : (limit : ℕ) (reason : Stop) → stop ≡ Some reason → progress.cycles < limit →
          (run : Counted) → AreCounts progress' steps' reason run →
          IsCountedRun arrivals limit old.hardware old.predictor after predictor run
      counted_to_stop limit reason is short run are =
          counted_by (watched_to_stop HasTaken arrivals old uncounted None counting (next_reported next) refl refl
          next.reached refl within taken_with
          {Refusal = Unit {0}} limit reason is short) run are
