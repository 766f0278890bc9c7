-- What the cycles of a run report leads from what programs saw before it to what they see after it.
use Rattle.rv_hardware.proofs.Words.{◌≡◌, ℕ, ◌+◌, ◌<◌, ◌≤◌, false, List, [], ◌∷◌, ◌++◌, map, length, All, AllPairs, sym}
use Rattle.rv_hardware.proofs.Words.{ap, subst, arith, All-append, All-head, All-nil, All-tail, All-weaker}
use Rattle.rv_hardware.proofs.Words.{AllPairs-cons, lines_at, IsLegal, Arrival, Values, Layout, reset, Run, is_stale}
use Rattle.rv_hardware.proofs.Words.{stepped, State, Hardware, ComesBefore, EndAtTraps, IsTrueCycle, IsTrueRun, Lead}
use Rattle.rv_hardware.proofs.Words.{nowhere, onwards, reference_step, Report, IsLoadable, reset_hardware, Cycles}
use Rattle.rv_hardware.proofs.Words.{Reachable, at_reset, cycled, steps_of, layout_of, seen, stamp_of, Step}
use Rattle.rv_arch.specs.Run.{ended}
use Rattle.rv_arch.specs.Step.{Step as MachineStep}
use Rattle.rv_hardware.specs.Run as run
use Rattle.rv_hardware.proofs.Headline.Cycle.{GoesOnTrue, cycle_true, always_sound}
use Rattle.rv_hardware.proofs.Headline.Invariant.{IsSound}

-- the cycles of a run by what programs see, from the number of a cycle to that after the last
pub data TrueCycles (layout : Layout) (arrivals : List Arrival) : State → ℕ → List Report → State → ℕ → Type 0 where
  none : {s : State} {n : ℕ} → TrueCycles layout arrivals s n [] s n
  one_more : {s t u : State} {n m : ℕ} {report : Report} {reports : List Report} →
      IsTrueCycle layout (lines_at arrivals n) n s report.steps report.stop t →
      TrueCycles layout arrivals t (n + 1) reports u m → TrueCycles layout arrivals s n (report ∷ reports) u m

-- the cycles of a run of sound hardware are true, one after another
pub cycles_true : {arrivals : List Arrival} {old new : Hardware} {reports : List Report} → IsSound old →
    Cycles arrivals old reports new →
    TrueCycles (layout_of old.values) arrivals (seen old) old.cycle reports (seen new) new.cycle
cycles_true is run.ended = none
cycles_true {arrivals = arrivals} {old = old} {new = new} is
    (cycled {middle = middle} {report = report} {reports = reports} cycle rest) =
    let now : GoesOnTrue (lines_at arrivals old.cycle) old report middle =
    cycle_true (lines_at arrivals old.cycle) old report middle is cycle in
    let later : TrueCycles (layout_of middle.values) arrivals (seen middle) middle.cycle reports (seen new) new.cycle =
    cycles_true now.sound rest in
    one_more now.true_cycle
    (subst (λ (n : ℕ). TrueCycles (layout_of old.values) arrivals (seen middle) n reports (seen new) new.cycle)
    now.cycle_is
    (subst (λ (v : Values). TrueCycles (layout_of v) arrivals (seen middle) middle.cycle reports (seen new) new.cycle)
    now.values_are later))

never_stale : (x : Step) → is_stale (reference_step x) ≡ false
never_stale x = grind arith

module _ (layout : Layout) (arrivals : List Arrival) where
  -- the steps of a cycle, and those of later ones
  lead_runs : (n : ℕ) (s t u : State) (xs ys : List Step) → Lead layout (lines_at arrivals n) s xs t →
      All (λ x. stamp_of x ≡ n) xs → Run layout arrivals t (map stamp_of ys) (map reference_step ys) u →
      Run layout arrivals s (map stamp_of (xs ++ ys)) (map reference_step (xs ++ ys)) u
  lead_runs n s t u xs ys leads stamped rest = by_lead leads stamped rest where
    by_lead : {s t : State} {xs : List Step} → Lead layout (lines_at arrivals n) s xs t → All (λ x. stamp_of x ≡ n) xs →
        Run layout arrivals t (map stamp_of ys) (map reference_step ys) u →
        Run layout arrivals s (map stamp_of (xs ++ ys)) (map reference_step (xs ++ ys)) u
    by_lead nowhere stamped rest = rest
    by_lead (onwards {s = s} {t = t} {first = first} {steps = steps} takes more) stamped rest =
        let at : stamp_of first ≡ n = All-head (λ x. stamp_of x ≡ n) first steps stamped in
        stepped (subst (λ k. MachineStep layout s (lines_at arrivals k) (reference_step first) t) (sym at) takes)
        (never_stale first)
        (by_lead more (All-tail (λ x. stamp_of x ≡ n) first steps stamped) rest)

  pub true_run_runs : {s u : State} {n m : ℕ} {reports : List Report} → TrueCycles layout arrivals s n reports u m →
      Run layout arrivals s (map stamp_of (steps_of reports)) (map reference_step (steps_of reports)) u
  true_run_runs none = ended
  true_run_runs (one_more {s = s} {t = t} {u = u} {n = n} {report = report} {reports = reports} cycle rest) =
      grind (arith, lead_runs, true_run_runs rest)

  -- ---- stamps
  pub counts_cycles : {s u : State} {n m : ℕ} {reports : List Report} → TrueCycles layout arrivals s n reports u m →
      m ≡ n + length reports
  counts_cycles none = omega arith
  counts_cycles (one_more cycle rest) = omega (arith, counts_cycles rest)

  abbrev IsWithin : ℕ → ℕ → Step → Type 0
  IsWithin first done x = (first ≤ stamp_of x) × (stamp_of x < done)

  -- each step of true cycles is of one of these cycles
  pub true_run_within : {s u : State} {n m : ℕ} {reports : List Report} → TrueCycles layout arrivals s n reports u m →
      All (IsWithin n m) (steps_of reports)
  true_run_within {n = n} {m = m} none = All-nil (IsWithin n m)
  true_run_within {n = n} {m = m} (one_more {report = report} {reports = reports} cycle rest) =
      let count = counts_cycles rest in
      All-append (IsWithin n m) report.steps (steps_of reports)
      (All-weaker (λ x. stamp_of x ≡ n) (IsWithin n m)
      (λ x at. (omega arith, omega (arith, count))) report.steps cycle.stamped)
      (All-weaker (IsWithin (n + 1) m) (IsWithin n m) (λ x within. (omega (arith, within.0), within.1))
      (steps_of reports) (true_run_within rest))

  ordered : (n : ℕ) (xs ys : List Step) → EndAtTraps xs → All (λ x. stamp_of x ≡ n) xs →
      All (λ y. n + 1 ≤ stamp_of y) ys → AllPairs ComesBefore ys → AllPairs ComesBefore (xs ++ ys)
  ordered n [] ys precise stamped later rest = rest
  ordered n (x ∷ xs) ys precise stamped later rest =
      let at : stamp_of x ≡ n = All-head (λ z. stamp_of z ≡ n) x xs stamped in
      let others : All (λ z. stamp_of z ≡ n) xs = All-tail (λ z. stamp_of z ≡ n) x xs stamped in
      AllPairs-cons ComesBefore x (xs ++ ys)
      (All-append (ComesBefore x) xs ys
      (λ k d within. record {
        in_order = omega (arith, at, others k d within);
        precise = λ traps. absurd (omega (arith, within, ap length (precise.0 traps)));
      })
      (λ k d within. record {
        in_order = omega (arith, at, later k d within);
        precise = λ traps. omega (arith, at, later k d within);
      }))
      (ordered n xs ys precise.1 others later rest)

  pub true_run_in_order : {s u : State} {n m : ℕ} {reports : List Report} → TrueCycles layout arrivals s n reports u m →
      AllPairs ComesBefore (steps_of reports)
  true_run_in_order none = λ i j d below within. absurd (omega arith)
  true_run_in_order {n = n} {m = m} (one_more {report = report} {reports = reports} cycle rest) =
      ordered n _ _ cycle.precise cycle.stamped
      (All-weaker (IsWithin (n + 1) m) (λ y. n + 1 ≤ stamp_of y) (λ y within. within.0) (steps_of reports)
      (true_run_within rest))
      (true_run_in_order rest)

  pub true_run : {s u : State} {n m : ℕ} {reports : List Report} → TrueCycles layout arrivals s n reports u m →
      IsTrueRun layout arrivals n m s (steps_of reports) u
  true_run cycles =
      record { runs = true_run_runs cycles; within = true_run_within cycles; in_order = true_run_in_order cycles }

-- The theorem for the cycles of a run.
pub headline_of_run : {arrivals : List Arrival} {old new : Hardware} {reports : List Report} → Reachable old →
    Cycles arrivals old reports new →
    IsTrueRun (layout_of old.values) arrivals old.cycle new.cycle (seen old) (steps_of reports) (seen new)
headline_of_run {arrivals} {old} reached cycles =
    true_run (layout_of old.values) arrivals (cycles_true (always_sound reached) cycles)

-- ... and for those of new hardware, which start at the machine's reset.
pub headline_from_reset : (arrivals : List Arrival) (values : Values) (base : ℕ) (image : List ℕ) (start : ℕ)
    (new : Hardware) (reports : List Report) →
    IsLegal values → IsLoadable values base image start →
    Cycles arrivals (reset_hardware values image start) reports new →
    IsTrueRun (layout_of values) arrivals 0 new.cycle (reset (layout_of values) image start)
    (steps_of reports) (seen new)
headline_from_reset arrivals values base image start new reports legal loadable cycles =
    headline_of_run (at_reset legal loadable) cycles
