-- The reason why a run stopped is true of what programs see.
use Rattle.rv_hardware.proofs.Words.{◌≡◌, ℕ, ◌+◌, ◌^◌, true, false, List, [], ◌∷◌, ◌++◌, length, Some, All, sym, refl}
use Rattle.rv_hardware.proofs.Words.{ap, ◌∙◌, subst, true≢false, append_assoc, append-nil, arith, false≢true, or_from}
use Rattle.rv_hardware.proofs.Words.{or_parts, or_right, All-head, All-tail, list_any-append, list_any, lines_at}
use Rattle.rv_hardware.proofs.Words.{Arrival, Layout, State, Stop, Hardware, EndAtBreakpoints, EndAtTraps, IsTrueCycle}
use Rattle.rv_hardware.proofs.Words.{IsTrueStop, Report, Cycles, IsStop, NoneStops, Reachable, steps_of, layout_of}
use Rattle.rv_hardware.proofs.Words.{seen, is_breakpoint, is_retirement, stamp_of, Step}
use Rattle.rv_arch.specs.declared.outcome.Stop.TheVariants as stop
use Rattle.rv_hardware.proofs.Headline.Cycle.{always_sound}
use Rattle.rv_hardware.proofs.Headline.Run.{TrueCycles, none, one_more, cycles_true, counts_cycles}

steps_of-append : (xs ys : List Report) → steps_of (xs ++ ys) ≡ steps_of xs ++ steps_of ys
steps_of-append [] ys = refl
steps_of-append (x ∷ xs) ys = grind (arith, append_assoc, steps_of-append xs ys)

-- no step is a breakpoint
abbrev HasNone : List Step → Type 0
HasNone steps = list_any is_breakpoint steps ≡ false

HasNone-append : (xs ys : List Step) → HasNone xs → HasNone ys → HasNone (xs ++ ys)
HasNone-append xs ys before after =
    list_any-append is_breakpoint xs ys ∙ or_from (list_any is_breakpoint xs) (list_any is_breakpoint ys) before after

ends_nowhere : (done : ℕ) (xs : List Step) → HasNone xs → EndAtBreakpoints done xs
ends_nowhere done [] nowhere = tt
ends_nowhere done (x ∷ xs) nowhere =
    let parts = or_parts (is_breakpoint x) (list_any is_breakpoint xs) nowhere in
    ((λ breaks. absurd (true≢false (sym breaks ∙ parts.0))), ends_nowhere done xs parts.1)

ends_append : (done : ℕ) (xs ys : List Step) → HasNone xs → EndAtBreakpoints done ys → EndAtBreakpoints done (xs ++ ys)
ends_append done [] ys nowhere ends = ends
ends_append done (x ∷ xs) ys nowhere ends =
    let parts = or_parts (is_breakpoint x) (list_any is_breakpoint xs) nowhere in
    ((λ breaks. absurd (true≢false (sym breaks ∙ parts.0))), ends_append done xs ys parts.1 ends)

breakpoint_is_trap : (x : Step) → is_breakpoint x ≡ true → is_retirement x ≡ false
breakpoint_is_trap x breaks = grind (arith, false≢true)

ends_in : (n : ℕ) (xs : List Step) → EndAtTraps xs → All (λ x. stamp_of x ≡ n) xs → EndAtBreakpoints (n + 1) xs
ends_in n [] precise stamped = tt
ends_in n (x ∷ xs) precise stamped =
    let at : stamp_of x ≡ n = All-head (λ z. stamp_of z ≡ n) x xs stamped in (
      (λ breaks. (precise.0 (breakpoint_is_trap x breaks), omega (arith, at))),
      ends_in n xs precise.1 (All-tail (λ z. stamp_of z ≡ n) x xs stamped),
    )

module _ (layout : Layout) (arrivals : List Arrival) where
  -- a cycle that does not end the run at a breakpoint reports none
  quiet_cycle : {n : ℕ} {s t : State} (report : Report) →
      IsTrueCycle layout (lines_at arrivals n) n s report.steps report.stop t →
      (report.stop ≡ Some stop.Breakpoint → ⊥) → HasNone report.steps
  quiet_cycle report cycle other = grind arith

  quiet_run : {s u : State} {n m : ℕ} {reports : List Report} → TrueCycles layout arrivals s n reports u m →
      NoneStops reports → HasNone (steps_of reports)
  quiet_run none quiet = refl
  quiet_run (one_more {report = report} {reports = reports} cycle rest) quiet =
      HasNone-append report.steps (steps_of reports) (quiet_cycle report cycle (λ stops. let going = quiet.0 in cc))
      (quiet_run rest quiet.1)

  -- the last cycle, and those before it
  record LastCycle (s : State) (n : ℕ) (earlier : List Report) (last : Report) (u : State) (m : ℕ) : Type 0 where
    pub middle : State
    pub number : ℕ
    pub before : TrueCycles layout arrivals s n earlier middle number
    pub cycle : IsTrueCycle layout (lines_at arrivals number) number middle last.steps last.stop u
    pub done_is : m ≡ number + 1

  -- some cycles by their first
  record FirstCycle (s : State) (n : ℕ) (report : Report) (reports : List Report) (u : State) (m : ℕ) : Type 0 where
    pub then_sees : State
    pub cycle : IsTrueCycle layout (lines_at arrivals n) n s report.steps report.stop then_sees
    pub later : TrueCycles layout arrivals then_sees (n + 1) reports u m

  abbrev ByFirst : State → ℕ → List Report → State → ℕ → Type 0
  ByFirst s n [] u m = (s ≡ u) × (m ≡ n)
  ByFirst s n (report ∷ reports) u m = FirstCycle s n report reports u m

  by_first : {s u : State} {n m : ℕ} {reports : List Report} → TrueCycles layout arrivals s n reports u m →
      ByFirst s n reports u m
  by_first none = (refl, refl)
  by_first (one_more {t = t} cycle rest) = record { then_sees = t; cycle = cycle; later = rest }

  last_cycle : (earlier : List Report) (last : Report) {s u : State} {n m : ℕ} →
      TrueCycles layout arrivals s n (earlier ++ last ∷ []) u m → LastCycle s n earlier last u m
  last_cycle [] last {s} {u} {n} {m} cycles =
      let first : FirstCycle s n last [] u m = by_first cycles in
      let over : (first.then_sees ≡ u) × (m ≡ n + 1) = by_first first.later in
      record {
        middle = s;
        number = n;
        before = none;
        cycle = subst
            (λ (t : State). IsTrueCycle layout (lines_at arrivals n) n s last.steps last.stop t) over.0 first.cycle;
        done_is = over.1;
      }
  last_cycle (report ∷ earlier) last {s} {u} {n} {m} cycles =
      let first : FirstCycle s n report (earlier ++ last ∷ []) u m = by_first cycles in
      let rest = last_cycle earlier last first.later in
      record {
        middle = rest.middle;
        number = rest.number;
        before = one_more first.cycle rest.before;
        cycle = rest.cycle;
        done_is = rest.done_is;
      }

  module _ (limit n m : ℕ) (s u : State) (reports : List Report)
      (cycles : TrueCycles layout arrivals s n reports u m) where
    count : m ≡ n + length reports
    count = counts_cycles layout arrivals cycles

    -- ---- a run whose cycles all go on
    going : (reason : Stop) → NoneStops reports → (reason ≡ stop.Breakpoint → ⊥) →
        ((pc : ℕ) → reason ≡ stop.Stale pc → ⊥) → (reason ≡ stop.Limit → m ≡ n + limit) →
        (reason ≡ stop.Exhausted → m ≡ 2 ^ 40) →
        IsTrueStop layout arrivals limit n m (steps_of reports) u reason
    going reason quiet no_break no_stale limited exhausted = grind (arith, false≢true, quiet_run, ends_nowhere)

    -- ---- a run whose last cycle ends it
    module _ (earlier : List Report) (last : Report) (all : reports ≡ earlier ++ last ∷ [])
        (quiet : NoneStops earlier) where
      ending : LastCycle s n earlier last u m
      ending = last_cycle earlier last (subst (λ (rs : List Report). TrueCycles layout arrivals s n rs u m) all cycles)

      steps_are : steps_of reports ≡ steps_of earlier ++ last.steps
      steps_are = ap steps_of all ∙ steps_of-append earlier (last ∷ []) ∙
          ap (λ (xs : List Step). steps_of earlier ++ xs) (append-nil last.steps)

      before_none : HasNone (steps_of earlier)
      before_none = quiet_run ending.before quiet

      at_breakpoint : last.stop ≡ Some stop.Breakpoint →
          IsTrueStop layout arrivals limit n m (steps_of reports) u stop.Breakpoint
      at_breakpoint stops =
          grind (arith, steps_are, list_any-append, or_right, ending, ends_append, before_none, ends_in)

      at_stale : (pc : ℕ) → last.stop ≡ Some (stop.Stale pc) →
          IsTrueStop layout arrivals limit n m (steps_of reports) u (stop.Stale pc)
      at_stale pc stops = grind (arith, ending, steps_are, HasNone-append, before_none, ends_nowhere, counts_cycles)

    pub true_stop : (reason : Stop) (new : Hardware) → new.cycle ≡ m → IsStop limit reports new reason →
        IsTrueStop layout arrivals limit n m (steps_of reports) u reason
    true_stop stop.Limit new at is =
        going stop.Limit is.0 (λ e. cc) (λ pc e. cc) (λ e. omega (arith, count, is.1)) (λ e. absurd (cc))
    true_stop stop.Breakpoint new at is = at_breakpoint is.0.earlier is.0.last is.0.all is.0.none_before is.0.stops
    true_stop (stop.Stale pc) new at is = at_stale is.0.earlier is.0.last is.0.all is.0.none_before pc is.0.stops
    true_stop stop.Exhausted new at is =
        going stop.Exhausted is.0 (λ e. cc) (λ pc e. cc) (λ e. absurd (cc)) (λ e. sym at ∙ is.2)

-- The theorem for the stop of a run.
pub headline_of_stop : (arrivals : List Arrival) (limit : ℕ) (old new : Hardware) (reports : List Report)
    (reason : Stop) →
    Reachable old → Cycles arrivals old reports new → IsStop limit reports new reason →
    IsTrueStop (layout_of old.values) arrivals limit old.cycle new.cycle (steps_of reports) (seen new) reason
headline_of_stop arrivals limit old new reports reason reached cycles is =
    true_stop (layout_of old.values) arrivals limit old.cycle new.cycle (seen old) (seen new) reports
    (cycles_true (always_sound reached) cycles) reason new refl is
