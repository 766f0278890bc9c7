-- Over a run, an interrupt that is due in a cycle is its one step.
use Rattle.rv_hardware.proofs.Words.{◌≡◌, ℕ, ◌+◌, ◌<◌, ◌≤◌, Bool, true, false, List, [], ◌∷◌, ◌++◌, map, nat_lt, ◌==◌}
use Rattle.rv_hardware.proofs.Words.{Some, filter, sym, refl, ap, ◌∙◌, subst, inl, inr, append_assoc, append-nil, arith}
use Rattle.rv_hardware.proofs.Words.{le-ltb, lt-ltb, eq-eqb, ne_eqb, cases_lt, filter-append, lines_at, Arrival, Values}
use Rattle.rv_hardware.proofs.Words.{due, Run, State, interrupt_cause, Each, IsCycle, any_prediction, Hardware}
use Rattle.rv_hardware.proofs.Words.{reference_step, TakesDueInterrupts, Report, Cycles, Reachable, cycled, ended}
use Rattle.rv_hardware.proofs.Words.{steps_of, layout_of, seen, steps_below, steps_in, stamp_of, Step, Interrupt}
use Rattle.rv_hardware.proofs.Words.{Each-right, each_then}
use Rattle.rv_hardware.proofs.Headline.Run.{headline_of_run}
use Rattle.rv_hardware.proofs.Marks.History.{History, went_on, reachable_has_history, history_is_legal}
use Rattle.rv_hardware.proofs.Marks.History.{history_is_sound}
use Rattle.rv_hardware.proofs.Laws.OfCycles.{due_interrupt_is_taken}
use Rattle.rv_hardware.proofs.Laws.OfRuns.{history_runs, since_by}
use Rattle.rv_hardware.proofs.Laws.StepsInOrder.Steps.{history_has_steps, steps_of_cycle}

-- what a test keeps of a list where all pass, and where none does
module _ {X : Type 0} (p : X → Bool) where
  kept_all : (xs : List X) → Each (λ x. p x ≡ true) xs → filter p xs ≡ xs
  kept_all [] h = refl
  kept_all (x ∷ xs) h = rw h.0 (ap (λ l. x ∷ l) (kept_all xs h.1))

  kept_none : (xs : List X) → Each (λ x. p x ≡ false) xs → filter p xs ≡ []
  kept_none [] h = refl
  kept_none (x ∷ xs) h = rw h.0 (kept_none xs h.1)

  filter-three : (xs ys zs : List X) → filter p (xs ++ (ys ++ zs)) ≡ filter p xs ++ (filter p ys ++ filter p zs)
  filter-three xs ys zs = filter-append p xs (ys ++ zs) ∙ ap (λ l. filter p xs ++ l) (filter-append p ys zs)

-- the cycles of a run around one of them
record Around (arrivals : List Arrival) (c : ℕ) (old : Hardware) (reports : List Report) (new : Hardware) : Type 0 where
  first : List Report
  here : Report
  later : List Report
  begins : Hardware
  ends : Hardware
  before : Cycles arrivals old first begins
  cycle : begins.cycle ≡ c
  is : IsCycle any_prediction (lines_at arrivals begins.cycle) begins here ends
  after : Cycles arrivals ends later new
  steps : steps_of reports ≡ steps_of first ++ (here.steps ++ steps_of later)

around : {arrivals : List Arrival} (c : ℕ) {old new : Hardware} {reports : List Report} →
    Cycles arrivals old reports new → old.cycle ≤ c → c < new.cycle → Around arrivals c old reports new
around c ended from to = absurd (omega (arith, from, to))
around {arrivals} c
    (cycled {old = old} {middle = middle} {new = new} {report = report} {reports = reports} is rest) from to =
    let next : middle.cycle ≡ old.cycle + 1 = ap (λ (h : Hardware). h.cycle) is.others_stay in
    elim (cases_lt old.cycle c) [
      | inl later ↦
          let there : Around arrivals c middle reports new = around c rest (omega (arith, next, later)) to in
          record {
            first = report ∷ there.first;
            here = there.here;
            later = there.later;
            begins = there.begins;
            ends = there.ends;
            before = cycled is there.before;
            cycle = there.cycle;
            is = there.is;
            after = there.after;
            steps = ap (λ l. report.steps ++ l) there.steps ∙
                sym (append_assoc report.steps (steps_of there.first) (there.here.steps ++ steps_of there.later));
          }
      | inr here ↦
          record {
            first = [];
            here = report;
            later = reports;
            begins = old;
            ends = middle;
            before = ended;
            cycle = omega (arith, here, from);
            is = is;
            after = rest;
            steps = refl;
          }
    ]

module _ {v : Values} {earlier : List Step} {arrivals : List Arrival} {c : ℕ} {old new : Hardware}
    {reports : List Report} (history : History v earlier old) (reached : Reachable old)
    (a : Around arrivals c old reports new) where
  history_here : History v (earlier ++ steps_of a.first) a.begins
  history_here = history_runs a.before history

  next_is : a.ends.cycle ≡ a.begins.cycle + 1
  next_is = ap (λ (h : Hardware). h.cycle) a.is.others_stay

  first_below : Each (λ s. stamp_of s < c) (steps_of a.first)
  first_below =
      each_then (λ s lt. omega (arith, lt, a.cycle)) _ (Each-right _ earlier _ (history_has_steps history_here).before)

  here_in : Each (λ s. stamp_of s ≡ c) a.here.steps
  here_in =
      each_then (λ s at. omega (arith, at, a.cycle)) _
      (steps_of_cycle v (history_is_legal history_here) (earlier ++ steps_of a.first) a.begins a.ends
      (lines_at arrivals a.begins.cycle) a.here (history_is_sound history_here) (history_has_steps history_here) a.is)

  later_after : Each (λ s. c < stamp_of s) (steps_of a.later)
  later_after =
      each_then (λ s le. omega (arith, le)) _
      (since_by (c + 1) a.after (went_on history_here a.is) (omega (arith, next_is, a.cycle)))

  all_below : steps_below c (steps_of reports) ≡ steps_of a.first
  all_below =
      let below : Step → Bool = λ s. nat_lt (stamp_of s) c in
      ap (filter below) a.steps
      ∙ filter-three below (steps_of a.first) a.here.steps (steps_of a.later)
      ∙ ap (λ l. l ++ (filter below a.here.steps ++ filter below (steps_of a.later)))
      (kept_all below _ (each_then (λ s lt. lt-ltb (stamp_of s) c lt) _ first_below))
      ∙ ap (λ l. steps_of a.first ++ (l ++ filter below (steps_of a.later)))
      (kept_none below _ (each_then (λ s at. le-ltb (stamp_of s) c (omega (arith, at))) _ here_in))
      ∙ ap (λ l. steps_of a.first ++ l)
      (kept_none below _ (each_then (λ s lt. le-ltb (stamp_of s) c (omega (arith, lt))) _ later_after))
      ∙ append-nil (steps_of a.first)

  all_in : steps_in c (steps_of reports) ≡ a.here.steps
  all_in =
      let test : Step → Bool = λ s. stamp_of s == c in
      ap (filter test) a.steps
      ∙ filter-three test (steps_of a.first) a.here.steps (steps_of a.later)
      ∙ ap (λ l. l ++ (filter test a.here.steps ++ filter test (steps_of a.later)))
      (kept_none test _ (each_then (λ s lt. ne_eqb (stamp_of s) c (omega (arith, lt))) _ first_below))
      ∙ ap (λ l. l ++ filter test (steps_of a.later))
      (kept_all test _ (each_then (λ s at. eq-eqb (stamp_of s) c at) _ here_in))
      ∙ ap (λ l. a.here.steps ++ l)
      (kept_none test _ (each_then (λ s lt. ne_eqb (stamp_of s) c (omega (arith, lt))) _ later_after))
      ∙ append-nil a.here.steps

  abbrev Reaches : List Step → Type 0
  Reaches below =
      Run (layout_of old.values) arrivals (seen old) (map stamp_of below) (map reference_step below) (seen a.begins)

  due_is_taken : (code : ℕ) → due a.begins.csrs (lines_at arrivals c) ≡ Some code →
      steps_in c (steps_of reports) ≡ Interrupt a.begins.pc (interrupt_cause code) c ∷ []
  due_is_taken code given = grind (arith, all_in, due_interrupt_is_taken)

  taken_around : (s : State) ×
      Run (layout_of old.values) arrivals (seen old) (map stamp_of (steps_below c (steps_of reports)))
      (map reference_step (steps_below c (steps_of reports))) s ×
      ((code : ℕ) → due s.csrs (lines_at arrivals c) ≡ Some code →
      steps_in c (steps_of reports) ≡ Interrupt s.pc (interrupt_cause code) c ∷ [])
  taken_around = (seen a.begins, subst Reaches (sym all_below) (headline_of_run reached a.before).runs, due_is_taken)

-- an interrupt that is due in a cycle of a run is its one step
pub due_interrupts_of_runs : {arrivals : List Arrival} {old new : Hardware} {reports : List Report} → Reachable old →
    Cycles arrivals old reports new →
    TakesDueInterrupts (layout_of old.values) arrivals old.cycle new.cycle (seen old) (steps_of reports)
due_interrupts_of_runs {arrivals = arrivals} {old = old} {new = new} {reports = reports} reached cycles c from to =
    let before = reachable_has_history reached in
    taken_around before.2 reached (around c cycles from to)
