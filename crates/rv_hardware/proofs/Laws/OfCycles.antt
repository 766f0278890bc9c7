-- An interrupt that is due is the one step of its cycle, and a cycle dispatches something or stalls for one reason.
use Rattle.rv_hardware.proofs.Words.{◌≡◌, ℕ, ◌+◌, List, [], ◌∷◌, length, ◌==◌, Some, Option, ap, arith, Arrival, Lines}
use Rattle.rv_hardware.proofs.Words.{Values, due, interrupt_cause, commit_unless, IsCycle, any_prediction, Hardware}
use Rattle.rv_hardware.proofs.Words.{stall_cycles, Report, Cycles, Reachable, busy_of, cycled, ended, stalls_of, Step}
use Rattle.rv_hardware.proofs.Words.{Interrupt}
use Rattle.std.specs.FinSet as set
use Rattle.rv_hardware.proofs.Laws.Counts.{IsCounted, AreAllCounted, dispatch_is_counted, busy_and_stalls}
use Rattle.rv_hardware.proofs.Marks.History.{Anything, History, went_on, Passed, history_is_legal}
use Rattle.rv_hardware.proofs.Marks.History.{reachable_has_history, history_passes, sent_all}

interrupted_by : (o : Option ℕ) (h : Hardware) (code : ℕ) → o ≡ Some code →
    (commit_unless set.contains o h).steps ≡ Interrupt h.pc (interrupt_cause code) h.cycle ∷ []
interrupted_by o h code is = grind arith

-- an interrupt that is due is the one step of the cycle
pub due_interrupt_is_taken : (lines : Lines) (old new : Hardware) (report : Report) (code : ℕ) →
    IsCycle any_prediction lines old report new → due old.csrs lines ≡ Some code →
    report.steps ≡ Interrupt old.pc (interrupt_cause code) old.cycle ∷ []
due_interrupt_is_taken lines old new report code is given = grind (arith, interrupted_by)

module _ (v : Values) {steps : List Step} {old new : Hardware} {lines : Lines} {report : Report}
    (history : History v steps old) (is : IsCycle any_prediction lines old report new) where
  -- a cycle that goes on from a history passes through its phases
  pub passes_here : Passed v Anything steps lines old report new
  passes_here = history_passes v history is

  -- it dispatches something, or else stalls for one reason
  pub cycle_is_counted : IsCounted (report.dispatched == 0) report.stall
  cycle_is_counted =
      let width = ap (λ (w : Values). w.dispatch_width) passes_here.sends.basics.always.sizes.values in
      let counted_once = dispatch_is_counted (sent_all lines old)
      (omega (arith, width, (history_is_legal history).pipeline.dispatch_width)) in
      rw (passes_here.report_is.0, passes_here.report_is.1) counted_once

-- over a run

pub run_is_counted : {v : Values} {arrivals : List Arrival} {steps : List Step} {old new : Hardware}
    {reports : List Report} →
    Cycles arrivals old reports new → History v steps old →
    AreAllCounted reports × (new.cycle ≡ old.cycle + length reports)
run_is_counted ended history = (tt, omega arith)
run_is_counted {v} {steps} (cycled {old = old} {middle = middle} {report = report} {reports = reports} is rest)
    history =
    let passed = passes_here v history is in
    let next : middle.cycle ≡ old.cycle + 1 = ap (λ (h : Hardware). h.cycle) passed.others_stay in
    let further = run_is_counted rest (went_on history is) in
    ((cycle_is_counted v history is, further.0), omega (arith, further.1, next))

-- busy cycles and stalls make the cycles of a run
pub counts_of_runs : {arrivals : List Arrival} {old new : Hardware} {reports : List Report} → Reachable old →
    Cycles arrivals old reports new →
    (busy_of reports + stall_cycles (stalls_of reports) ≡ length reports) × (new.cycle ≡ old.cycle + length reports)
counts_of_runs {reports = reports} reached cycles =
    grind (arith, reachable_has_history, run_is_counted, busy_and_stalls)
