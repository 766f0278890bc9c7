-- The interrupt lines keep the levels of the last cycle.
use Rattle.std.proofs.Common.{◌≡◌, ℕ, ◌+◌, List, sym, subst, ap, ◌∙◌, refl, arith}
use Rattle.std.proofs.lemmas.Bool.{ne_eqb}
use Rattle.std.specs.FinSet as set
use Rattle.rv_isa.specs.Arrivals.{lines_at}
use Rattle.rv_isa.specs.declared.{lines.Arrival.Arrival, lines.Lines.Lines}
use Rattle.rv_isa.specs.Arrivals.{no_lines}
use Rattle.rv_hardware.specs.Broadcast.{broadcast}
use Rattle.rv_hardware.specs.Commit.{Committing}
use Rattle.rv_hardware.specs.Cycle.{IsCycle, any_prediction, execute, with_lines}
use Rattle.rv_hardware.specs.Dispatch.{Dispatching}
use Rattle.rv_hardware.specs.Drain.{drain}
use Rattle.rv_hardware.specs.Hardware.{Hardware}
use Rattle.rv_hardware.specs.Issue.{issue}
use Rattle.rv_hardware.specs.Report.{Report}
use Rattle.rv_hardware.specs.Run.{Cycles, ended, cycled}
use Rattle.rv_hardware.proofs.Turns.KeptByBroadcast.{broadcast-keeps}
use Rattle.rv_hardware.proofs.Turns.KeptByCommit.{commit-keeps}
use Rattle.rv_hardware.proofs.Turns.KeptByDispatch.{dispatch-keeps}
use Rattle.rv_hardware.proofs.Turns.KeptByDrain.{drain-keeps}
use Rattle.rv_hardware.proofs.Turns.KeptByIssue.{issue-keeps}
use Rattle.rv_program.specs.SimulationReport.{lines_after}

abbrev Has : Lines → Hardware → Type 0
Has lines h = h.lines ≡ lines

-- no phase from commit on changes the lines
executed_lines : (lines : Lines) (h : Hardware) → Has lines h → Has lines (execute h).hardware
executed_lines lines h has =
    let drained : Has lines (drain h) =
    drain-keeps {P = Has lines}
    (record { leaves = λ g same idle. same; drains = λ g access same idle is. same }) h has in
    let issued : Has lines (issue (drain h)) =
    issue-keeps (Has lines) (λ k. record {
      accesses = λ g older younger e address same split ready by. same;
      starts = λ g older younger e cost message same split waits of_kind result costs. same;
    }) (drain h) drained in
    let broadcasts : Has lines (broadcast (issue (drain h))) =
    broadcast-keeps {P = Has lines}
    (record {
      broadcasts = λ g older younger e message same split gives. same;
      mends = λ g older younger e next same split. same;
    }) (issue (drain h)) issued in
    dispatch-keeps {P = Has lines} (record { dispatches = λ g fetched rest same first none. same })
    (broadcast (issue (drain h))) broadcasts

cycle_lines : {lines : Lines} {old new : Hardware} {report : Report} → IsCycle any_prediction lines old report new →
    new.lines ≡ lines
cycle_lines {lines} {old} {new} cycle =
    let committed : Has lines cycle.committing.hardware =
    subst (λ (c : Committing). Has lines c.hardware) (sym cycle.commits)
    (commit-keeps {P = Has lines} (record {
      empties = λ h s retired same. same;
      retires = λ h e es s message same split known faultless. same;
      writes_back = λ h same drained. same;
    }) set.contains (with_lines lines old) refl) in
    let executed : Has lines cycle.dispatching.hardware =
    subst (λ (d : Dispatching). Has lines d.hardware) (sym cycle.executes)
    (executed_lines lines cycle.committing.hardware committed) in
    ap (λ (h : Hardware). h.lines) cycle.others_stay ∙ executed

one_more : (arrivals : List Arrival) (n : ℕ) → lines_after arrivals (n + 1) ≡ lines_at arrivals n
one_more arrivals n = grind (arith, ne_eqb)

-- after the cycles of a run
run_lines : {arrivals : List Arrival} {old new : Hardware} {reports : List Report} → Cycles arrivals old reports new →
    old.lines ≡ lines_after arrivals old.cycle → new.lines ≡ lines_after arrivals new.cycle
run_lines ended is = is
run_lines {arrivals} (cycled {old = old} {middle = middle} cycle rest) is =
    let next : middle.cycle ≡ old.cycle + 1 = ap (λ (h : Hardware). h.cycle) cycle.others_stay in
    run_lines rest (cycle_lines cycle ∙ sym (ap (lines_after arrivals) next ∙ one_more arrivals old.cycle))

-- after some cycles from reset the lines are at the levels of the last one
pub lines_are : {arrivals : List Arrival} {old new : Hardware} {reports : List Report} →
    Cycles arrivals old reports new → old.lines ≡ no_lines → old.cycle ≡ 0 → new.lines ≡ lines_after arrivals new.cycle
lines_are {arrivals} cycles low first = run_lines cycles (low ∙ ap (lines_after arrivals) (sym first))
