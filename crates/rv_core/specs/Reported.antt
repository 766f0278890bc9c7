-- What a cycle reports, and what a turn of a phase leaves, by what it returns.
use Rattle.std.specs.Prelude.{◌≡◌, ℕ, ◌+◌, List, [], ◌∷◌, ◌≤◌, length, Option, Some, None, IfSome}
use Rattle.rv_isa.specs.declared.lines.Lines.{Lines}
use Rattle.rv_arch.specs.Due.{due}
use Rattle.rv_arch.specs.State.{State}
use Rattle.rv_arch.specs.Trap.{interrupt_cause}
use Rattle.rv_arch.specs.declared.outcome.Stop.TheVariants.{Exhausted}
use Rattle.rv_hardware.specs.Dispatch.{Dispatching}
use Rattle.rv_front.specs.Guide.{Guide}
use Rattle.rv_hardware.specs.Guided.{IsGuidedCycle, guided}
use Rattle.rv_hardware.specs.Hardware.{Hardware}
use Rattle.rv_hardware.specs.Repeated.{Turn, GoesOn, Ends}
use Rattle.rv_hardware.specs.Report.{Report}
use Rattle.rv_hardware.specs.declared.{report.Stall.Stall, step.Step.Step}
use Rattle.rv_hardware.specs.declared.step.Step.TheVariants.{Interrupt}
use Rattle.rv_core.specs.Steps.{Takes}
use Rattle.rv_core.specs.declared.outcome.{CycleEnd.CycleEnd, CycleReport.CycleReport}
use Rattle.rv_core.specs.declared.steps.Steps.{Steps}

-- the dispatch phase once so many instructions were dispatched
abbrev pub dispatching : Hardware → ℕ → Dispatching
dispatching h dispatched = record { hardware = h; dispatched = dispatched; waits_for = None }

-- a turn of the dispatch phase, which says what the instruction waits for, if it waits
abbrev pub dispatch_left : Option Stall → Hardware → ℕ → Turn Dispatching
dispatch_left None h dispatched = GoesOn (dispatching h (dispatched + 1))
dispatch_left (Some reason) h dispatched =
    Ends (record { hardware = h; dispatched = dispatched; waits_for = Some reason })

-- what a cycle reports, of its steps and of what it did beside them
abbrev pub report_with : List Step → CycleEnd → Report
report_with steps end = record { steps = steps; dispatched = end.dispatched; stall = end.stall; stop = end.stop }

-- a cycle led from hardware and what was known of its predictor to both as they are then
abbrev pub DoesCycle : Lines → Hardware → Guide → Report → Hardware → Guide → Type 0
DoesCycle lines old taught report new learned = IsGuidedCycle lines (guided old taught) report (guided new learned)

-- such a cycle, whose steps, eight at most, were taken
abbrev pub TakesCycle : Lines → Hardware → Guide → Hardware → Guide → Steps → Steps → CycleEnd → Type 0
TakesCycle lines old taught new learned before after end =
    (steps : List Step) × Takes before after steps × (length steps ≤ 8)
    × DoesCycle lines old taught (report_with steps end) new learned

-- what a cycle of a pipeline reports
abbrev pub report_of_cycle : CycleReport → Report
report_of_cycle report =
    record { steps = report.steps.items; dispatched = report.dispatched; stall = report.stall; stop = report.stop }

-- the report of a pipeline that has done all the cycles that it counts
abbrev pub exhausted_report : Report
exhausted_report = record { steps = []; dispatched = 0; stall = None; stop = Some Exhausted }

-- an interrupt that is due in the state before a cycle, with the lines of the cycle, is the cycle's one step
abbrev pub TakesDue : Lines → ℕ → State → List Step → Type 0
TakesDue lines cycle before steps =
    IfSome (due before.csrs lines) (λ code. steps ≡ Interrupt before.pc (interrupt_cause code) cycle ∷ [])
