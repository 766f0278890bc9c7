-- The headline: the reported steps are the one-at-a-time machine's, and lead from what programs saw before to what they see after.
use Rattle.std.specs.Prelude.{◌≡◌, ℕ, ◌+◌, ◌^◌, ◌<◌, ◌≤◌, ◌↔◌, true, false, List, [], ◌∷◌, map, Option, Some}
use Rattle.std.specs.List.{All, AllPairs, list_any}
use Rattle.rv_isa.specs.Arrivals.{lines_at}
use Rattle.rv_isa.specs.declared.lines.{Arrival.Arrival, Lines.Lines}
use Rattle.rv_arch.specs.Run.{Run}
use Rattle.rv_arch.specs.State.{State}
use Rattle.rv_arch.specs.Step.{Step as MachineStep}
use Rattle.rv_arch.specs.declared.outcome.{RefStep.RefStep, Stop.Stop}
use Rattle.rv_arch.specs.declared.outcome.RefStep.TheVariants as machine
use Rattle.rv_arch.specs.declared.outcome.Stop.TheVariants as stop
use Rattle.rv_memory.specs.Memory.{Layout}
use Rattle.rv_hardware.specs.Step.{stamp_of, is_breakpoint, is_retirement}
use Rattle.rv_hardware.specs.declared.step.Step.{Step}
use Rattle.rv_hardware.specs.declared.step.Step.TheVariants as step

-- the step of the one-at-a-time machine that a reported step stands for: its kind and its pc, and the word, the register and
-- the value, or the cause and the value
abbrev pub reference_step : Step → RefStep
reference_step (step.Retired row) = machine.Retired row.pc row.word row.written
reference_step (step.Trap pc cause value cycle) = machine.Trap pc cause value
reference_step (step.Interrupt pc cause cycle) = machine.Interrupt pc cause

-- The machine, with the same lines at each step, takes the steps one after another, and they lead it from a state to another.
pub data Lead (layout : Layout) (lines : Lines) : State → List Step → State → Type 0 where
  nowhere : {s : State} → Lead layout lines s [] s
  onwards : {s t u : State} {first : Step} {steps : List Step} →
      MachineStep layout s lines (reference_step first) t → Lead layout lines t steps u →
      Lead layout lines s (first ∷ steps) u

-- nothing follows a trap or an interrupt
abbrev pub EndAtTraps : List Step → Type 0
EndAtTraps [] = Unit {0}
EndAtTraps (first ∷ steps) = (is_retirement first ≡ false → steps ≡ []) × EndAtTraps steps

-- What a cycle reports, with the lines' levels in it: the state before and after it is the one that programs see.
pub record IsTrueCycle (layout : Layout) (lines : Lines) (cycle : ℕ) (before : State) (steps : List Step)
    (ending : Option Stop) (after : State) : Type 0 where
  -- the machine takes the steps from the state before, and reaches the state after
  pub leads : Lead layout lines before steps after
  -- so at a trap or an interrupt all earlier instructions and no later one have taken effect
  pub precise : EndAtTraps steps
  pub stamped : All (λ s. stamp_of s ≡ cycle) steps
  -- the cycle ends the run at a breakpoint exactly where it reports one, and at a stale word only where the machine finds it
  pub breakpoint : (ending ≡ Some stop.Breakpoint) ↔ (list_any is_breakpoint steps ≡ true)
  pub stale : (pc : ℕ) → ending ≡ Some (stop.Stale pc) → MachineStep layout after lines (machine.Stale pc) after

-- a step of a run comes no later than those after it, and a trap or an interrupt in an earlier cycle
pub record ComesBefore (earlier later : Step) : Type 0 where
  pub in_order : stamp_of earlier ≤ stamp_of later
  pub precise : is_retirement earlier ≡ false → stamp_of earlier < stamp_of later

-- What a run reports whose cycles are numbered from `first` to below `done`: the state before and after it is the one that
-- programs see.
pub record IsTrueRun (layout : Layout) (arrivals : List Arrival) (first done : ℕ) (before : State) (steps : List Step)
    (after : State) : Type 0 where
  -- the machine takes the steps from the state before, each with the lines of its cycle, and reaches the state after
  pub runs : Run layout arrivals before (map stamp_of steps) (map reference_step steps) after
  pub within : All (λ s. (first ≤ stamp_of s) × (stamp_of s < done)) steps
  pub in_order : AllPairs ComesBefore steps

-- the machine, with the lines of the last cycle, finds a stale word at a pc
pub record FindsStale (layout : Layout) (arrivals : List Arrival) (first done : ℕ) (after : State)
    (pc : ℕ) : Type 0 where
  pub last : ℕ
  pub last_is : done ≡ last + 1
  pub in_run : first ≤ last
  pub stale : MachineStep layout after (lines_at arrivals last) (machine.Stale pc) after

-- where one of the steps is a breakpoint, it is the last of them, and comes in the last cycle
abbrev pub EndAtBreakpoints : ℕ → List Step → Type 0
EndAtBreakpoints done [] = Unit {0}
EndAtBreakpoints done (first ∷ steps) =
    (is_breakpoint first ≡ true → (steps ≡ []) × (stamp_of first + 1 ≡ done)) × EndAtBreakpoints done steps

-- why a run of at most `limit` cycles ended
pub record IsTrueStop (layout : Layout) (arrivals : List Arrival) (limit first done : ℕ) (steps : List Step)
    (after : State) (reason : Stop) : Type 0 where
  pub breakpoint : (reason ≡ stop.Breakpoint) ↔ (list_any is_breakpoint steps ≡ true)
  pub no_earlier : EndAtBreakpoints done steps
  pub stale : (pc : ℕ) → reason ≡ stop.Stale pc → FindsStale layout arrivals first done after pc
  pub at_limit : reason ≡ stop.Limit → done ≡ first + limit
  pub exhausted : reason ≡ stop.Exhausted → done ≡ 2 ^ 40
