use Rattle.std.specs.Prelude.{◌≡◌, ℕ, ◌+◌, ◌<◌, ◌≤◌, true, false, List, [], ◌∷◌, ◌++◌, length}
use Rattle.std.specs.List.{list_any, range_with_len}
use Rattle.rv_isa.specs.declared.lines.Arrival.{Arrival}
use Rattle.rv_isa.specs.Arrivals.{lines_at}
use Rattle.rv_arch.specs.declared.outcome.{RefStep.RefStep, Stop.Stop, RefOutcome.RefOutcome}
use Rattle.rv_arch.specs.declared.outcome.RefStep.TheVariants as step
use Rattle.rv_arch.specs.declared.outcome.Stop.TheVariants as stop
use Rattle.rv_arch.specs.Machine.{Machine}
use Rattle.rv_memory.specs.Memory.{Layout}
use Rattle.rv_arch.specs.Run.{Run, is_retired, is_trap, is_interrupt, is_breakpoint, count_of, lines_through}
use Rattle.rv_arch.specs.State.{State}
use Rattle.rv_arch.specs.Step.{Step}

-- no outcome is a breakpoint
abbrev pub HasNoBreakpoint : List RefStep → Type 0
HasNoBreakpoint outcomes = list_any is_breakpoint outcomes ≡ false

-- the last outcome is a breakpoint, and none before it is
pub record EndsAtBreakpoint (outcomes : List RefStep) : Type 0 where
  pub earlier : List RefStep
  pub last : RefStep
  pub all : outcomes ≡ earlier ++ last ∷ []
  pub breaks : is_breakpoint last ≡ true
  pub first : HasNoBreakpoint earlier

-- why a run of at most `limit` steps ended with these outcomes in this state
abbrev pub IsStop : Layout → List Arrival → ℕ → List RefStep → State → Stop → Type 0
IsStop layout arrivals limit outcomes s stop.Limit = HasNoBreakpoint outcomes × (length outcomes ≡ limit)
IsStop layout arrivals limit outcomes s stop.Breakpoint = EndsAtBreakpoint outcomes × (length outcomes ≤ limit)
IsStop layout arrivals limit outcomes s (stop.Stale pc) =
    HasNoBreakpoint outcomes × (length outcomes < limit)
    × Step layout s (lines_at arrivals (length outcomes)) (step.Stale pc) s
IsStop layout arrivals limit outcomes s stop.Exhausted = ⊥

-- how many steps were asked for: one more than were taken where the last was found stale
abbrev pub steps_asked : ℕ → Stop → ℕ
steps_asked steps (stop.Stale pc) = steps + 1
steps_asked steps stop.Limit = steps
steps_asked steps stop.Breakpoint = steps
steps_asked steps stop.Exhausted = steps

-- A run from old to new with the stamps 0, 1, 2 and so on, up to a breakpoint, a stale word or the limit.
pub record IsRunTo (arrivals : List Arrival) (limit : ℕ) (old new : Machine) (outcome : RefOutcome) : Type 0 where
  pub outcomes : List RefStep
  pub run : Run old.layout arrivals old.state (range_with_len 0 outcome.steps) outcomes new.state
  pub steps : outcome.steps ≡ length outcomes
  pub retired : outcome.retired ≡ count_of is_retired outcomes
  pub traps : outcome.traps ≡ count_of is_trap outcomes
  pub interrupts : outcome.interrupts ≡ count_of is_interrupt outcomes
  pub stop : IsStop old.layout arrivals limit outcomes new.state outcome.stop
  pub layout : new.layout ≡ old.layout
  pub lines : new.lines ≡ lines_through arrivals old.lines (range_with_len 0 (steps_asked outcome.steps outcome.stop))
