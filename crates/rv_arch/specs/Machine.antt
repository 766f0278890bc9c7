use Rattle.std.specs.Prelude.{◌≡◌, ℕ, Option, Result, MatchResult}
use Rattle.rv_isa.specs.declared.{causes.Fault.Fault, lines.Lines.Lines}
use Rattle.rv_memory.specs.Memory.{Layout}
use Rattle.rv_arch.specs.Effect.{Effect, Retires, Faults}
use Rattle.rv_arch.specs.State.{State}

-- the one-at-a-time machine: where its RAM lies, the state that programs see, and the lines of its last step
pub record Machine : Type 0 where
  pub layout : Layout
  pub state : State
  pub lines : Lines

-- the machine went from old to new by an instruction's effect, and answers the register that changed, or the fault,
-- which changes nothing
abbrev pub IsPerformed : Effect → Result (Option (ℕ × ℕ)) Fault → Machine → Machine → Type 0
IsPerformed effect result old new = MatchResult result
    (λ written. (effect ≡ Retires written new.state) × (new ≡ record old { state = new.state }))
    (λ fault. (effect ≡ Faults fault.cause fault.value) × (new ≡ old))
