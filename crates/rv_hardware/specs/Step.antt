-- What a reported step shows.
use Rattle.std.specs.Prelude.{ℕ, Bool, true, false}
use Rattle.rv_isa.specs.declared.causes.Cause.{Cause}
use Rattle.rv_isa.specs.declared.causes.Cause.TheVariants as cause
use Rattle.rv_hardware.specs.declared.step.Step.{Step}
use Rattle.rv_hardware.specs.declared.step.Step.TheVariants.{Retired, Trap, Interrupt}

-- the cycle of a step: that of its retirement, trap or interrupt
abbrev pub stamp_of : Step → ℕ
stamp_of (Retired row) = row.retired
stamp_of (Trap pc cause value cycle) = cycle
stamp_of (Interrupt pc cause cycle) = cycle

-- the cause of a breakpoint
abbrev pub is_breakpoint_cause : Cause → Bool
is_breakpoint_cause cause.Breakpoint = true
is_breakpoint_cause _ = false

-- the step is a trap with cause 3
abbrev pub is_breakpoint : Step → Bool
is_breakpoint (Retired row) = false
is_breakpoint (Trap pc cause value cycle) = is_breakpoint_cause cause
is_breakpoint (Interrupt pc cause cycle) = false

-- the pc of a step: that of the instruction that retired or trapped, or that an interrupt came before
abbrev pub pc_of : Step → ℕ
pc_of (Retired row) = row.pc
pc_of (Trap pc cause value cycle) = pc
pc_of (Interrupt pc cause cycle) = pc

-- the step is a retirement
abbrev pub is_retirement : Step → Bool
is_retirement (Retired row) = true
is_retirement (Trap pc cause value cycle) = false
is_retirement (Interrupt pc cause cycle) = false

-- the step is a trap
abbrev pub is_trap : Step → Bool
is_trap (Retired row) = false
is_trap (Trap pc cause value cycle) = true
is_trap (Interrupt pc cause cycle) = false

-- the step is an interrupt
abbrev pub is_interrupt : Step → Bool
is_interrupt (Retired row) = false
is_interrupt (Trap pc cause value cycle) = false
is_interrupt (Interrupt pc cause cycle) = true
