use Rattle.std.specs.Prelude.{◌≡◌, ℕ, ◌+◌, Bool, true, false, if◌then◌else◌, List, [], ◌∷◌}
use Rattle.rv_isa.specs.declared.{lines.Arrival.Arrival, lines.Lines.Lines}
use Rattle.rv_isa.specs.declared.causes.Cause.TheVariants.{Breakpoint}
use Rattle.rv_isa.specs.Arrivals.{lines_at}
use Rattle.rv_arch.specs.declared.outcome.RefStep.{RefStep}
use Rattle.rv_arch.specs.declared.outcome.RefStep.TheVariants.{Retired, Trap, Interrupt, Stale}
use Rattle.rv_memory.specs.Memory.{Layout}
use Rattle.rv_arch.specs.State.{State}
use Rattle.rv_arch.specs.Step.{Step}

-- an instruction retired
abbrev pub is_retired : RefStep → Bool
is_retired (Retired pc word written) = true
is_retired _ = false

-- an exception was taken (Privileged Architecture 20211203, 3.1.15)
abbrev pub is_trap : RefStep → Bool
is_trap (Trap pc cause value) = true
is_trap _ = false

-- an interrupt was taken (Privileged Architecture 20211203, 3.1.9)
abbrev pub is_interrupt : RefStep → Bool
is_interrupt (Interrupt pc cause) = true
is_interrupt _ = false

-- a stale word was found (Unprivileged ISA 20191213, 3)
abbrev pub is_stale : RefStep → Bool
is_stale (Stale pc) = true
is_stale _ = false

-- a trap whose cause is a breakpoint, 3
abbrev pub is_breakpoint : RefStep → Bool
is_breakpoint (Trap pc Breakpoint value) = true
is_breakpoint _ = false

-- A run: one step for each stamp, with the lines as they are at that stamp, and none of the outcomes is stale.
pub data Run (layout : Layout) (arrivals : List Arrival) : State → List ℕ → List RefStep → State → Type 0 where
  ended : {s : State} → Run layout arrivals s [] [] s
  stepped : {s t u : State} {stamp : ℕ} {stamps : List ℕ} {outcome : RefStep} {outcomes : List RefStep} →
      Step layout s (lines_at arrivals stamp) outcome t → is_stale outcome ≡ false →
      Run layout arrivals t stamps outcomes u →
      Run layout arrivals s (stamp ∷ stamps) (outcome ∷ outcomes) u

-- how many of the outcomes pass a test
abbrev pub count_of : (RefStep → Bool) → List RefStep → ℕ
count_of test [] = 0
count_of test (outcome ∷ outcomes) = (if test outcome then 1 else 0) + count_of test outcomes

-- the lines that the machine was last given, after steps at these stamps
abbrev pub lines_through : List Arrival → Lines → List ℕ → Lines
lines_through arrivals before [] = before
lines_through arrivals before (stamp ∷ stamps) = lines_through arrivals (lines_at arrivals stamp) stamps
